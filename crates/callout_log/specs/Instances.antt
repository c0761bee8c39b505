-- Logs with their bytes written out: no callouts, a trailer alone, two callouts, and a full store.
use Rattle.std.specs.Prelude.{◌≡◌, List, [], ◌∷◌, ◌++◌, ℕ, drop, length, replicate, set, Ok}
use Rattle.base.specs.Lists.{zeros}
use Rattle.callout_log.specs.declared.record.Record.{Record}
use Rattle.callout_log.specs.Log.{log_bytes}
use Rattle.callout_log.specs.Append.{appending, append_log, reports_in}
use Rattle.callout_log.specs.Read.{Lists, lists_of, reading, read_log}
use Rattle.callout_log.specs.Laws.{All, Appends, NotAppended, NotRead, Report, Room, reports_of}

-- a trailer alone
abbrev pub empty_bytes : List ℕ
empty_bytes = 16 ∷ 0 ∷ 0 ∷ 0 ∷ 0 ∷ 0 ∷ 0 ∷ 0 ∷ 0 ∷ 0 ∷ 0 ∷ 0 ∷ 0 ∷ 0 ∷ 0 ∷ 0 ∷ []

-- a report of a message out of the window
abbrev pub outside_report : Record
outside_report = record { time = 1; counter = 2; session_id = 3; local_index = 4; verdict = 9 }

-- a callout of one report
abbrev pub one_report : List Record
one_report = outside_report ∷ []

-- its bytes
abbrev pub one_bytes : List ℕ
one_bytes =
    1 ∷ 0 ∷ 0 ∷ 0 ∷ 0 ∷ 0 ∷ 0 ∷ 0 ∷ 2 ∷ 0 ∷ 0 ∷ 0 ∷ 0 ∷ 0 ∷ 0 ∷ 0
    ∷ 3 ∷ 0 ∷ 0 ∷ 0 ∷ 0 ∷ 0 ∷ 0 ∷ 0 ∷ 4 ∷ 0 ∷ 0 ∷ 0 ∷ 9 ∷ 0 ∷ 0 ∷ 0
    ∷ 48 ∷ 0 ∷ 0 ∷ 0 ∷ 0 ∷ 0 ∷ 0 ∷ 0 ∷ 1 ∷ 0 ∷ 0 ∷ 0 ∷ 0 ∷ 0 ∷ 0 ∷ 0 ∷ []

-- a report of a committed message, with the greatest time, counter and index
abbrev pub committed_report : Record
committed_report = record { time = 4000000000000000000; counter = 18446744073709551615; session_id = 256; local_index = 4294967295; verdict = 0 }

-- a report of a message committed before, with the greatest session id
abbrev pub again_report : Record
again_report = record { time = 258; counter = 65536; session_id = 18446744073709551615; local_index = 16909060; verdict = 10 }

-- a callout of two reports
abbrev pub two_reports : List Record
two_reports = committed_report ∷ again_report ∷ []

-- its bytes
abbrev pub two_bytes : List ℕ
two_bytes =
    0 ∷ 0 ∷ 144 ∷ 157 ∷ 206 ∷ 218 ∷ 130 ∷ 55 ∷ 255 ∷ 255 ∷ 255 ∷ 255 ∷ 255 ∷ 255 ∷ 255 ∷ 255
    ∷ 0 ∷ 1 ∷ 0 ∷ 0 ∷ 0 ∷ 0 ∷ 0 ∷ 0 ∷ 255 ∷ 255 ∷ 255 ∷ 255 ∷ 0 ∷ 0 ∷ 0 ∷ 0
    ∷ 2 ∷ 1 ∷ 0 ∷ 0 ∷ 0 ∷ 0 ∷ 0 ∷ 0 ∷ 0 ∷ 0 ∷ 1 ∷ 0 ∷ 0 ∷ 0 ∷ 0 ∷ 0
    ∷ 255 ∷ 255 ∷ 255 ∷ 255 ∷ 255 ∷ 255 ∷ 255 ∷ 255 ∷ 4 ∷ 3 ∷ 2 ∷ 1 ∷ 10 ∷ 0 ∷ 0 ∷ 0
    ∷ 80 ∷ 0 ∷ 0 ∷ 0 ∷ 0 ∷ 0 ∷ 0 ∷ 0 ∷ 2 ∷ 0 ∷ 0 ∷ 0 ∷ 0 ∷ 0 ∷ 0 ∷ 0 ∷ []

-- the two callouts, the last one first
abbrev pub two_callouts : List (List Record)
two_callouts = two_reports ∷ one_report ∷ []

-- a store of 130 bytes
abbrev pub before : List ℕ
before = zeros 128 ++ 254 ∷ 255 ∷ []

-- the store with the callout of one report
abbrev pub between : List ℕ
between = one_bytes ++ zeros 80 ++ 254 ∷ 255 ∷ []

-- the store with both callouts
abbrev pub after : List ℕ
after = one_bytes ++ two_bytes ++ 254 ∷ 255 ∷ []

-- lists that the two callouts fill
abbrev pub exact_lists : Lists
exact_lists = lists_of (zeros 2) (zeros 3) (zeros 3) (zeros 3) (zeros 3) (zeros 3)

-- callouts of 1,024 and of 1,023 records
unfoldable pub full_callouts : List (List Record)
full_callouts = replicate 1024 outside_report ∷ replicate 1023 outside_report ∷ []

-- Appends and reads of logs with their bytes written out, and of a log that fills its store.
pub record LogInstances : Type 0 where
  pub no_callouts : (l : Lists) → read_log (zeros 3) 0 l ≡ reading (Ok 0) l
  pub trailer_alone : append_log (zeros 16) 0 (reports_of []) ≡ appending (Ok 16) empty_bytes
  pub trailer_read : read_log empty_bytes 16 (lists_of (7 ∷ []) [] [] [] [] []) ≡ reading (Ok 1) (lists_of (0 ∷ []) [] [] [] [] [])
  pub first_callout : append_log before 0 (reports_of one_report) ≡ appending (Ok 48) between
  pub second_callout : append_log between 48 (reports_of two_reports) ≡ appending (Ok 128) after
  pub reports : All (All Report) two_callouts
  pub appends : Appends before two_callouts after 128
  pub room : Room two_callouts exact_lists
  pub exact_read : read_log after 128 exact_lists
      ≡ reading (Ok 2)
      (lists_of (2 ∷ 1 ∷ []) (4000000000000000000 ∷ 258 ∷ 1 ∷ []) (18446744073709551615 ∷ 65536 ∷ 2 ∷ []) (256 ∷ 18446744073709551615 ∷ 3 ∷ []) (4294967295 ∷ 16909060 ∷ 4 ∷ []) (0 ∷ 10 ∷ 9 ∷ []))
  pub rest_kept : read_log one_bytes 48 (lists_of (21 ∷ 22 ∷ []) (23 ∷ 24 ∷ 25 ∷ []) (26 ∷ []) (27 ∷ []) (28 ∷ []) (29 ∷ []))
      ≡ reading (Ok 1) (lists_of (1 ∷ 22 ∷ []) (1 ∷ 24 ∷ 25 ∷ []) (2 ∷ []) (3 ∷ []) (4 ∷ []) (9 ∷ []))
  pub full_size : length (log_bytes full_callouts) ≡ 65536
  pub full_reports : All (All Report) full_callouts
  pub full_appends : (store : List ℕ) → length store ≡ 65536 → Appends store full_callouts (log_bytes full_callouts) 65536
  pub full_room : Room full_callouts (lists_of (zeros 2) (zeros 2047) (zeros 2047) (zeros 2047) (zeros 2047) (zeros 2047))
  pub full_read : (l : Lists) → Room full_callouts l → (read_log (log_bytes full_callouts) 65536 l).answer ≡ Ok 2
  pub full_end : NotAppended (log_bytes full_callouts) 65536 (reports_of []) 19

-- Appends and reads that are turned down, each by the first number in order.
pub record RefusalInstances : Type 0 where
  pub late : NotAppended (zeros 48) 49 (reports_in (4000000000000000001 ∷ []) [] [] [] []) 1
  pub large : (store : List ℕ) → length store ≡ 65537 → NotAppended store 0 (reports_of one_report) 2
  pub over_used : NotAppended (zeros 48) 49 (reports_of one_report) 2
  pub unequal : NotAppended (zeros 48) 0 (reports_in (1 ∷ []) (2 ∷ []) (3 ∷ []) (4 ∷ []) []) 2
  pub unknown : NotAppended (zeros 47) 0 (reports_in (1 ∷ []) (2 ∷ []) (3 ∷ []) (4 ∷ []) (8 ∷ [])) 2
  pub short : NotAppended (zeros 47) 0 (reports_of one_report) 19
  pub read_large : (store : List ℕ) → length store ≡ 65537 → NotRead store 0 exact_lists 2
  pub read_over_used : NotRead empty_bytes 17 exact_lists 2
  pub cut_trailer : NotRead (drop 1 empty_bytes) 15 exact_lists 17
  pub wrong_distance : NotRead (set empty_bytes 0 15) 16 exact_lists 17
  pub not_zero : NotRead (set empty_bytes 15 1) 16 exact_lists 17
  pub before_front : NotRead (drop 1 one_bytes) 47 exact_lists 17
  pub broken_both : NotRead (set (set after 32 49) 76 8) 128 exact_lists 17
  pub late_record : NotRead (set one_bytes 7 56) 48 exact_lists 18
  pub unknown_record : NotRead (set one_bytes 28 8) 48 exact_lists 18
  pub not_zero_record : NotRead (set one_bytes 29 1) 48 (lists_of [] [] [] [] [] []) 18
  pub short_list : NotRead after 128 (lists_of (zeros 2) (zeros 3) (zeros 3) (zeros 2) (zeros 3) (zeros 3)) 2
