-- Logs with their bytes written out as they are seen, and two that differ in a hidden byte.
use Rattle.std.specs.Prelude.{◌≡◌, true, false, List, [], ◌∷◌, ◌++◌, ℕ, set, Ok}
use Rattle.base.specs.Lists.{zeros}
use Rattle.callout_log.specs.Read.{lists_of, reading}
use Rattle.callout_log.specs.View.{read_seen, viewing, view_log}
use Rattle.callout_log.specs.ViewLaws.{DifferHidden, NotViewed}
use Rattle.callout_log.specs.Instances.{after, empty_bytes, exact_lists, one_bytes}

-- the callout of one report, its hidden fields as zero bytes
abbrev pub one_seen : List ℕ
one_seen =
    1 ∷ 0 ∷ 0 ∷ 0 ∷ 0 ∷ 0 ∷ 0 ∷ 0 ∷ 0 ∷ 0 ∷ 0 ∷ 0 ∷ 0 ∷ 0 ∷ 0 ∷ 0
    ∷ 0 ∷ 0 ∷ 0 ∷ 0 ∷ 0 ∷ 0 ∷ 0 ∷ 0 ∷ 0 ∷ 0 ∷ 0 ∷ 0 ∷ 9 ∷ 0 ∷ 0 ∷ 0
    ∷ 48 ∷ 0 ∷ 0 ∷ 0 ∷ 0 ∷ 0 ∷ 0 ∷ 0 ∷ 1 ∷ 0 ∷ 0 ∷ 0 ∷ 0 ∷ 0 ∷ 0 ∷ 0 ∷ []

-- the callout of two reports, its hidden fields as zero bytes
abbrev pub two_seen : List ℕ
two_seen =
    0 ∷ 0 ∷ 144 ∷ 157 ∷ 206 ∷ 218 ∷ 130 ∷ 55 ∷ 0 ∷ 0 ∷ 0 ∷ 0 ∷ 0 ∷ 0 ∷ 0 ∷ 0
    ∷ 0 ∷ 0 ∷ 0 ∷ 0 ∷ 0 ∷ 0 ∷ 0 ∷ 0 ∷ 0 ∷ 0 ∷ 0 ∷ 0 ∷ 0 ∷ 0 ∷ 0 ∷ 0
    ∷ 2 ∷ 1 ∷ 0 ∷ 0 ∷ 0 ∷ 0 ∷ 0 ∷ 0 ∷ 0 ∷ 0 ∷ 0 ∷ 0 ∷ 0 ∷ 0 ∷ 0 ∷ 0
    ∷ 0 ∷ 0 ∷ 0 ∷ 0 ∷ 0 ∷ 0 ∷ 0 ∷ 0 ∷ 0 ∷ 0 ∷ 0 ∷ 0 ∷ 10 ∷ 0 ∷ 0 ∷ 0
    ∷ 80 ∷ 0 ∷ 0 ∷ 0 ∷ 0 ∷ 0 ∷ 0 ∷ 0 ∷ 2 ∷ 0 ∷ 0 ∷ 0 ∷ 0 ∷ 0 ∷ 0 ∷ 0 ∷ []

-- Views and reads of these logs.
pub record ViewInstances : Type 0 where
  pub whole : view_log false one_bytes 48 (zeros 48 ++ 254 ∷ []) ≡ viewing (Ok 48) (one_bytes ++ 254 ∷ [])
  pub hidden : view_log true after 128 (zeros 128 ++ 253 ∷ 252 ∷ []) ≡ viewing (Ok 128) (one_seen ++ two_seen ++ 253 ∷ 252 ∷ [])
  pub read : read_seen true after 128 exact_lists
      ≡ reading (Ok 2) (lists_of (2 ∷ 1 ∷ []) (4000000000000000000 ∷ 258 ∷ 1 ∷ []) (0 ∷ 0 ∷ 0 ∷ []) (0 ∷ 0 ∷ 0 ∷ []) (0 ∷ 0 ∷ 0 ∷ []) (0 ∷ 10 ∷ 9 ∷ []))
  pub no_callouts : view_log true (zeros 3) 0 (251 ∷ []) ≡ viewing (Ok 0) (251 ∷ [])
  pub differ : DifferHidden one_bytes (set one_bytes 8 250) 48
  pub over_used : NotViewed true empty_bytes 17 (zeros 17) 2
  pub broken_trailer : NotViewed true (set one_bytes 32 49) 48 [] 17
  pub broken_record : NotViewed true (set one_bytes 28 8) 48 [] 18
  pub short : NotViewed true one_bytes 48 (zeros 47) 2
