-- The views of specs/ViewInstances.antt, computed.
-- Assumes nothing.
use Rattle.callout_log.specs.Log.{answer_number}
use mathlib.Core.Path.{◌≡◌, refl, sym, subst}
use mathlib.Core.Bool.{Bool, true, false, true≢false}
use mathlib.Core.List.{List, [], ◌∷◌}
use Prim.Native.Nat.{ℕ, zero, suc, ◌<◌}
use native.Mathlib.Omega.{arith}
use lib.Dec.{eqb, ltb}
use lib.ListN.{get_or, set}
use lib.Seq.{get_or-set_other}
use borrow.Author.Tests.{eqb-true, eqb-false, ltb-true}
use Rattle.base.specs.Choice.{choose, ◌and◌}
use Rattle.base.specs.Lists.{zeros}
use Rattle.endian.specs.LittleEndian.{Bytes, field, from_le_bytes, to_le_bytes}
use Rattle.callout_log.specs.Record.{is_record, is_time, is_verdict, record_at}
use Rattle.callout_log.specs.Trailer.{count_before, is_trailer, trailer_bytes}
use Rattle.callout_log.specs.Log.{ends, ends_before, every, is_store, places, places_before, places_from}
use Rattle.callout_log.specs.Read.{hold, listing, over, read_bytes}
use Rattle.callout_log.specs.View.{hide_all, hide_at, pointed, read_seen, seen, view_bytes, view_log}
use Rattle.callout_log.specs.Laws.{BrokenTrailer, last}
use Rattle.callout_log.specs.ViewLaws.{DifferHidden, HiddenByte}
use Rattle.callout_log.specs.ViewInstances.{ViewInstances}
use Rattle.callout_log.specs.Instances.{one_bytes}
use Rattle.callout_log.proofs.Broken.{trailer_fails}
use Rattle.callout_log.proofs.Walk.{both}

-- whether every number of a list is a byte
small : List ℕ → Bool
small [] = true
small (x ∷ list) = ltb x 256 and small list

small_bytes : (list : List ℕ) → small list ≡ true → (i : ℕ) → get_or list i 0 < 256
unfolding small
small_bytes [] e i = omega arith
small_bytes (x ∷ list) e zero = ltb-true x 256 (both (ltb x 256) (small list) e).0
small_bytes (x ∷ list) e (suc i) = small_bytes list (both (ltb x 256) (small list) e).1 i

one_bytes_lem : Bytes one_bytes
unfolding small choose
one_bytes_lem = record { below = small_bytes one_bytes refl }

-- no trailer of the callout of one report is broken
one_sound : BrokenTrailer one_bytes → ⊥
unfolding ends ends_before every is_trailer count_before field from_le_bytes choose
one_sound x = true≢false (trailer_fails one_bytes one_bytes_lem (omega arith) x)

-- its counter is hidden
one_hidden : HiddenByte one_bytes 8
unfolding trailer_bytes to_le_bytes zeros
one_hidden =
    record {
      sound = one_sound;
      end = 48;
      count = 1;
      place = 0;
      leads = last;
      trailer = record { within = omega arith; bytes = refl };
      within = omega arith;
      behind = omega arith;
      before = omega arith;
    }

differ : DifferHidden one_bytes (set one_bytes 8 250) 48
differ = record { size = refl; same = λ i h x. decide i x (eqb i 8) refl }
  where
    decide : (i : ℕ) → (HiddenByte one_bytes i → ⊥) → (t : Bool) → eqb i 8 ≡ t → get_or one_bytes i 0 ≡ get_or (set one_bytes 8 250) i 0
    decide i x true e = absurd (x (subst (HiddenByte one_bytes) (sym (eqb-true i 8 e)) one_hidden))
    decide i x false e = sym (get_or-set_other one_bytes 8 i 250 0 (eqb-false i 8 e))

pub view_instances : ViewInstances
unfolding view_log view_bytes read_seen read_bytes seen pointed hide_all hide_at over is_store ends ends_before every is_trailer count_before places places_before places_from is_record is_time is_verdict record_at field from_le_bytes zeros choose hold listing answer_number
view_instances =
    record {
      whole = refl;
      hidden = refl;
      read = refl;
      no_callouts = refl;
      differ = differ;
      over_used = record { refused = refl; left = refl };
      broken_trailer = record { refused = refl; left = refl };
      broken_record = record { refused = refl; left = refl };
      short = record { refused = refl; left = refl };
    }
