-- A grant puts its session once.
-- Assumes nothing.
use mathlib.Core.Path.{◌≡◌, refl, ap}
use mathlib.Core.Bool.{Bool, true, false}
use Prim.Native.Nat.{ℕ, ◌+◌}
use native.Mathlib.Omega.{arith}
use lib.Dec.{leb}
use lib.Seq.{set-set}
use Rattle.base.specs.Choice.{choose, case_pair}
use Rattle.tunnel.specs.Control.{with_sessions, out_of, done}
use Rattle.tunnel.specs.Encapsulate.{begin_encapsulate, finish_encapsulate, grant}
use Rattle.tunnel.specs.declared.answer.Answer.TheVariants.{Granted}
use Rattle.tunnel.specs.declared.control.Control.{Control}
use Rattle.tunnel.specs.declared.control.Out.{Out}
use Rattle.sessions.specs.Index.{slot_of}
use Rattle.sessions.specs.Range.{range}
use Rattle.sessions.specs.Session.{reject_after_messages, with_counter, reserve_counters, prepare_packet_data}
use Rattle.sessions.specs.Sessions.{put}
use Rattle.sessions.specs.declared.session.Session.{Session}
use Rattle.sessions.specs.declared.sessions.Sessions.{Sessions}
use Rattle.std.specs.Prelude.{Err, None, Option, Some}
use Rattle.error.specs.declared.Error.TheVariants.{NoCurrentSession}

-- a session put in the place of another one of its slot
put_again : (s : Sessions) (a b : Session) → slot_of b.receiving_index ≡ slot_of a.receiving_index → put (put s a) b ≡ put s b
unfolding put
put_again s a b e = rw (e, set-set)

-- a reservation leaves the index
of_fit : (s : Session) (count first : ℕ) (counted : Session) (fit : Bool)
    → choose {A = Option (ℕ × Session)} fit (Some (s.sending_key_counter, (with_counter s (s.sending_key_counter + count)))) None ≡ Some (first, counted)
    → slot_of counted.receiving_index ≡ slot_of s.receiving_index
unfolding choose
of_fit s count first counted true p =
    let e : ◌≡◌ {A = ℕ × Session} (s.sending_key_counter, with_counter s (s.sending_key_counter + count)) (first, counted) = cc in
    let q : with_counter s (s.sending_key_counter + count) ≡ counted = ap (λ (x : ℕ × Session). x.1) e in rw (← q) refl
of_fit s count first counted false p = let z : ◌≡◌ {A = ℕ} 0 1 = cc in absurd (omega arith)

same_index : (s : Session) (count first : ℕ) (counted : Session) → reserve_counters s count ≡ Some (first, counted)
    → slot_of counted.receiving_index ≡ slot_of s.receiving_index
unfolding reserve_counters
same_index s count first counted e = of_fit s count first counted (leb (s.sending_key_counter + count) reject_after_messages) e

-- a grant puts its session once
module _ (c : Control) (session : Session) (count now : ℕ) where
  abbrev once : Out
  once =
      case_pair (reserve_counters (prepare_packet_data session) count)
      (out_of (begin_encapsulate c (prepare_packet_data session) now) (Err NoCurrentSession) true false)
      (λ first counted.
      done (with_sessions (begin_encapsulate c (prepare_packet_data session) now) (put c.sessions counted)) (Granted (range counted.sending_index first count)))

  pub granted_once : grant c session count now ≡ once
  unfolding grant finish_encapsulate begin_encapsulate case_pair
  granted_once = go (reserve_counters (prepare_packet_data session) count) refl
    where
      go : (r : Option (ℕ × Session)) → reserve_counters (prepare_packet_data session) count ≡ r → grant c session count now ≡ once
      go None e = rw e refl
      go (Some (first, counted)) e =
          rw (e, put_again c.sessions (prepare_packet_data session) counted (same_index (prepare_packet_data session) count first counted e)) refl
