-- The counters that a session grants, one reservation after the other, count up from its send counter and end at LIMIT at most.
-- Assumes nothing.
use Rattle.std.proofs.Common.{◌≡◌, ℕ, ◌+◌, ◌≤◌, List, [], ◌∷◌, ◌++◌, length, sym, refl, ap, ◌∙◌, arith, length-append}
use Rattle.std.proofs.lemmas.Bool.Decides.{nat_tests}
use Rattle.base.specs.Choice.{choose, case_pair}
use Rattle.base.specs.Lists.{up_from}
use Rattle.base.proofs.Counting.{length-up_from, join-up_from}
use Rattle.window.specs.Window.{limit}
use Rattle.sessions.specs.declared.session.Session.{Session}
use Rattle.sessions.specs.Session.{with_counter, reserve_counters}
use Rattle.sessions.specs.Reservations.{granted}

-- what is granted counts up from the send counter
pub record Counts (s : Session) (list : List ℕ) : Type 0 where
  pub counts : list ≡ up_from s.sending_key_counter (length list)
  pub below : s.sending_key_counter ≤ limit → s.sending_key_counter + length list ≤ limit

-- after what a reservation grants
module _ (s : Session) (len : ℕ) (rest : List ℕ) (next : Counts (with_counter s (s.sending_key_counter + len)) rest) where
  size : length (up_from s.sending_key_counter len ++ rest) ≡ len + length rest
  size = length-append (up_from s.sending_key_counter len) rest ∙ ap (λ (n : ℕ). n + length rest) (length-up_from s.sending_key_counter len)

  counts_on : s.sending_key_counter + len ≤ limit → Counts s (up_from s.sending_key_counter len ++ rest)
  counts_on h =
      record {
        counts = ap (λ (l : List ℕ). up_from s.sending_key_counter len ++ l) next.counts ∙ join-up_from s.sending_key_counter len (length rest)
            ∙ ap (up_from s.sending_key_counter) (sym size);
        below = λ m. omega (arith, size, next.below h);
      }

pub counts_all : (s : Session) (lens : List ℕ) → Counts s (granted s lens)
unfolding granted up_from case_pair reserve_counters choose
counts_all s [] = record { counts = refl; below = λ h. omega arith }
counts_all s (len ∷ lens) =
    let on : Session = with_counter s (s.sending_key_counter + len) in
    grind (arith, nat_tests, counts_all s lens, counts_on s len (granted on lens) (counts_all on lens))
