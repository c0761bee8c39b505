-- The hidden bytes of a log are those in the hidden fields at its places.
-- Assumes nothing.
use mathlib.Core.Path.{◌≡◌, refl, sym, subst, ◌∙◌}
use mathlib.Core.Bool.{Bool, true, false, true≢false}
use mathlib.Core.List.{List}
use Prim.Native.Nat.{ℕ, zero, suc, ◌+◌, ◌-◌, ◌*◌, ◌≤◌, ◌<◌}
use native.Mathlib.Omega.{arith}
use lib.ListN.{length}
use Rattle.base.specs.Choice.{choose}
use Rattle.endian.specs.LittleEndian.{Bytes}
use Rattle.callout_log.specs.Trailer.{count_before, distance, is_trailer}
use Rattle.callout_log.specs.Log.{ends, ends_before, every, places, places_before, places_from}
use Rattle.callout_log.specs.Laws.{BrokenTrailer, Leads, last, back}
use Rattle.callout_log.specs.ViewLaws.{HiddenByte}
use Rattle.callout_log.proofs.Broken.{all_trailers, led_all, led_back, led_within, no_broken, trailer_led}
use Rattle.callout_log.proofs.Hiding.{covers, covers_step, field_bounds, in_field_lem, in_field, second_holds, up_to}
use Rattle.callout_log.proofs.Stands.{count_true, good_trailer}
use Rattle.callout_log.proofs.Tested.{fails}

-- A byte is in the hidden fields of one of so many records.
record InOne (first count i : ℕ) : Type 0 where
  place : ℕ
  within : place < count
  behind : first + 32 * place + 8 ≤ i
  before : i < first + 32 * place + 28

one_covered : (count first i : ℕ) → covers (places_from first count) i ≡ true → InOne first count i
unfolding places_from covers choose
one_covered zero first i e = absurd (true≢false (sym e))
one_covered (suc count) first i e = decide (in_field first i) refl (λ f. one_covered count (first + 32) i (sym (rw f refl) ∙ e))
  where
    decide : (t : Bool) → in_field first i ≡ t → (in_field first i ≡ false → InOne (first + 32) count i) → InOne first (suc count) i
    decide true f later =
        let b : (first + 8 ≤ i) × (i < first + 28) = field_bounds first i f in
        record { place = 0; within = omega arith; behind = omega (arith, b.0); before = omega (arith, b.1) }
    decide false f later =
        let x : InOne (first + 32) count i = later f in
        record { place = suc x.place; within = omega (arith, x.within); behind = omega (arith, x.behind); before = omega (arith, x.before) }

covered_one : (count first place i : ℕ) → place < count → first + 32 * place + 8 ≤ i → i < first + 32 * place + 28 → covers (places_from first count) i ≡ true
unfolding places_from covers choose
covered_one zero first place i h l k = absurd (omega arith)
covered_one (suc count) first zero i h l k = rw (in_field_lem first i (omega arith) (omega arith))
covered_one (suc count) first (suc place) i h l k =
    second_holds (in_field first i) (covers (places_from (first + 32) count) i) (covered_one count (first + 32) place i (omega arith) (omega arith) (omega arith))

module _ (log : List ℕ) (b : Bytes log) (small : length log ≤ 65536) (i : ℕ) where
  -- a byte that is hidden in the callouts up to a place which trailers lead to is hidden in all
  led_cover : every (is_trailer log) (ends log) ≡ true → (end : ℕ) → Leads log end → covers (up_to log end) i ≡ true → covers (places log) i ≡ true
  unfolding ends places
  led_cover good end last e = e
  led_cover good end (back behind count leads trailer) e =
      let h : 0 < behind = omega (arith, trailer.within) in
      let t : is_trailer log behind ≡ true = trailer_led log b small good behind h leads in
      led_cover good behind leads
      (covers_step log behind h t i
      ∙ second_holds (covers (places_from (behind - distance (count_before log behind)) (count_before log behind)) i) (covers (up_to log (behind - distance (count_before log behind))) i)
      (subst (λ (n : ℕ). covers (up_to log n) i ≡ true) (sym (led_back log b small behind count trailer)) e))

  -- a hidden byte is in a hidden field
  pub hidden_covered : HiddenByte log i → covers (places log) i ≡ true
  unfolding choose
  hidden_covered x =
      let good : every (is_trailer log) (ends log) ≡ true = all_trailers log b small x.sound in
      let h : 0 < x.end = omega (arith, x.trailer.within) in
      let t : is_trailer log x.end ≡ true = trailer_led log b small good x.end h x.leads in
      let same : count_before log x.end ≡ x.count = count_true log small x.end x.count x.trailer in
      led_cover good x.end x.leads
      (covers_step log x.end h t i
      ∙ rw (subst (λ (n : ℕ). covers (places_from (x.end - distance n) n) i ≡ true) (sym same) (covered_one x.count (x.end - distance x.count) x.place i x.within x.behind x.before)))

  -- a byte in a hidden field is hidden
  pub covered_hidden : (BrokenTrailer log → ⊥) → covers (places log) i ≡ true → HiddenByte log i
  unfolding ends ends_before places places_before covers choose
  covered_hidden sound =
      led_all log b small sound (λ (end : ℕ). covers (up_to log end) i ≡ true → HiddenByte log i) (λ e. absurd (true≢false (sym e))) step
    where
      step : (end : ℕ) → 0 < end → Leads log end → (covers (up_to log (end - distance (count_before log end))) i ≡ true → HiddenByte log i) → covers (up_to log end) i ≡ true → HiddenByte log i
      step end h leads before e = decide (covers (places_from (end - distance (count_before log end)) (count_before log end)) i) refl
        where
          decide : (own : Bool) → covers (places_from (end - distance (count_before log end)) (count_before log end)) i ≡ own → HiddenByte log i
          decide true f =
              let x : InOne (end - distance (count_before log end)) (count_before log end) i = one_covered (count_before log end) (end - distance (count_before log end)) i f in
              record {
                sound = sound;
                end = end;
                count = count_before log end;
                place = x.place;
                leads = leads;
                trailer = good_trailer log b end (led_within log b small end leads) (no_broken log b small sound end h leads);
                within = x.within;
                behind = x.behind;
                before = x.before;
              }
          decide false f = before (sym (rw f refl) ∙ sym (covers_step log end h (no_broken log b small sound end h leads) i) ∙ e)

  -- a byte that is not hidden is in no hidden field, where no trailer is broken
  pub not_hidden : (BrokenTrailer log → ⊥) → (HiddenByte log i → ⊥) → covers (places log) i ≡ false
  not_hidden sound shown = fails (covers (places log) i) (λ e. shown (covered_hidden sound e))
