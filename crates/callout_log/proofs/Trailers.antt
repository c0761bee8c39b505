-- The trailer of a callout: its test, its bytes written, and the walk over all trailers.
-- Assumes nothing.
use mathlib.Core.Path.{◌≡◌, refl, ap, ◌∙◌}
use mathlib.Core.Bool.{Bool, true, false}
use mathlib.Core.List.{List, [], ◌∷◌, ◌++◌, append-nil}
use Prim.Native.Nat.{ℕ, zero, suc, ◌+◌, ◌-◌, ◌*◌, ◌≤◌, ◌<◌}
use native.Mathlib.Nat.{add-zero}
use native.Mathlib.Omega.{arith}
use lib.Dec.{leb, eqb}
use lib.ListN.{length, take, drop, length-append, length-drop, drop_of_length-le}
use borrow.Author.Tests.{lt-leb, le-leb, eq-eqb, ne_eqb, leb-true}
use borrow.Rule.Slice.PartMut.{put_mid}
use Rattle.base.specs.Choice.{choose, ◌and◌}
use Rattle.base.specs.Lists.{zeros}
use Rattle.base.proofs.Parts.{put_next}
use Rattle.endian.specs.LittleEndian.{field, from_le_bytes, to_le_bytes}
use Rattle.endian.proofs.Laws.{little_endian_law}
use Rattle.callout_log.specs.Trailer.{trailer_bytes, count_before, distance, is_trailer, trailer_before}
use Rattle.error.specs.declared.Error.{Error}
use Rattle.error.specs.declared.Error.TheVariants.{BrokenTrailer}
use Rattle.std.specs.Prelude.{Ok, Err}
use Rattle.callout_log.proofs.Records.{part_field}
use Rattle.callout_log.proofs.Walk.{both}

-- the count in the trailer that ends at a place
pub count_read : (bytes : List ℕ) (end n : ℕ) → 8 ≤ end → n ≡ from_le_bytes (take (end - 4 - (end - 8)) (drop (end - 8) bytes)) → n ≡ count_before bytes end
unfolding count_before field
count_read bytes end n h e = let size : end - 4 - (end - 8) ≡ 4 = omega arith in e ∙ ap (λ (m : ℕ). from_le_bytes (take m (drop (end - 8) bytes))) size

pub trailer_short : (bytes : List ℕ) (end : ℕ) → end < 16 → Err BrokenTrailer ≡ trailer_before bytes end
unfolding trailer_before is_trailer choose
trailer_short bytes end h = rw (lt-leb 16 end h)

-- the other ways through `trailer_before`
module _ (bytes : List ℕ) (end : ℕ) (h : 16 ≤ end) where
  abbrev own : List ℕ
  own = take (end - (end - 16)) (drop (end - 16) bytes)

  own_field : (n from width : ℕ) → n ≡ from_le_bytes (take width (drop from own)) → from + width ≤ 16 → n ≡ field (end - 16 + from) width bytes
  own_field n from width e k = part_field bytes n (end - 16) end from width e (omega arith)

  module _ (d n : ℕ) (ed : d ≡ from_le_bytes (take 8 own)) (en : n ≡ from_le_bytes (take 4 (drop 8 own))) where
    far : d ≡ field (end - 16) 8 bytes
    far = own_field d 0 8 ed (omega arith) ∙ ap (λ (m : ℕ). field m 8 bytes) (add-zero (end - 16))

    counted : n ≡ count_before bytes end
    unfolding count_before
    counted = let place : end - 16 + 8 ≡ end - 8 = omega arith in own_field n 8 4 en (omega arith) ∙ ap (λ (m : ℕ). field m 4 bytes) place

    pub trailer_distance : (d ≡ 16 + 32 * n → ⊥) → Err BrokenTrailer ≡ trailer_before bytes end
    unfolding trailer_before is_trailer choose
    trailer_distance f = rw (← far, ← counted, le-leb 16 end h, ne_eqb d (16 + 32 * n) f)

    module _ (z : ℕ) (e : d ≡ 16 + 32 * n) (ez : z ≡ from_le_bytes (take 4 (drop 12 own))) where
      last : z ≡ field (end - 4) 4 bytes
      last = let place : end - 16 + 12 ≡ end - 4 = omega arith in own_field z 12 4 ez (omega arith) ∙ ap (λ (m : ℕ). field m 4 bytes) place

      pub trailer_zero : (z ≡ 0 → ⊥) → Err BrokenTrailer ≡ trailer_before bytes end
      unfolding trailer_before is_trailer choose
      trailer_zero f = rw (← far, ← counted, ← last, le-leb 16 end h, eq-eqb d (16 + 32 * n) e, ne_eqb z 0 f)

      pub trailer_before_front : z ≡ 0 → end < 16 + 32 * n → Err BrokenTrailer ≡ trailer_before bytes end
      unfolding trailer_before is_trailer choose
      trailer_before_front q f =
          rw (← far, ← counted, ← last, le-leb 16 end h, eq-eqb d (16 + 32 * n) e, eq-eqb z 0 q, lt-leb (16 + 32 * n) end f)

      pub trailer_good : z ≡ 0 → 16 + 32 * n ≤ end → Ok n ≡ trailer_before bytes end
      unfolding trailer_before is_trailer choose
      trailer_good q f =
          rw (← far, ← counted, ← last, le-leb 16 end h, eq-eqb d (16 + 32 * n) e, eq-eqb z 0 q, le-leb (16 + 32 * n) end f)

-- the bytes of 0 are zero
pub zero_bytes : (width : ℕ) → to_le_bytes width 0 ≡ zeros width
unfolding to_le_bytes zeros
zero_bytes zero = refl
zero_bytes (suc width) = ap (λ (l : List ℕ). 0 ∷ l) (zero_bytes width)

pub trailer_written : (bytes far count last : List ℕ) (n : ℕ) → length bytes ≡ 16 → far ≡ to_le_bytes 8 (16 + 32 * n) → count ≡ to_le_bytes 4 n → last ≡ to_le_bytes 4 0
    → put_mid 12 4 (put_mid 8 4 (far ++ drop 8 (drop 0 bytes)) count) last ≡ trailer_bytes n
unfolding trailer_bytes
trailer_written bytes far count last n l ef ec ez =
    let lf : length far ≡ 8 = ap length ef ∙ little_endian_law.size 8 (16 + 32 * n) in
    let lc : length count ≡ 4 = ap length ec ∙ little_endian_law.size 4 n in
    let none : drop 4 (drop 4 (drop 8 (drop 0 bytes))) ≡ [] =
    drop_of_length-le (drop 4 (drop 8 bytes)) {i = 4} (omega (arith, length-drop 4 (drop 8 bytes), length-drop 8 bytes)) in
    ap (λ (m : List ℕ). put_mid 12 4 m last) (put_next far (drop 8 (drop 0 bytes)) count 8 4 lf)
    ∙ put_next (far ++ count) (drop 4 (drop 8 (drop 0 bytes))) last 12 4 (length-append far count ∙ omega arith)
    ∙ rw (none, append-nil (far ++ count ++ last), ef, ec, ez, zero_bytes 4)

-- what a good trailer says
module _ (bytes : List ℕ) (end : ℕ) where
  pub told_records : (n : ℕ) → Ok n ≡ trailer_before bytes end → (is_trailer bytes end ≡ true) × (n ≡ count_before bytes end)
  unfolding trailer_before choose
  told_records n e = decide (is_trailer bytes end) e
    where
      decide : (t : Bool) → Ok n ≡ choose t (Ok (count_before bytes end)) (Err BrokenTrailer) → (t ≡ true) × (n ≡ count_before bytes end)
      decide true p = (refl, cc)
      decide false p = cc

  pub told_broken : (error : Error) → Err error ≡ trailer_before bytes end → (is_trailer bytes end ≡ false) × (error ≡ BrokenTrailer)
  unfolding trailer_before choose
  told_broken error e = decide (is_trailer bytes end) e
    where
      decide : (t : Bool) → Err error ≡ choose t (Ok (count_before bytes end)) (Err BrokenTrailer) → (t ≡ false) × (error ≡ BrokenTrailer)
      decide true p = cc
      decide false p = (refl, cc)

  pub points_back : is_trailer bytes end ≡ true → distance (count_before bytes end) ≤ end
  unfolding is_trailer
  points_back t =
      let rest : eqb (field (end - 16) 8 bytes) (distance (count_before bytes end)) and eqb (field (end - 4) 4 bytes) 0 and leb (distance (count_before bytes end)) end ≡ true =
      (both (leb 16 end) _ t).1 in
      let more : eqb (field (end - 4) 4 bytes) 0 and leb (distance (count_before bytes end)) end ≡ true = (both (eqb (field (end - 16) 8 bytes) (distance (count_before bytes end))) _ rest).1 in
      leb-true (distance (count_before bytes end)) end (both (eqb (field (end - 4) 4 bytes) 0) _ more).1

-- the ways through `trailer_before`
pub ruleset trailers = (trailer_short, trailer_distance, trailer_zero, trailer_before_front, trailer_good)
