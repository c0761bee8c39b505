-- Laws of single bits: of a bitwise or, of a bitwise and with a mask that lacks one bit or has the first ones only, and that a word is known by its bits.
-- Assumes nothing.
use mathlib.Core.Path.{◌≡◌, refl, ap, sym, ◌∙◌}
use Prim.Native.Nat.{ℕ, zero, suc, ◌+◌, ◌-◌, ◌/◌, ◌%◌, ◌^◌, ◌<◌, min, max}
use native.Mathlib.Nat.{pow-suc}
use native.Mathlib.Numerals.{one-add}
use native.Mathlib.Omega.{arith}
use lib.Bits.{bit_and, bit_or, and_step, or_step, and_shr, or_shr}
use lib.Pow.{shr-shr, pow_pos}
use Rattle.base.specs.Bits.{bit}

pub bit_first : (n : ℕ) → bit n 0 ≡ n % 2
unfolding bit
bit_first n = omega arith

pub bit_later : (n place : ℕ) → bit n (suc place) ≡ bit (n / 2) place
unfolding bit
bit_later n place = ap (λ (x : ℕ). x % 2) (ap (λ (e : ℕ). n / 2 ^ e) (sym (one-add place)) ∙ sym (shr-shr n 1 place))

bit-bit_or : (a b place : ℕ) → bit (bit_or a b) place ≡ max (bit a place) (bit b place)
unfolding bit
bit-bit_or a b place =
    rw or_shr (omega (arith, or_step (a / 2 ^ place) (b / 2 ^ place)))

bit-bit_and : (a b place : ℕ) → bit (bit_and a b) place ≡ min (bit a place) (bit b place)
unfolding bit
bit-bit_and a b place =
    rw and_shr (omega (arith, and_step (a / 2 ^ place) (b / 2 ^ place)))

pub bit_small : (n place : ℕ) → bit n place < 2
unfolding bit
bit_small n place = omega arith

pub bit_zero : (place : ℕ) → bit 0 place ≡ 0
bit_zero zero = bit_first 0
bit_zero (suc place) = bit_later 0 place ∙ bit_zero place

bit_pow_same : (place : ℕ) → bit (2 ^ place) place ≡ 1
bit_pow_same zero = bit_first 1
bit_pow_same (suc place) = bit_later (2 ^ suc place) place ∙ rw pow-suc (ap (λ (x : ℕ). bit x place) (omega arith) ∙ bit_pow_same place)

bit_pow_other : (b place : ℕ) → (b ≡ place → ⊥) → bit (2 ^ b) place ≡ 0
bit_pow_other zero zero h = absurd (h refl)
bit_pow_other zero (suc place) h = bit_later 1 place ∙ bit_zero place
bit_pow_other (suc b) zero h = bit_first (2 ^ suc b) ∙ rw pow-suc (omega arith)
bit_pow_other (suc b) (suc place) h =
    bit_later (2 ^ suc b) place ∙ rw pow-suc (ap (λ (x : ℕ). bit x place) (omega arith) ∙ bit_pow_other b place (λ e. h (ap suc e)))

-- two numbers that add up to a word of ones have complementary bits
complement : (width x y place : ℕ) → x + y + 1 ≡ 2 ^ width → place < width → bit x place + bit y place ≡ 1
complement zero x y place e h = omega arith
complement (suc width) x y zero e h = rw (bit_first, bit_first) (omega (arith, pow-suc 2 width))
complement (suc width) x y (suc place) e h =
    rw (bit_later, bit_later) (complement width (x / 2) (y / 2) place (omega (arith, pow-suc 2 width)) (omega arith))

-- a word below 2 ^ width is known by its bits
pub same_bits : (width x y : ℕ) → x < 2 ^ width → y < 2 ^ width → ((place : ℕ) → place < width → bit x place ≡ bit y place) → x ≡ y
same_bits zero x y hx hy same = omega arith
same_bits (suc width) x y hx hy same =
    let half : x / 2 ≡ y / 2 =
    same_bits width (x / 2) (y / 2) (omega (arith, pow-suc 2 width)) (omega (arith, pow-suc 2 width))
    (λ place h. sym (bit_later x place) ∙ same (suc place) (omega arith) ∙ bit_later y place) in
    omega (arith, sym (bit_first x) ∙ same 0 (omega arith) ∙ bit_first y)

-- setting a bit
pub bit_set_same : (w b : ℕ) → bit (bit_or w (2 ^ b)) b ≡ 1
bit_set_same w b = omega (arith, bit-bit_or w (2 ^ b) b, bit_pow_same b, bit_small w b)

pub bit_set_other : (w b place : ℕ) → (b ≡ place → ⊥) → bit (bit_or w (2 ^ b)) place ≡ bit w place
bit_set_other w b place h = omega (arith, bit-bit_or w (2 ^ b) place, bit_pow_other b place h)

-- clearing a bit of a word of `width` bits
module _ (width w b : ℕ) (h : b < width) where
  mask_sum : 2 ^ b + (2 ^ width - 1 - 2 ^ b) + 1 ≡ 2 ^ width
  mask_sum = omega (arith, lib.Pow.pow-lt h, pow_pos b)

  pub bit_clear_same : bit (bit_and w (2 ^ width - 1 - 2 ^ b)) b ≡ 0
  bit_clear_same =
      omega (arith, bit-bit_and w (2 ^ width - 1 - 2 ^ b) b, complement width (2 ^ b) (2 ^ width - 1 - 2 ^ b) b mask_sum h, bit_pow_same b)

  pub bit_clear_other : (place : ℕ) → place < width → (b ≡ place → ⊥) → bit (bit_and w (2 ^ width - 1 - 2 ^ b)) place ≡ bit w place
  bit_clear_other place l d =
      omega (arith, bit-bit_and w (2 ^ width - 1 - 2 ^ b) place, complement width (2 ^ b) (2 ^ width - 1 - 2 ^ b) place mask_sum l, bit_pow_other b place d, bit_small w place)

-- the first bits of a word, the others cleared
pub bit_masked : (w count place : ℕ) → place < count → bit (bit_and w (2 ^ count - 1)) place ≡ bit w place
bit_masked w count place h =
    omega (
      arith,
      bit-bit_and w (2 ^ count - 1) place,
      complement count (2 ^ count - 1) 0 place (omega (arith, pow_pos count)) h,
      bit_zero place,
      bit_small w place,
    )
