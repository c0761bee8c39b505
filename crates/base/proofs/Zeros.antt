-- Lists of zeros, and a loop that zeroes a list from the front, one element a turn: where it begins, a turn, and where it ends.
-- Assumes nothing.
use mathlib.Core.Path.{◌≡◌, refl, ◌∙◌}
use mathlib.Core.List.{List, ◌++◌, append-nil}
use Prim.Native.Nat.{ℕ, zero, suc, ◌+◌, ◌≤◌, ◌<◌}
use native.Mathlib.Omega.{arith}
use lib.ListN.{length, get_or, set, drop, replicate, length-set, length-replicate, drop_of_length-le}
use Rattle.base.specs.Lists.{zeros}
use borrow.Author.Fill.{fill_more, fill_none}

-- every element of a list of zeros, and past its end, reads 0
pub zeros_at : (n j : ℕ) → get_or (zeros n) j 0 ≡ 0
unfolding zeros
zeros_at zero j = refl
zeros_at (suc n) zero = refl
zeros_at (suc n) (suc j) = zeros_at n j

-- so many zeros are so many
pub length_zeros : (n : ℕ) → length (zeros n) ≡ n
unfolding zeros
length_zeros n = length-replicate n 0

-- the first `done` of the list's `size` elements are zero, and the rest is as it came
pub record Zeroed (came now : List ℕ) (size done : ℕ) : Type 0 where
  pub whole : length came ≡ size
  pub within : done ≤ size
  pub long : length now ≡ size
  pub left : now ≡ replicate done 0 ++ drop done came

module _ (came : List ℕ) (size : ℕ) where
  pub zero_begins : length came ≡ size → Zeroed came came size 0
  zero_begins l = record { whole = l; within = omega arith; long = l; left = fill_none came 0 }

  module _ (now : List ℕ) (done : ℕ) (z : Zeroed came now size done) where
    pub zero_more : (last : List ℕ) → done < length now → last ≡ set now done 0 → Zeroed came last size (done + 1)
    zero_more last h e =
        record {
          whole = z.whole;
          within = omega (arith, z.long);
          long = rw (e, length-set) z.long;
          left = e ∙ rw z.left (fill_more done 0 came (omega (arith, z.whole, z.long)));
        }

    pub zero_ends : length now ≤ done → now ≡ zeros size
    unfolding zeros
    zero_ends h =
        let full : done ≡ size = omega (arith, z.long, z.within) in
        z.left ∙ rw full (rw (drop_of_length-le came {i = size} (omega (arith, z.whole))) (append-nil (replicate size 0)))
