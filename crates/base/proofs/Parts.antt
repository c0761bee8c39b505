-- Parts of a list: the first elements lent, and a part put behind what was put before.
-- Assumes nothing.
use mathlib.Core.Path.{◌≡◌, sym}
use mathlib.Core.List.{List, ◌++◌, append_assoc}
use Prim.Native.Nat.{ℕ, ◌≤◌}
use lib.ListN.{length, take, drop}
use lib.Seq.{length-take-le, take_at, drop_at}
use borrow.Rule.Slice.PartMut.{put_mid}

-- a part from the start has as many elements as were asked for
pub part_length : (list : List ℕ) (n : ℕ) → n ≤ length list → n ≡ length (take n list)
part_length list n h = sym (length-take-le n list h)

-- a part put right behind the elements that are done
pub put_next : (done rest part : List ℕ) (at size : ℕ) → length done ≡ at → put_mid at size (done ++ rest) part ≡ done ++ part ++ drop size rest
put_next done rest part at size h =
    rw (take_at done rest at h, drop_at done rest at h) (sym (append_assoc done part (drop size rest)))
