-- The trailer of a callout in 16 bytes.
use Rattle.std.specs.Prelude.{Bool, List, ◌++◌, ℕ, ◌+◌, ◌-◌, ◌*◌, leb, eqb, Result, Ok, Err}
use Rattle.base.specs.Choice.{choose, ◌and◌}
use Rattle.base.specs.Lists.{zeros}
use Rattle.error.specs.declared.Error.{Error}
use Rattle.error.specs.declared.Error.TheVariants.{BrokenTrailer}
use Rattle.endian.specs.LittleEndian.{field, to_le_bytes}

-- the distance from the end of a callout of so many records to its first one
abbrev pub distance : ℕ → ℕ
distance count = 16 + 32 * count

-- the bytes of the trailer of so many records: the distance, the count and four zero bytes
unfoldable pub trailer_bytes : ℕ → List ℕ
trailer_bytes count = to_le_bytes 8 (distance count) ++ to_le_bytes 4 count ++ zeros 4

-- the count in the trailer that ends at a place
unfoldable pub count_before : List ℕ → ℕ → ℕ
count_before bytes end = field (end - 8) 4 bytes

-- whether the trailer that ends at a place keeps its rule: it has its 16 bytes, its distance is that of its count, its last bytes are zero, and
-- it does not point before the front
unfoldable pub is_trailer : List ℕ → ℕ → Bool
is_trailer bytes end =
    leb 16 end
    and eqb (field (end - 16) 8 bytes) (distance (count_before bytes end))
    and eqb (field (end - 4) 4 bytes) 0
    and leb (distance (count_before bytes end)) end

-- the count in the trailer that ends at a place, or BrokenTrailer
unfoldable pub trailer_before : List ℕ → ℕ → Result ℕ Error
trailer_before bytes end = choose (is_trailer bytes end) (Ok (count_before bytes end)) (Err BrokenTrailer)
