-- A granted range of counters, after `PendingEncapsulate` of src/session.rs.
use Rattle.std.specs.Prelude.{Option, None, Some, Result, Ok, Err, ℕ, ◌+◌, ◌-◌, Bool, List, [], ◌∷◌, ◌==◌, nat_le, nat_lt}
use Rattle.base.specs.Choice.{choose}
use Rattle.window.specs.Window.{limit}
use Rattle.error.specs.Error.{error_number}
use Rattle.error.specs.declared.Error.{Error}
use Rattle.error.specs.declared.Error.TheVariants.{InvalidArgument}
use Rattle.sessions.specs.declared.range.Range.{Range}

-- a range
abbrev pub range : (peer first len : ℕ) → Range
range peer first len = record { peer = peer; first = first; len = len }

-- whether a range ends above LIMIT
unfoldable pub ends_above_limit : Range → Bool
ends_above_limit r = nat_lt limit (r.first + r.len)

-- a range cut: turned down where the length or the cut is 0 or the range ends above LIMIT, whole where the cut is not below the length
unfoldable pub split_off : Range → ℕ → Result (Option (Range × Range)) Error
split_off r at =
    choose (r.len == 0) (Err InvalidArgument) (choose (at == 0) (Err InvalidArgument) (choose (ends_above_limit r) (Err InvalidArgument)
    (choose (nat_le r.len at) (Ok None) (Ok (Some (range r.peer r.first at, range r.peer (r.first + at) (r.len - at)))))))

-- the number that turns a cut down, or 0
unfoldable pub split_number : Result (Option (Range × Range)) Error → ℕ
split_number (Err error) = error_number error
split_number (Ok parts) = 0

-- the values of a cut: none where the range stays whole, else peer, first counter and length of both parts
unfoldable pub split_values : Result (Option (Range × Range)) Error → List ℕ
split_values (Err error) = []
split_values (Ok None) = []
split_values (Ok (Some (front, rest))) = front.peer ∷ front.first ∷ front.len ∷ rest.peer ∷ rest.first ∷ rest.len ∷ []
