-- The count of cases.
use Rattle.std.specs.Prelude.{ℕ, ◌+◌, ◌%◌, ◌^◌, Bool, true, false, List, ◌++◌, codes}
use Rattle.std.specs.Fmt.{decimal}
use Rattle.tally.specs.declared.Tally.{Tally}

-- no case yet
abbrev pub no_cases : Tally
no_cases = record { cases = 0; wrong = 0 }

-- a case that went right or wrong
abbrev pub case_of : Bool → Tally
case_of true = record { cases = 1; wrong = 0 }
case_of false = record { cases = 1; wrong = 1 }

-- the cases of both, counted in 64 bits
abbrev pub plus : Tally → Tally → Tally
plus a b = record { cases = (a.cases + b.cases) % 2 ^ 64; wrong = (a.wrong + b.wrong) % 2 ^ 64 }

-- the end of a group's line
abbrev pub text_of : Tally → List ℕ
text_of t = decimal t.cases ++ codes " cases, " ++ decimal t.wrong ++ codes " wrong"
