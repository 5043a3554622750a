-- What it does to a host to take a value and put it, some times over.
use Rattle.std.specs.Prelude.{ℕ, zero, suc, ◌/◌, List, [], ◌∷◌, length, ℤ, pos}
use Rattle.host.specs.Meaning.{Meaning, fresh, after_take, after_put}
use Rattle.host.specs.Tapes.{values_of}

-- the value that is passed: the first that waits, or else 0
abbrev pub first_or_zero : List ℤ → ℤ
first_or_zero [] = pos 0
first_or_zero (v ∷ vs) = v

abbrev pub passed : Meaning → Meaning
passed m = after_put (after_take m) (first_or_zero m.waiting)

abbrev pub passed_times : ℕ → Meaning → Meaning
passed_times zero m = m
passed_times (suc n) m = passed (passed_times n m)

-- from list to list, and from tape to tape
abbrev pub list_passed : ℕ → List ℤ → List ℤ → Meaning
list_passed n source sink = passed_times n (fresh source (length sink))

abbrev pub tape_passed : ℕ → List ℕ → List ℕ → Meaning
tape_passed n source sink = passed_times n (fresh (values_of source) (length sink / 5))
