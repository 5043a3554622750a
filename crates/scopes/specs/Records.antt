-- The records of names, newest first, and which of them a name finds. Assumes nothing.
use Rattle.std.specs.Prelude.{ℕ, true, false, List, [], ◌∷◌, reverse, length, take, drop, Some, None, Option}
use Rattle.std.specs.Borrow.{MutBor}
use Rattle.pile.specs.Piles.{lent, memory, front}
use Rattle.model.specs.Reading.{same}
use Rattle.model.specs.declared.script.Ty.{Ty}
use Rattle.model.specs.declared.names.NameKind.TheVariants.{Nothing, Variable}
use Rattle.scopes.specs.declared.names.Name.{Name}
use Rattle.scopes.specs.declared.Mark.{Mark}
use Rattle.scopes.specs.declared.Scopes.{Scopes}

-- a blank record
abbrev pub no_name : Name
no_name = record { place = 0; length = 0; kind = Nothing; cell = 0; entry = 0; inside = false }

abbrev pub text_of : Scopes → List ℕ
text_of s = s.text.now

-- the records, newest first
abbrev pub records_of : Scopes → List Name
records_of s = reverse (front s.records)

-- the loan that they lie in, and the whole memory
abbrev pub loan_of : Scopes → MutBor (List Name)
loan_of s = lent s.records

abbrev pub memory_of : Scopes → List Name
memory_of s = memory s.records

-- how many there may be
abbrev pub room_of : Scopes → ℕ
room_of s = length (memory_of s)

-- how many records lie below a mark
abbrev pub level_of : Mark → ℕ
level_of m = m.level

-- how the name of a record is spelled in the text
abbrev pub spelling : List ℕ → Name → List ℕ
spelling text n = take n.length (drop n.place text)

-- the first record whose name is spelled so
abbrev pub newest : List ℕ → List ℕ → List Name → Option Name
newest text s [] = None
newest text s (n ∷ ns) = elim (same s (spelling text n)) [ true ↦ Some n | false ↦ newest text s ns ]

-- the records from the one at `from` on, counted from the oldest
abbrev pub records_from : ℕ → Scopes → List Name
records_from from s = reverse (drop from (front s.records))

-- the record of a variable once its type is known
abbrev pub with_type : Ty → Name → Name
with_type y n = record { place = n.place; length = n.length; kind = Variable y; cell = n.cell; entry = n.entry; inside = n.inside }

-- the record of a routine whose block is closed
abbrev pub left : Name → Name
left n = record { place = n.place; length = n.length; kind = n.kind; cell = n.cell; entry = n.entry; inside = false }
