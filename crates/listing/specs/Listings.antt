-- Which entries a listing stands for, where they fit and where they do not. Assumes nothing.
use Rattle.std.specs.Prelude.{◌≡◌, ℕ, ◌<◌, ◌≤◌, min, Bool, true, false, List, length, take, Some, None, Option}
use Rattle.std.specs.Borrow.{MutBor}
use Rattle.pile.specs.Piles.{lent, memory, front, SameLoan}
use Rattle.model.specs.declared.table.Entry.{Entry}
use Rattle.model.specs.Code.{entry}
use Rattle.listing.specs.declared.Listing.{Listing}
use Rattle.listing.specs.declared.OpenJump.{OpenJump}

-- the loan that the entries lie in
abbrev pub loan_of : Listing → MutBor (List Entry)
loan_of l = lent l.table

-- the whole lent memory
abbrev pub memory_of : Listing → List Entry
memory_of l = memory l.table

-- whether there were more entries than fit
abbrev pub is_over : Listing → Bool
is_over l = l.over

-- how many entries fit
abbrev pub limit : Listing → ℕ
limit l = min (length (memory_of l)) 65535

-- the entries es were laid: they are the front of the memory, or too many
pub record Lists (l : Listing) (es : List Entry) : Type 0 where
  pub fits : l.over ≡ false → (front l.table ≡ es) × (length es ≤ limit l)
  pub exceeds : l.over ≡ true → limit l < length es

-- the same loan, as long as before; entries that did not fit stay so
abbrev pub SameTable : Listing → Listing → Type 0
SameTable l m = SameLoan l.table m.table × (length (memory_of m) ≡ length (memory_of l)) × (m.over ≡ false → l.over ≡ false)

-- n is the number of the next entry
abbrev pub Here : Listing → List Entry → ℕ → Type 0
Here l es n = Lists l es → l.over ≡ false → n ≡ length es

-- the open jump stands behind the entries m, where all fit
abbrev pub Stands : OpenJump → Listing → List Entry → Type 0
Stands j l m = l.over ≡ false → j.at ≡ length m

-- the code and the place of its entry
abbrev pub jump_code : OpenJump → ℕ
jump_code j = j.code

abbrev pub jump_place : OpenJump → ℕ
jump_place j = j.place

-- the entry of a jump, once its target is known
abbrev pub jump_to : OpenJump → ℕ → Entry
jump_to j n = entry (jump_code j) n 0 (jump_place j)

-- how many entries there are, unless they are too many
abbrev pub Whole : Listing → List Entry → Option ℕ → Type 0
Whole l es (Some n) = (n ≡ length es) × (n ≤ limit l) × (take n (memory_of l) ≡ es)
Whole l es None = limit l < length es
