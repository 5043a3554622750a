-- The trees that the grammar gives texts: one at most, whatever room for names, and within the cells. Assumes nothing.
use Rattle.std.specs.Prelude.{◌≡◌, ℕ, ◌+◌, ◌≤◌, List}
use Rattle.model.specs.Tree.{Block, block, Routines, no_more, routine}
use Rattle.model.specs.Acceptance.{Admitted}

-- with records for more names, a text that has a tree keeps it
abbrev pub RoomSuffices : Type 0
RoomSuffices =
    (room more : ℕ) (text : List ℕ) (b : Block) → room ≤ more → Admitted room text b → Admitted more text b

-- two trees of a text, each with records for some number of names, are the same
abbrev pub OneTree : Type 0
OneTree = (room other : ℕ) (text : List ℕ) (a b : Block) → Admitted room text a → Admitted other text b → a ≡ b

-- where n cells come before a block: with its own they are 4,096 at most, and so on with each of its routines
abbrev mutual
  pub Within : ℕ → Block → Type 0
  Within n (block p r cells rs c) = (n + cells ≤ 4096) × AllWithin (n + cells) rs

  pub AllWithin : ℕ → Routines → Type 0
  AllWithin n no_more = Unit {0}
  AllWithin n (routine b rs) = Within n b × AllWithin n rs

-- cell 0 comes before the program's
abbrev pub CellsSuffice : Type 0
CellsSuffice = (room : ℕ) (text : List ℕ) (b : Block) → Admitted room text b → Within 1 b
