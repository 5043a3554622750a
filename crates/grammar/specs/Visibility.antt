-- Which declaration a name finds, as rules: the newest of the innermost block that has one. Assumes nothing.
use Rattle.std.specs.Prelude.{◌≡◌, ℕ, false, ◌↔◌, List, [], ◌∷◌, ◌++◌, length, ◌≢◌}
use Rattle.std.proofs.Math.Option.{Option, none, some}
use Rattle.model.specs.Names.{Known, Kind, Scope, Seen, alike_numbers, routine_number, visible, declared_here}
use Rattle.model.specs.Promise.{Each}

-- no name of the list is spelled s
abbrev pub Absent : List ℕ → List Known → Type 0
Absent s ks = Each (λ k. s ≢ k.spelling) ks

-- the newest of the names that is spelled s stands for d
pub data Newest (s : List ℕ) (d : Kind) : List Known → Type 0 where
  newest :
      (k : Known) (newer older : List Known) → Absent s newer → s ≡ k.spelling → d ≡ k.kind →
      Newest s d (newer ++ k ∷ older)

-- the number of the outermost of the blocks among the routines of the block around it, or o where there is no block
abbrev pub outermost : Option ℕ → List Scope → Option ℕ
outermost o [] = o
outermost o (c ∷ cs) = outermost (some c.which) cs

-- from inside the blocks, innermost first, s finds d: no block further in than c has a name s, c has, and its newest is
-- meant; the use stands inside d's own block if d is the routine of c that the inner blocks stand in
pub data Finds (s : List ℕ) (d : Seen) : List Scope → Type 0 where
  finds :
      (c : Scope) (inner outer : List Scope) →
      Each (λ b. Absent s b.known) inner → Newest s d.kind c.known → d.hops ≡ length inner →
      d.inside ≡ alike_numbers (outermost none inner) (routine_number d.kind) →
      Finds s d (inner ++ c ∷ outer)

-- a name is visible so
abbrev pub FoundByRules : Type 0
FoundByRules = (s : List ℕ) (cs : List Scope) (d : Seen) → (visible s cs ≡ some d) ↔ Finds s d cs

-- a block has a name already if one of its names, or of those that wait for their type, is spelled so
abbrev pub DeclaredByRules : Type 0
DeclaredByRules =
    (s : List ℕ) (c : Scope) →
    (declared_here s c ≡ false) ↔ (Absent s c.known × Each (λ w. s ≢ w.0) c.waiting)
