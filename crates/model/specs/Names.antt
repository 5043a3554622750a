-- Open blocks with the names that they declare, and which declaration a name finds. Assumes nothing.
use Rattle.std.specs.Prelude.{Bool, true, false, ◌||◌, List, [], ◌∷◌, ℕ, suc, ◌+◌, eqb, length}
use Rattle.std.proofs.Math.Option.{Option, none, some}
use Rattle.model.specs.declared.script.Ty.{Ty}
use Rattle.model.specs.Tree.{Role, Routines}
use Rattle.model.specs.Reading.{same}
use Rattle.model.specs.Ahead.{present}

-- what a name stands for: a variable with its cell, or a routine with its number, each counted in its block
pub data Kind : Type 0 where
  a_variable : Ty → ℕ → Kind
  a_procedure : ℕ → Kind
  a_function : Ty → ℕ → Kind

pub record Known : Type 0 where
  pub spelling : List ℕ
  pub kind : Kind

-- an open block
pub record Scope : Type 0 where
  -- the place of its keyword
  pub place : ℕ
  pub role : Role
  -- its number among the routines of the surrounding block
  pub which : ℕ
  -- its first cell, and how many it has so far
  pub first : ℕ
  pub cells : ℕ
  -- its names, newest first; those of a group wait for their type, each with its cell
  pub known : List Known
  pub waiting : List (List ℕ × ℕ)
  -- the routines that are complete, in order, and how many are declared
  pub routines : Routines
  pub count : ℕ

-- ── which declaration a name finds ──────────────────────────────────────────────────────────

-- what a name stands for, and how many blocks up it was declared
pub record Seen : Type 0 where
  pub kind : Kind
  pub hops : ℕ
  -- whether it is a routine, and the use stands inside its block
  pub inside : Bool

-- the newest of a block's names that is spelled so
abbrev pub spelled_so : List ℕ → List Known → Option Kind
spelled_so s [] = none
spelled_so s (k ∷ ks) = elim (same s k.spelling) [ true ↦ some k.kind | false ↦ spelled_so s ks ]

abbrev pub routine_number : Kind → Option ℕ
routine_number (a_variable y i) = none
routine_number (a_procedure w) = some w
routine_number (a_function y w) = some w

abbrev pub alike_numbers : Option ℕ → Option ℕ → Bool
alike_numbers none w = false
alike_numbers (some v) none = false
alike_numbers (some v) (some w) = eqb v w

-- from the block that is h blocks up on, where `last` is the number of the routine that was left for it
abbrev pub seen_from : List ℕ → ℕ → Option ℕ → List Scope → Option Seen
seen_from s h last [] = none
seen_from s h last (c ∷ cs) =
    elim (spelled_so s c.known) [
      | none ↦ seen_from s (suc h) (some c.which) cs
      | some d ↦ some (record { kind = d; hops = h; inside = alike_numbers last (routine_number d) })
    ]

-- the innermost declaration; the open blocks are given innermost first
abbrev pub visible : List ℕ → List Scope → Option Seen
visible s cs = seen_from s 0 none cs

-- ── what a block has already ────────────────────────────────────────────────────────────────

abbrev pub waits : List ℕ → List (List ℕ × ℕ) → Bool
waits s [] = false
waits s (w ∷ ws) = same s w.0 || waits s ws

abbrev pub declared_here : List ℕ → Scope → Bool
declared_here s c = present (spelled_so s c.known) || waits s c.waiting

-- how many records the open blocks take
abbrev pub records : List Scope → ℕ
records [] = 0
records (c ∷ cs) = length c.known + length c.waiting + records cs
