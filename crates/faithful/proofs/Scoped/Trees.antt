-- A well-scoped tree: every name that is used is declared around it.
use mathlib.Core.Path.{◌≡◌}
use mathlib.Core.List.{List, [], ◌∷◌, ◌++◌}
use mathlib.Core.Bool.{Bool, true, false}
use Prim.Native.Nat.{ℕ, zero, suc, ◌<◌, ◌≤◌}
use lib.ListN.{length, get_or}
use Rattle.model.specs.Tree.{program, procedure, function, Exp, Cmd, Block, Routines, block, no_more, routine, constant, variable, call, negated, denied, joined, assign, invoke, then_do, se_senao, Role}
use Rattle.model.specs.Tree

abbrev pub is_function : Role → Bool
is_function program = false
is_function procedure = false
is_function (function y) = true

abbrev pub role_of : Block → Role
role_of (block p r k rs c) = r

abbrev pub is_function_block : Block → Bool
is_function_block b = is_function (role_of b)

-- of each routine in order, whether it is a function
abbrev pub function_flags : Routines → List Bool
function_flags no_more = []
function_flags (routine b rs) = is_function_block b ∷ function_flags rs

-- a function has an own cell at least: the first carries its result
abbrev pub ResultHasCell : Role → ℕ → Type 0
ResultHasCell r n = is_function r ≡ true → 1 ≤ n

-- ── what is declared around a place ─────────────────────────────────────────────────────────

-- what a surrounding block declares before the place: how many cells, and of each routine whether it is a function.
-- Lists of these go from the innermost block to the program
pub record Declared : Type 0 where
  pub cells : ℕ
  pub kinds : List Bool

abbrev pub declared : ℕ → List Bool → Declared
declared k f = record { cells = k; kinds = f }

-- the block h blocks up has a cell i, a routine w, a routine w that is a function
abbrev pub VariableKnown : List Declared → ℕ → ℕ → Type 0
VariableKnown [] h i = ⊥
VariableKnown (o ∷ Δ) zero i = i < o.cells
VariableKnown (o ∷ Δ) (suc h) i = VariableKnown Δ h i

abbrev pub RoutineKnown : List Declared → ℕ → ℕ → Type 0
RoutineKnown [] h w = ⊥
RoutineKnown (o ∷ Δ) zero w = w < length o.kinds
RoutineKnown (o ∷ Δ) (suc h) w = RoutineKnown Δ h w

abbrev pub FunctionKnown : List Declared → ℕ → ℕ → Type 0
FunctionKnown [] h w = ⊥
FunctionKnown (o ∷ Δ) zero w = get_or o.kinds w false ≡ true
FunctionKnown (o ∷ Δ) (suc h) w = FunctionKnown Δ h w

-- ── trees ───────────────────────────────────────────────────────────────────────────────────

abbrev pub ExpScoped : List Declared → Exp → Type 0
ExpScoped Δ (constant p v) = Unit {0}
ExpScoped Δ (variable p f) = VariableKnown Δ f.hops f.index
ExpScoped Δ (call p f) = RoutineKnown Δ f.hops f.index × FunctionKnown Δ f.hops f.index
ExpScoped Δ (negated p x) = ExpScoped Δ x
ExpScoped Δ (denied p x) = ExpScoped Δ x
ExpScoped Δ (joined o p x y) = ExpScoped Δ x × ExpScoped Δ y

abbrev pub CmdScoped : List Declared → Cmd → Type 0
CmdScoped Δ (assign p f x) = ExpScoped Δ x × VariableKnown Δ f.hops f.index
CmdScoped Δ (invoke p f) = RoutineKnown Δ f.hops f.index
CmdScoped Δ (Tree.leia p p2 f) = VariableKnown Δ f.hops f.index
CmdScoped Δ (Tree.escreva p p2 f) = VariableKnown Δ f.hops f.index
CmdScoped Δ (then_do c d) = CmdScoped Δ c × CmdScoped Δ d
CmdScoped Δ (Tree.se p x c) = ExpScoped Δ x × CmdScoped Δ c
CmdScoped Δ (se_senao p x c p2 d) = ExpScoped Δ x × CmdScoped Δ c × CmdScoped Δ d
CmdScoped Δ (Tree.enquanto p x c) = ExpScoped Δ x × CmdScoped Δ c

abbrev mutual
  pub BlockScoped : List Declared → Block → Type 0
  BlockScoped Δ (block p r k rs c) =
      ResultHasCell r k × RoutinesScoped Δ k [] rs × CmdScoped (declared k (function_flags rs) ∷ Δ) c

  -- the routines behind those with the flags `seen`, of a block with k cells: each sees itself and those before it
  pub RoutinesScoped : List Declared → ℕ → List Bool → Routines → Type 0
  RoutinesScoped Δ k seen no_more = Unit {0}
  RoutinesScoped Δ k seen (routine b rs) =
      BlockScoped (declared k (seen ++ is_function_block b ∷ []) ∷ Δ) b
      × RoutinesScoped Δ k (seen ++ is_function_block b ∷ []) rs

abbrev pub WellScoped : Block → Type 0
WellScoped b = BlockScoped [] b
