-- Where the parts of a script's code begin and end, and which cells and entries the blocks around a place have.
use mathlib.Core.List.{List, [], ◌∷◌}
use Prim.Native.Nat.{ℕ, zero, suc, ◌+◌, ◌<◌}
use Rattle.model.specs.Tree.{Exp, Cmd, Role, Block, Routines, block, no_more, routine, program, procedure, function, constant, variable, call, negated, denied, joined, assign, invoke, then_do, se_senao}
use Rattle.model.specs.Person.{own_cells, routines_of, nothing, nth_routine}
use Rattle.model.specs.Tree

-- ── where code ends ─────────────────────────────────────────────────────────────────────────

-- the address behind the code of an expression, of a command that begins at q
abbrev pub after_exp : Exp → ℕ → ℕ
after_exp (constant p v) q = suc q
after_exp (variable p f) q = suc q
after_exp (call p f) q = suc (suc q)
after_exp (negated p x) q = suc (after_exp x q)
after_exp (denied p x) q = suc (after_exp x q)
after_exp (joined o p x y) q = suc (after_exp y (after_exp x q))

abbrev pub after_cmd : Cmd → ℕ → ℕ
after_cmd (assign p f x) q = suc (after_exp x q)
after_cmd (invoke p f) q = suc q
after_cmd (Tree.leia p p2 f) q = suc (suc q)
after_cmd (Tree.escreva p p2 f) q = suc (suc q)
after_cmd (then_do c d) q = after_cmd d (after_cmd c q)
after_cmd (Tree.se p x c) q = after_cmd c (suc (after_exp x q))
after_cmd (se_senao p x c p2 d) q = after_cmd d (suc (after_cmd c (suc (after_exp x q))))
after_cmd (Tree.enquanto p x c) q = suc (after_cmd c (suc (after_exp x q)))

-- behind the ALLOC of a block with n own cells, and as well behind its DALLOC: a block without cells has neither
abbrev pub past_enter : ℕ → ℕ → ℕ
past_enter zero q = q
past_enter (suc n) q = suc q

-- behind the jump at q over a block's routines, which end at e: a block without routines has no jump
abbrev pub past_routines : Routines → ℕ → ℕ → ℕ
past_routines no_more q e = q
past_routines (routine b rs) q e = e

-- behind the entries that hand a function's result over
abbrev pub past_hand_over : Role → ℕ → ℕ
past_hand_over program q = q
past_hand_over procedure q = q
past_hand_over (function y) q = suc (suc q)

-- behind a routine whose body ends at q
abbrev pub past_tail : ℕ → Role → ℕ → ℕ
past_tail n r q = suc (past_enter n (past_hand_over r q))

abbrev mutual
  pub after_routine : Block → ℕ → ℕ
  after_routine (block p r n rs c) q =
      past_tail n r (after_cmd c (past_routines rs (past_enter n q) (after_routines rs (suc (past_enter n q)))))

  pub after_routines : Routines → ℕ → ℕ
  after_routines no_more q = q
  after_routines (routine b rs) q = after_routines rs (after_routine b q)

-- where a block's body begins, if the jump over its routines stands at q
abbrev pub body_at : Routines → ℕ → ℕ
body_at rs q = past_routines rs q (after_routines rs (suc q))

-- ── the blocks around a place ───────────────────────────────────────────────────────────────

-- a block around, and the address of its first routine; lists of these go from the innermost block to the program
pub data Frame : Type 0 where
  frame : Block → ℕ → Frame

abbrev pub Frames : Type 0
Frames = List Frame

-- the first cell that no block around has: cell 0 carries results
abbrev pub first_free : Frames → ℕ
first_free [] = 1
first_free (frame b q ∷ Γ) = first_free Γ + own_cells b

-- the cell of variable i of the block h blocks up
abbrev pub cell_up : Frames → ℕ → ℕ → ℕ
cell_up [] h i = 0
cell_up (frame b q ∷ Γ) zero i = first_free Γ + i
cell_up (frame b q ∷ Γ) (suc h) i = cell_up Γ h i

-- where the routine w begins, of routines that begin at q
abbrev pub nth_begin : Routines → ℕ → ℕ → ℕ
nth_begin no_more q w = q
nth_begin (routine b rs) q zero = q
nth_begin (routine b rs) q (suc w) = nth_begin rs (after_routine b q) w

-- where the routine w of the block h blocks up begins
abbrev pub begin_up : Frames → ℕ → ℕ → ℕ
begin_up [] h w = 0
begin_up (frame b q ∷ Γ) zero w = nth_begin (routines_of b) q w
begin_up (frame b q ∷ Γ) (suc h) w = begin_up Γ h w

-- the frame of a routine whose code begins at q
abbrev pub frame_of : Block → ℕ → Frame
frame_of b q = frame b (suc (past_enter (own_cells b) q))

-- the variable, the routine is there
abbrev pub HasVariable : Frames → ℕ → ℕ → Type 0
HasVariable [] h i = ⊥
HasVariable (frame b q ∷ Γ) zero i = i < own_cells b
HasVariable (frame b q ∷ Γ) (suc h) i = HasVariable Γ h i

abbrev pub HasNth : Routines → ℕ → Type 0
HasNth no_more w = ⊥
HasNth (routine b rs) zero = Unit {0}
HasNth (routine b rs) (suc w) = HasNth rs w

abbrev pub HasRoutine : Frames → ℕ → ℕ → Type 0
HasRoutine [] h w = ⊥
HasRoutine (frame b q ∷ Γ) zero w = HasNth (routines_of b) w
HasRoutine (frame b q ∷ Γ) (suc h) w = HasRoutine Γ h w

-- the routine w of the block h blocks up
abbrev pub routine_up : Frames → ℕ → ℕ → Block
routine_up [] h w = nothing
routine_up (frame b q ∷ Γ) zero w = nth_routine w (routines_of b)
routine_up (frame b q ∷ Γ) (suc h) w = routine_up Γ h w
