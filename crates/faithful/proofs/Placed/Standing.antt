-- What it is for code to stand in a table, from an address on.
use mathlib.Core.Path.{ap, ◌≡◌}
use mathlib.Core.List.{[], ◌∷◌}
use mathlib.Core.Bool.{true}
use Prim.Native.Nat.{◌≤◌, ℕ, zero, suc}
use native.Mathlib.Omega.{arith}
use Rattle.model.specs.declared.table.Entry.{Entry}
use Rattle.model.specs.Tree.{Exp, Cmd, Role, Block, Routines, block, no_more, routine, program, procedure, function, constant, variable, call, negated, denied, joined, assign, invoke, then_do, se_senao}
use Rattle.model.specs.Code.{entry, plain, op_code}
use Rattle.model.specs.Person.{routines_of}
use Rattle.model.specs.Codes.{ALLOC, CALL, DALLOC, INV, JMP, JMPF, LDC, LDV, NEG, PRN, RD, RETURN, STR}
use Rattle.model.specs.Tree
use Rattle.faithful.proofs.Ideal.Machine.{Table}
use Rattle.faithful.proofs.Placed.Addresses.{after_exp, after_cmd, past_enter, past_hand_over, body_at, after_routines, after_routine, frame, Frames, first_free, cell_up, begin_up, frame_of, HasVariable, HasRoutine, routine_up}
use Rattle.faithful.proofs.Scoped.Trees.{is_function_block, ResultHasCell}

-- ── expressions and commands ────────────────────────────────────────────────────────────────

-- every name that is used is declared around, and the code stands from q
abbrev pub ExpStands : Table → Frames → Exp → ℕ → Type 0
ExpStands T Γ (constant p v) q = T q ≡ record { code = LDC; a = v; b = 0; place = p }
ExpStands T Γ (variable p f) q =
    HasVariable Γ f.hops f.index × (T q ≡ entry LDV (cell_up Γ f.hops f.index) 0 p)
ExpStands T Γ (call p f) q =
    HasRoutine Γ f.hops f.index × (is_function_block (routine_up Γ f.hops f.index) ≡ true)
    × (T q ≡ entry CALL (begin_up Γ f.hops f.index) 0 p) × (T (suc q) ≡ entry LDV 0 0 p)
ExpStands T Γ (negated p x) q = ExpStands T Γ x q × (T (after_exp x q) ≡ plain INV p)
ExpStands T Γ (denied p x) q = ExpStands T Γ x q × (T (after_exp x q) ≡ plain NEG p)
ExpStands T Γ (joined o p x y) q =
    ExpStands T Γ x q × ExpStands T Γ y (after_exp x q) × (T (after_exp y (after_exp x q)) ≡ plain (op_code o) p)

abbrev pub CmdStands : Table → Frames → Cmd → ℕ → Type 0
CmdStands T Γ (assign p f x) q =
    ExpStands T Γ x q × HasVariable Γ f.hops f.index
    × (T (after_exp x q) ≡ entry STR (cell_up Γ f.hops f.index) 0 p)
CmdStands T Γ (invoke p f) q =
    HasRoutine Γ f.hops f.index × (T q ≡ entry CALL (begin_up Γ f.hops f.index) 0 p)
CmdStands T Γ (Tree.leia p p2 f) q =
    HasVariable Γ f.hops f.index × (T q ≡ plain RD p)
    × (T (suc q) ≡ entry STR (cell_up Γ f.hops f.index) 0 p2)
CmdStands T Γ (Tree.escreva p p2 f) q =
    HasVariable Γ f.hops f.index × (T q ≡ entry LDV (cell_up Γ f.hops f.index) 0 p2)
    × (T (suc q) ≡ plain PRN p)
CmdStands T Γ (then_do c d) q = CmdStands T Γ c q × CmdStands T Γ d (after_cmd c q)
CmdStands T Γ (Tree.se p x c) q =
    ExpStands T Γ x q × (T (after_exp x q) ≡ entry JMPF (after_cmd c (suc (after_exp x q))) 0 p)
    × CmdStands T Γ c (suc (after_exp x q))
CmdStands T Γ (se_senao p x c p2 d) q =
    ExpStands T Γ x q × (T (after_exp x q) ≡ entry JMPF (suc (after_cmd c (suc (after_exp x q)))) 0 p)
    × CmdStands T Γ c (suc (after_exp x q))
    × (T (after_cmd c (suc (after_exp x q))) ≡ entry JMP (after_cmd d (suc (after_cmd c (suc (after_exp x q))))) 0
    p2) × CmdStands T Γ d (suc (after_cmd c (suc (after_exp x q))))
CmdStands T Γ (Tree.enquanto p x c) q =
    ExpStands T Γ x q × (T (after_exp x q) ≡ entry JMPF (suc (after_cmd c (suc (after_exp x q)))) 0 p)
    × CmdStands T Γ c (suc (after_exp x q))
    × (T (after_cmd c (suc (after_exp x q))) ≡ entry JMP q 0 p)

-- ── routines ────────────────────────────────────────────────────────────────────────────────

-- a routine's first and last entries, if its n own cells are those from m on
abbrev pub EnterStands : Table → ℕ → ℕ → ℕ → ℕ → Type 0
EnterStands T m zero p q = Unit {0}
EnterStands T m (suc n) p q = T q ≡ entry ALLOC m (suc n) p

abbrev pub JumpStands : Table → Routines → ℕ → ℕ → Type 0
JumpStands T no_more p q = Unit {0}
JumpStands T (routine b rs) p q = T q ≡ entry JMP (after_routines (routine b rs) (suc q)) 0 p

abbrev pub HandOverStands : Table → Role → ℕ → ℕ → ℕ → Type 0
HandOverStands T program m p q = Unit {0}
HandOverStands T procedure m p q = Unit {0}
HandOverStands T (function y) m p q = (T q ≡ entry LDV m 0 p) × (T (suc q) ≡ entry STR 0 0 p)

abbrev pub LeaveStands : Table → ℕ → ℕ → ℕ → ℕ → Type 0
LeaveStands T m zero p q = Unit {0}
LeaveStands T m (suc n) p q = T q ≡ entry DALLOC m (suc n) p

-- the parts of a routine that begins at q, where X says that its own routines stand
pub record RoutineParts (T : Table) (Γ : Frames) (p : ℕ) (r : Role) (n : ℕ) (rs : Routines) (c : Cmd) (q : ℕ)
    (X : Type 0) : Type 0 where
  pub result : ResultHasCell r n
  pub enter : EnterStands T (first_free Γ) n p q
  pub jump : JumpStands T rs p (past_enter n q)
  pub inner : X
  pub body : CmdStands T (frame_of (block p r n rs c) q ∷ Γ) c (body_at rs (past_enter n q))
  pub hand : HandOverStands T r (first_free Γ) p (after_cmd c (body_at rs (past_enter n q)))
  pub leave : LeaveStands T (first_free Γ) n p (past_hand_over r (after_cmd c (body_at rs (past_enter n q))))
  pub back : T (past_enter n (past_hand_over r (after_cmd c (body_at rs (past_enter n q))))) ≡ plain RETURN p

abbrev mutual
  pub RoutineStands : Table → Frames → Block → ℕ → Type 0
  RoutineStands T Γ (block p r n rs c) q =
      RoutineParts T Γ p r n rs c q (RoutinesStand T (frame_of (block p r n rs c) q ∷ Γ) rs (suc (past_enter n q)))

  pub RoutinesStand : Table → Frames → Routines → ℕ → Type 0
  RoutinesStand T Γ no_more q = Unit {0}
  RoutinesStand T Γ (routine b rs) q = RoutineStands T Γ b q × RoutinesStand T Γ rs (after_routine b q)

-- the routines of every block of the context stand in the table
abbrev pub AroundStands : Table → Frames → Type 0
AroundStands T [] = Unit {0}
AroundStands T (frame b q ∷ Γ) = RoutinesStand T (frame b q ∷ Γ) (routines_of b) q × AroundStands T Γ

-- ── code that stands begins with an entry ───────────────────────────────────────────────────

entry_there : (T : Table) (q : ℕ) {e : Entry} → T q ≡ e → 1 ≤ e.code → 1 ≤ (T q).code
entry_there T q eq h = omega (arith, ap (λ e. e.code) eq)

pub exp_begins : (T : Table) (Γ : Frames) (x : Exp) (q : ℕ) → ExpStands T Γ x q → 1 ≤ (T q).code
exp_begins T Γ (constant p v) q f = entry_there T q f (omega arith)
exp_begins T Γ (variable p g) q f = entry_there T q f.1 (omega arith)
exp_begins T Γ (call p g) q f = entry_there T q f.2 (omega arith)
exp_begins T Γ (negated p x) q f = exp_begins T Γ x q f.0
exp_begins T Γ (denied p x) q f = exp_begins T Γ x q f.0
exp_begins T Γ (joined o p x y) q f = exp_begins T Γ x q f.0

pub cmd_begins : (T : Table) (Γ : Frames) (c : Cmd) (q : ℕ) → CmdStands T Γ c q → 1 ≤ (T q).code
cmd_begins T Γ (assign p g x) q f = exp_begins T Γ x q f.0
cmd_begins T Γ (invoke p g) q f = entry_there T q f.1 (omega arith)
cmd_begins T Γ (Tree.leia p p2 g) q f = entry_there T q f.1 (omega arith)
cmd_begins T Γ (Tree.escreva p p2 g) q f = entry_there T q f.1 (omega arith)
cmd_begins T Γ (then_do c d) q f = cmd_begins T Γ c q f.0
cmd_begins T Γ (Tree.se p x c) q f = exp_begins T Γ x q f.0
cmd_begins T Γ (se_senao p x c p2 d) q f = exp_begins T Γ x q f.0
cmd_begins T Γ (Tree.enquanto p x c) q f = exp_begins T Γ x q f.0

pub routine_begins : (T : Table) (Γ : Frames) (b : Block) (q : ℕ) → RoutineStands T Γ b q → 1 ≤ (T q).code
routine_begins T Γ (block p r zero no_more c) q f =
    cmd_begins T (frame_of (block p r zero no_more c) q ∷ Γ) c q f.body
routine_begins T Γ (block p r zero (routine b rs) c) q f = entry_there T q f.jump (omega arith)
routine_begins T Γ (block p r (suc n) rs c) q f = entry_there T q f.enter (omega arith)
