-- The ideal machine follows the person through every expression, command and block.
use mathlib.Core.Path.{◌≡◌, refl, ◌∙◌, ap}
use mathlib.Core.List.{List, [], ◌∷◌, ◌++◌}
use mathlib.Core.Bool.{Bool, true, false, cond}
use Prim.Native.Nat.{ℕ, zero, suc, ◌+◌, ◌≤◌}
use native.Mathlib.Omega.{arith}
use lib.IntN.{ℤ, pos}
use lib.ListN.{drop}
use Rattle.model.specs.declared.script.Operator.{Operator}
use Rattle.model.specs.declared.script.Operator.TheVariants as Operators
use Rattle.model.specs.Tree.{Found, Block, constant, variable, call, negated, denied, joined, assign, invoke, then_do, se_senao}
use Rattle.model.specs.Code.{entry, plain, op_code}
use Rattle.model.specs.Values.{Result, value, fails, combine, invert, deny, eqZ}
use Rattle.model.specs.Person.{took, wrote, Activation, Scene, Outcome, done, ◌then◌, Follow, body_of, with_chain, yield, look, put_cell, reads, writes, evaluate, execute, loops, follows}
use Rattle.model.specs.Codes.{JMPF, STR}
use Rattle.model.specs.Tree
use Rattle.faithful.proofs.Ideal.Runs.{step_then, no_step, step_at}
use Rattle.faithful.proofs.Following.Outcomes.{io, Follows, to_turn, Again, BlockFollows, LoopFollows, CmdFollows, ExpFollows, steps_then, follows_after, follows_step, follows_turn, follows_then, follows_jump, follows_done, follows_fault}
use Rattle.faithful.proofs.Placed.Standing.{RoutineStands, AroundStands, cmd_begins, exp_begins}
use Rattle.faithful.proofs.Following.Chain.{Holds, holds_cell, holds_set, cell_below_free, callee_at, callee_same, callee_stands}
use Rattle.faithful.proofs.Ideal.Machine.{Table, Cells, state, next, ideal_step, carry_out, with_result, with_taken, with_written, decoded, do_combine}
use Rattle.faithful.proofs.Placed.Addresses.{Frames, after_exp, after_cmd, cell_up, begin_up, HasVariable, HasRoutine}
use Rattle.faithful.proofs.Scoped.Trees.{is_function_block}
use Rattle.faithful.proofs.Ideal.Fixed.{updated_other}
use Rattle.faithful.proofs.Following.Calls.{call_follows, turn_steps, turn_at, function_cells}

-- ── single instructions ─────────────────────────────────────────────────────────────────────

-- the steps of an operator, of a read, of a write
abbrev result_steps : Result → ℕ
result_steps (value z) = 1
result_steps (fails k) = 0

abbrev taken_steps : List ℤ → ℕ
taken_steps [] = 0
taken_steps (v ∷ vs) = 2

abbrev written_steps : ℕ → ℕ
written_steps zero = 0
written_steps (suc r) = 1

-- the code of every operator is the operator's
pub operator_decoded : (o : Operator) → decoded (op_code o) ≡ do_combine o
operator_decoded Operators.Add = refl
operator_decoded Operators.Sub = refl
operator_decoded Operators.Mult = refl
operator_decoded Operators.Divi = refl
operator_decoded Operators.And = refl
operator_decoded Operators.Or = refl
operator_decoded Operators.Less = refl
operator_decoded Operators.Greater = refl
operator_decoded Operators.Equal = refl
operator_decoded Operators.Unequal = refl
operator_decoded Operators.AtMost = refl
operator_decoded Operators.AtLeast = refl

-- the branch that a test chooses
abbrev choose : {A : Type 0} → Bool → Outcome A → Outcome A → Outcome A
choose b f g = elim b [ true ↦ f | false ↦ g ]

module _ (T : Table) where
  -- an operator's result, or its fault
  result_follows : (Γ : Frames) (q p : ℕ) (l : Cells) (hh h : List ℤ) (s : Scene) (r : Result) →
      Holds Γ l s.chain → (T q).place ≡ p →
      ideal_step T (state q l hh (io s)) ≡ with_result r (suc q) l h (io s) →
      Follows T Γ (λ v. v ∷ h) (suc q) (result_steps r) 0 1 s.turns l (state q l hh (io s)) (yield p s r)
  result_follows Γ q p l hh h s (value z) m w e = follows_step e (follows_done m)
  result_follows Γ q p l hh h s (fails k) m w e = follows_fault e w

  -- STR to a variable ends a command
  store_follows : (Γ : Frames) (q p : ℕ) (f : Found) (l : Cells) (v : ℤ) (h : List ℤ) (s : Scene) →
      HasVariable Γ f.hops f.index → Holds Γ l s.chain →
      T q ≡ entry STR (cell_up Γ f.hops f.index) 0 p →
      Follows T Γ (λ (u : Unit {0}). h) (suc q) 1 0 0 s.turns l (state q l (v ∷ h) (io s))
      (done tt (with_chain s (put_cell s.chain f v)))
  store_follows Γ q p f l v h s hv m e =
      follows_after {x1 = 0} {y1 = 0} (step_then (step_at T q l (v ∷ h) (io s) e) no_step) (omega arith) (omega arith)
      (λ k le. updated_other l (cell_up Γ f.hops f.index) v k
      (omega (arith, cell_below_free Γ f.hops f.index hv)))
      (follows_done {s = with_chain s (put_cell s.chain f v)} (holds_set Γ l s.chain f.hops f.index v m hv))

  -- RD and STR
  take_follows : (Γ : Frames) (q p p2 : ℕ) (f : Found) (l : Cells) (h : List ℤ) (s : Scene) (r : List ℤ) →
      HasVariable Γ f.hops f.index → Holds Γ l s.chain → (T q).place ≡ p →
      ideal_step T (state q l h (io s)) ≡ with_taken r (suc q) l h (io s) →
      T (suc q) ≡ entry STR (cell_up Γ f.hops f.index) 0 p2 →
      Follows T Γ (λ (u : Unit {0}). h) (suc (suc q)) (taken_steps r) 0 0 s.turns l (state q l h (io s))
      (reads p f s r)
  take_follows Γ q p p2 f l h s [] hv m w e e2 = follows_fault e w
  take_follows Γ q p p2 f l h s (v ∷ vs) hv m w e e2 =
      follows_step e (store_follows Γ (suc q) p2 f l v h
      (record {
        chain = s.chain;
        host = record { waiting = vs; written = s.host.written; room = s.host.room };
        events = s.events ++ took v ∷ [];
        turns = s.turns;
      }) hv m e2)

  -- PRN
  write_follows : (Γ : Frames) (q p : ℕ) (v : ℤ) (l : Cells) (hh h : List ℤ) (s : Scene) (r : ℕ) →
      Holds Γ l s.chain → (T q).place ≡ p → ideal_step T (state q l hh (io s)) ≡ with_written r v (suc q) l h (io s) →
      Follows T Γ (λ (u : Unit {0}). h) (suc q) (written_steps r) 0 0 s.turns l (state q l hh (io s))
      (writes p v s r)
  write_follows Γ q p v l hh h s zero m w e = follows_fault e w
  write_follows Γ q p v l hh h s (suc r) m w e =
      follows_step e (follows_done {s = record {
        chain = s.chain;
        host = record { waiting = s.host.waiting; written = s.host.written ++ v ∷ []; room = r };
        events = s.events ++ wrote v ∷ [];
        turns = s.turns;
      }} m)

  -- JMPF, a step that pays for what x and y ask
  module _ (Γ : Frames) {A : Type 0} (push : A → List ℤ) (q2 x y nF nG : ℕ) (x1 : x ≤ 1) (y1 : y ≤ 1) where
    test_follows : (q a p : ℕ) (l : Cells) (v : ℤ) (h : List ℤ) (s : Scene) (F G : Outcome A) → T q ≡ entry JMPF a 0 p →
        Follows T Γ push q2 nF 0 0 s.turns l (state a l h (io s)) F →
        Follows T Γ push q2 nG 0 0 s.turns l (state (suc q) l h (io s)) G →
        Follows T Γ push q2 (1 + cond (eqZ v (pos 0)) nF nG) x y s.turns l (state q l (v ∷ h) (io s))
        (choose (eqZ v (pos 0)) F G)
    test_follows q a p l v h s F G e f g = at (eqZ v (pos 0)) (step_at T q l (v ∷ h) (io s) e)
      where
        at : (b : Bool) → ideal_step T (state q l (v ∷ h) (io s)) ≡ next (state (cond b a (suc q)) l h (io s)) →
            Follows T Γ push q2 (1 + cond b nF nG) x y s.turns l (state q l (v ∷ h) (io s)) (choose b F G)
        at true w = follows_after (step_then w no_step) (omega arith) (omega arith) (λ k le. refl) f
        at false w = follows_after (step_then w no_step) (omega arith) (omega arith) (λ k le. refl) g

  -- a turn that is taken, or is wanting here
  turn_follows : (Γ : Frames) {A : Type 0} (push : A → List ℤ) (q2 t i : ℕ) (l : Cells) (h : List ℤ) (s : Scene)
      (K : Scene → Outcome A) (kn : ℕ → ℕ) → 1 ≤ (T i).code →
      ((t1 : ℕ) → Follows T Γ push q2 (kn t1) 1 1 t1 l (state i l h (io s))
      (K (record { chain = s.chain; host = s.host; events = s.events; turns = t1 }))) →
      Follows T Γ push q2 (turn_steps 0 t kn) 0 0 t l (state i l h (io s)) (turn_at t s K)
  turn_follows Γ push q2 zero i l h s K kn w k = to_turn (record {
    at = state i l h (io s);
    goes = no_step;
    paid = omega arith;
    host = refl;
    entered = w;
  })
  turn_follows Γ push q2 (suc t) i l h s K kn w k = follows_turn (k t)

module _ (fo : Follow) (ih : BlockFollows fo) where
  -- the routine that the person finds stands where the call goes
  callee_found : (T : Table) (Γ : Frames) (hops w : ℕ) (l : Cells) (ch : List Activation) → AroundStands T Γ →
      HasRoutine Γ hops w → Holds Γ l ch → RoutineStands T (drop hops Γ) (callee_at ch hops w) (begin_up Γ hops w)
  callee_found T Γ hops w l ch st hf m = rw (callee_same Γ l ch hops w hf m) (callee_stands T Γ hops w st hf)

  exp_follows : ExpFollows fo
  exp_follows (constant p v) s = (_, λ T Γ q l h st f m. follows_step (step_at T q l h (io s) f) (follows_done m))
  exp_follows (variable p g) s = (
    _,
    λ T Γ q l h st f m.
        follows_step (step_at T q l h (io s) f.1
        ∙ ap (λ x. next (state (suc q) l (x ∷ h) (io s))) (holds_cell Γ l s.chain g.hops g.index m f.0))
        (follows_done m),
  )
  exp_follows (call p g) s = (
    _,
    λ T Γ q l h st f m.
        let b : Block = callee_at s.chain g.hops g.index in
        let isf : is_function_block b ≡ true = ap is_function_block
        (callee_same Γ l s.chain g.hops g.index f.0 m) ∙ f.1 in
        let e : ℕ = begin_up Γ g.hops g.index in
        let fit : RoutineStands T (drop g.hops Γ) b e = callee_found T Γ g.hops g.index l s.chain st
        f.0 m in
        call_follows fo ih T (λ v. v ∷ h) (suc (suc q)) 1 Γ b e g.hops q p l h s 1 (omega arith)
        (function_cells T (drop g.hops Γ) b e fit isf) st f.2 fit m
        (λ v s1 l1 m1 e1 r1.
        follows_step (step_at T (suc q) l1 h (io s1) f.3
        ∙ ap (λ x. next (state (suc (suc q)) l1 (x ∷ h) (io s1))) (r1 isf)) (follows_done m1)),
  )
  exp_follows (negated p x) s = (
    _,
    λ T Γ q l h st f m.
        follows_then (omega arith) ((exp_follows x s).1 T Γ q l h st f.0 m) (λ v s1 l1 m1 e1.
        result_follows T Γ (after_exp x q) p l1 (v ∷ h) h s1 (invert v) m1 (ap (λ e. e.place) f.1)
        (step_at T (after_exp x q) l1 (v ∷ h) (io s1) f.1)),
  )
  exp_follows (denied p x) s = (
    _,
    λ T Γ q l h st f m.
        follows_then (omega arith) ((exp_follows x s).1 T Γ q l h st f.0 m) (λ v s1 l1 m1 e1.
        result_follows T Γ (after_exp x q) p l1 (v ∷ h) h s1 (deny v) m1 (ap (λ e. e.place) f.1)
        (step_at T (after_exp x q) l1 (v ∷ h) (io s1) f.1)),
  )
  exp_follows (joined o p x y) s = (
    _,
    λ T Γ q l h st f m.
        follows_then (omega arith) ((exp_follows x s).1 T Γ q l h st f.0 m) (λ v s1 l1 m1 e1.
        follows_then (omega arith) ((exp_follows y s1).1 T Γ (after_exp x q) l1 (v ∷ h) st f.1 m1) (λ w s2 l2 m2 e2.
        result_follows T Γ (after_exp y (after_exp x q)) p l2 (w ∷ v ∷ h) h s2 (combine o v w) m2
        (ap (λ e. e.place) f.2)
        (step_at T (after_exp y (after_exp x q)) l2 (w ∷ v ∷ h) (io s2) f.2
        ∙ ap (λ c. carry_out c (plain (op_code o) p) (state (after_exp y (after_exp x q)) l2 (w ∷ v ∷ h) (io s2)))
        (operator_decoded o)))),
  )

  module _ (again : Again) (il : LoopFollows again) where
    cmd_follows : CmdFollows fo again
    cmd_follows (assign p g x) s = (
      _,
      λ T Γ q l h st f m.
          follows_then (omega arith) ((exp_follows x s).1 T Γ q l h st f.0 m)
          (λ v s1 l1 m1 e1. store_follows T Γ (after_exp x q) p g l1 v h s1 f.1 m1 f.2),
    )
    cmd_follows (invoke p g) s = (
      _,
      λ T Γ q l h st f m.
          follows_then {push = λ v. h} {q = suc q} (omega arith)
          (call_follows fo ih T (λ v. h) (suc q) 0 Γ (callee_at s.chain g.hops g.index)
          (begin_up Γ g.hops g.index) g.hops q p l h s 0 (omega arith) (omega arith) st f.1
          (callee_found T Γ g.hops g.index l s.chain st f.0 m) m (λ v s1 l1 m1 e1 r1. follows_done m1))
          (λ v s1 l1 m1 e1. follows_done m1),
    )
    cmd_follows (Tree.leia p p2 g) s = (
      _,
      λ T Γ q l h st f m.
          take_follows T Γ q p p2 g l h s s.host.waiting f.0 m (ap (λ e. e.place) f.1)
          (step_at T q l h (io s) f.1) f.2,
    )
    cmd_follows (Tree.escreva p p2 g) s = (
      _,
      λ T Γ q l h st f m.
          let v : ℤ = look s.chain g in
          follows_step (step_at T q l h (io s) f.1
          ∙ ap (λ x. next (state (suc q) l (x ∷ h) (io s))) (holds_cell Γ l s.chain g.hops g.index m f.0))
          (write_follows T Γ (suc q) p v l (v ∷ h) h s s.host.room m (ap (λ e. e.place) f.2)
          (step_at T (suc q) l (v ∷ h) (io s) f.2)),
    )
    cmd_follows (then_do c d) s = (
      _,
      λ T Γ q l h st f m.
          follows_then (omega arith) ((cmd_follows c s).1 T Γ q l h st f.0 m)
          (λ u s1 l1 m1 e1. (cmd_follows d s1).1 T Γ (after_cmd c q) l1 h st f.1 m1),
    )
    cmd_follows (Tree.se p x c) s = (
      _,
      λ T Γ q l h st f m.
          let q1 = after_exp x q in
          follows_then (omega arith) ((exp_follows x s).1 T Γ q l h st f.0 m) (λ v s1 l1 m1 e1.
          test_follows T Γ (λ (u : Unit {0}). h) (after_cmd c (suc q1)) 0 0 0 (cmd_follows c s1).0 (omega arith)
          (omega arith) q1 (after_cmd c (suc q1)) p l1 v h s1 (done tt s1) (execute fo again c s1) f.1
          (follows_done m1) ((cmd_follows c s1).1 T Γ (suc q1) l1 h st f.2 m1)),
    )
    cmd_follows (se_senao p x c p2 d) s = (
      _,
      λ T Γ q l h st f m.
          let q1 = after_exp x q in
          let q2 = after_cmd c (suc q1) in
          follows_then (omega arith) ((exp_follows x s).1 T Γ q l h st f.0 m) (λ v s1 l1 m1 e1.
          test_follows T Γ (λ (u : Unit {0}). h) (after_cmd d (suc q2)) 0 0 (cmd_follows d s1).0
          (steps_then (cmd_follows c s1).0 (execute fo again c s1) (λ u s2. 1)) (omega arith) (omega arith) q1
          (suc q2) p l1 v h s1 (execute fo again d s1) (execute fo again c s1) f.1
          ((cmd_follows d s1).1 T Γ (suc q2) l1 h st f.4 m1)
          (follows_jump f.3 ((cmd_follows c s1).1 T Γ (suc q1) l1 h st f.2 m1))),
    )
    cmd_follows (Tree.enquanto p x c) s = il p x c s

-- one turn of a loop: the test pays for it
loop_follows : (d : ℕ) → BlockFollows (follows d) → LoopFollows (loops d) → LoopFollows (loops (suc d))
loop_follows d ih il p x c s = (
  _,
  λ T Γ q l h st f m.
      let q1 = after_exp x q in
      let q2 = after_cmd c (suc q1) in
      turn_follows T Γ (λ (u : Unit {0}). h) (suc q2) s.turns q l h s
      (λ t. evaluate (follows d) x t then λ v u.
      elim (eqZ v (pos 0)) [
        | true ↦ done tt u
        | false ↦ (execute (follows d) (loops d) c u then λ _ w. loops d p x c w)
      ])
      (λ t. _) (exp_begins T Γ x q f.0)
      (λ t. follows_then (omega arith)
      ((exp_follows (follows d) ih x (record { chain = s.chain; host = s.host; events = s.events; turns = t })).1 T
      Γ q l h st f.0 m) (λ v s1 l1 m1 e1.
      test_follows T Γ (λ (u : Unit {0}). h) (suc q2) 1 1 0 _ (omega arith) (omega arith) q1 (suc q2) p l1 v h s1
      (done tt s1) (execute (follows d) (loops d) c s1 then λ _ w. loops d p x c w) f.1
      (follows_done m1)
      (follows_then (omega arith) ((cmd_follows (follows d) ih (loops d) il c s1).1 T Γ (suc q1) l1 h st f.2 m1)
      (λ u s3 at_return_lem m3 e3.
      follows_step (step_at T q2 at_return_lem h (io s3) f.3) ((il p x c s3).1 T Γ q at_return_lem h st f m3))))),
)

-- blocks and loops, as deep as turns may nest: the recursion is the person's own
both_follow : (d : ℕ) → BlockFollows (follows d) × LoopFollows (loops d)
both_follow zero = (
  λ b s. (
    0,
    λ T Γ q l h st f m. to_turn (record {
      at = state q l h (io s);
      goes = no_step;
      paid = omega arith;
      host = refl;
      entered = cmd_begins T Γ (body_of b) q f;
    }),
  ),
  λ p x c s. (
    0,
    λ T Γ q l h st f m. to_turn (record {
      at = state q l h (io s);
      goes = no_step;
      paid = omega arith;
      host = refl;
      entered = exp_begins T Γ x q f.0;
    }),
  ),
)
both_follow (suc d) = (
  λ b s. cmd_follows (follows d) (both_follow d).0 (loops d) (both_follow d).1 (body_of b) s,
  loop_follows d (both_follow d).0 (both_follow d).1,
)

pub block_follows : (d : ℕ) → BlockFollows (follows d)
block_follows d = (both_follow d).0
