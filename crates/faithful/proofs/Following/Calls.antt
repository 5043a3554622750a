-- A call: into a routine, through its body, and back to the caller.
use mathlib.Core.Path.{◌≡◌, refl, ◌∙◌, ap}
use mathlib.Core.List.{List, [], ◌∷◌, ◌++◌}
use mathlib.Core.Bool.{Bool, true, false}
use Prim.Native.Nat.{ℕ, zero, suc, ◌+◌, ◌≤◌, ◌<◌}
use native.Mathlib.Nat.{add-zero}
use native.Mathlib.Decide.{dec_lt}
use native.Mathlib.Omega.{arith}
use lib.IntN.{ℤ, pos}
use lib.ListN.{take, drop, get_or}
use Rattle.model.specs.Tree.{Role, Block, Routines, block, no_more, routine, program, procedure, function}
use Rattle.model.specs.Code.{entry}
use Rattle.model.specs.Person.{Activation, Scene, Outcome, done, out_of_turns, ◌then◌, Follow, own_cells, body_of, routines_of, no_activation, with_chain, turn, fresh}
use Rattle.model.specs.Codes.{CALL}
use Rattle.faithful.proofs.Ideal.Runs.{step_then, no_step, Goes, goes_trans, goes_one, step_at}
use Rattle.faithful.proofs.Following.Outcomes.{io, Follows, to_turn, BlockFollows, steps_then, follows_after, follows_through}
use Rattle.faithful.proofs.Placed.Standing.{CmdStands, RoutinesStand, RoutineStands, EnterStands, JumpStands, HandOverStands, LeaveStands, AroundStands, routine_begins}
use Rattle.faithful.proofs.Following.Chain.{Holds, UnchangedAbove, first_free_positive, first_free_drop, holds_cell, holds_same, holds_drop, holds_returned, holds_fresh, around_drop}
use Rattle.faithful.proofs.Ideal.Machine.{Table, Cells, Io, state, next, updated, save, clear}
use Rattle.faithful.proofs.Placed.Addresses.{Frame, frame, Frames, first_free, after_cmd, past_hand_over, body_at, past_enter, frame_of}
use Rattle.faithful.proofs.Scoped.Trees.{is_function_block, is_function}
use Rattle.faithful.proofs.Ideal.Fixed.{updated_same, updated_other, clear_above, restored, restore_saved, restored_below, restored_above, restored_within}

-- the fixed cells when a routine is left: the result in cell 0, then the saved cells back
abbrev handed : Bool → Cells → ℕ → Cells
handed true l m = updated l 0 (l m)
handed false l m = l

handed_other : (f : Bool) (l : Cells) (m k : ℕ) → 1 ≤ k → handed f l m k ≡ l k
handed_other true l m k h = updated_other l 0 (l m) k (omega arith)
handed_other false l m k h = refl

-- ── into a routine, and out of it ───────────────────────────────────────────────────────────

-- the steps of a routine's first and last entries
abbrev enter_steps : ℕ → ℕ
enter_steps zero = 0
enter_steps (suc n) = 1

abbrev pub jump_steps : Routines → ℕ
jump_steps no_more = 0
jump_steps (routine b rs) = 1

abbrev hand_over_steps : Role → ℕ
hand_over_steps program = 0
hand_over_steps procedure = 0
hand_over_steps (function y) = 2

abbrev entry_steps : Block → ℕ
entry_steps (block p r n rs c) = enter_steps n + jump_steps rs

abbrev exit_steps : Block → ℕ
exit_steps (block p r n rs c) = hand_over_steps r + (enter_steps n + 1)

module _ (T : Table) where
  enters_block : (m n p q : ℕ) (l : Cells) (h : List ℤ) (o : Io) → EnterStands T m n p q →
      Goes T (enter_steps n) (state q l h o) (state (past_enter n q) (clear l m n) (save l m n h) o)
  enters_block m zero p q l h o e = no_step
  enters_block m (suc n) p q l h o e = goes_one (step_at T q l h o e)

  pub jumps_over : (rs : Routines) (p q : ℕ) (l : Cells) (h : List ℤ) (o : Io) → JumpStands T rs p q →
      Goes T (jump_steps rs) (state q l h o) (state (body_at rs q) l h o)
  jumps_over no_more p q l h o e = no_step
  jumps_over (routine b rs) p q l h o e = goes_one (step_at T q l h o e)

  hands_over : (r : Role) (m p q : ℕ) (l : Cells) (h : List ℤ) (o : Io) → HandOverStands T r m p q →
      Goes T (hand_over_steps r) (state q l h o) (state (past_hand_over r q) (handed (is_function r) l m) h o)
  hands_over program m p q l h o e = no_step
  hands_over procedure m p q l h o e = no_step
  hands_over (function y) m p q l h o e =
      step_then (step_at T q l h o e.0) (goes_one (step_at T (suc q) l (l m ∷ h) o e.1))

  leaves_block : (m n p q : ℕ) (l0 l : Cells) (h : List ℤ) (o : Io) → LeaveStands T m n p q →
      Goes T (enter_steps n) (state q l (save l0 m n h) o) (state (past_enter n q) (restored l0 l m n) h o)
  leaves_block m zero p q l0 l h o e = no_step
  leaves_block m (suc n) p q l0 l h o e =
      goes_one (step_at T q l (save l0 m (suc n) h) o e
      ∙ restore_saved l0 l m (suc n) h (λ l1 h1. next (state (suc q) l1 h1 o)))

  -- from a routine's first entry to its body
  enters_body : (Γ : Frames) (b : Block) (e : ℕ) (l : Cells) (h : List ℤ) (o : Io) → RoutineStands T Γ b e →
      Goes T (entry_steps b) (state e l h o) (state (body_at (routines_of b) (past_enter (own_cells b) e))
      (clear l (first_free Γ) (own_cells b)) (save l (first_free Γ) (own_cells b) h) o)
  enters_body Γ (block p r n rs c) e l h o w =
      goes_trans (enters_block (first_free Γ) n p e l h o w.enter)
      (jumps_over rs p (past_enter n e) (clear l (first_free Γ) n) (save l (first_free Γ) n h) o w.jump)

  -- from the end of its body to the caller
  leaves_routine : (Γ : Frames) (b : Block) (e : ℕ) (l0 l : Cells) (r : ℕ) (h : List ℤ) (o : Io) →
      RoutineStands T Γ b e →
      Goes T (exit_steps b) (state (after_cmd (body_of b) (body_at (routines_of b) (past_enter (own_cells b) e))) l
      (save l0 (first_free Γ) (own_cells b) (pos r ∷ h)) o)
      (state r (restored l0 (handed (is_function_block b) l (first_free Γ)) (first_free Γ) (own_cells b)) h o)
  leaves_routine Γ (block p y n rs c) e l0 l r h o w =
      let q : ℕ = after_cmd c (body_at rs (past_enter n e)) in
      let l1 : Cells = handed (is_function y) l (first_free Γ) in
      goes_trans (hands_over y (first_free Γ) p q l (save l0 (first_free Γ) n (pos r ∷ h)) o w.hand)
      (goes_trans (leaves_block (first_free Γ) n p (past_hand_over y q) l0 l1 (pos r ∷ h) o w.leave)
      (goes_one (step_at T (past_enter n (past_hand_over y q)) (restored l0 l1 (first_free Γ) n) (pos r ∷ h) o
      w.back)))

  body_stands : (Γ : Frames) (b : Block) (e : ℕ) → RoutineStands T Γ b e →
      CmdStands T (frame_of b e ∷ Γ) (body_of b) (body_at (routines_of b) (past_enter (own_cells b) e))
  body_stands Γ (block p y n rs c) e w = w.body

  inner_stand : (Γ : Frames) (b : Block) (e : ℕ) → RoutineStands T Γ b e →
      RoutinesStand T (frame_of b e ∷ Γ) (routines_of b) (suc (past_enter (own_cells b) e))
  inner_stand Γ (block p y n rs c) e w = w.inner

  pub function_cells : (Γ : Frames) (b : Block) (e : ℕ) → RoutineStands T Γ b e → is_function_block b ≡ true →
      1 ≤ own_cells b
  function_cells Γ (block p y n rs c) e w h = w.result h

-- ── the cells behind a call ─────────────────────────────────────────────────────────────────

-- l before the call, l2 at the end of the body, at_return behind it: the inner cells are as they were, the outer ones
-- as the body left them, and cell 0 has a function's result
module _ (Γ : Frames) (b : Block) (e : ℕ) (l l2 : Cells) where
  abbrev m : ℕ
  m = first_free Γ

  abbrev n : ℕ
  n = own_cells b

  abbrev at_return : Cells
  at_return = restored l (handed (is_function_block b) l2 m) m n

  return_above : UnchangedAbove (frame_of b e ∷ Γ) (clear l m n) l2 → (k : ℕ) → m ≤ k → at_return k ≡ l k
  return_above sm k le = go (dec_lt k (m + n))
    where
      go : Dec (k < m + n) → at_return k ≡ l k
      go (yes lt) = restored_within l m (handed (is_function_block b) l2 m) n k le lt
      go (no ge) =
          restored_above l m (handed (is_function_block b) l2 m) n k (omega arith)
          ∙ (handed_other (is_function_block b) l2 m k (omega (arith, first_free_positive Γ))
          ∙ (sm k (omega arith) ∙ clear_above l m n k (omega arith)))

  return_below : (k : ℕ) → 1 ≤ k → k < m → at_return k ≡ l2 k
  return_below k h1 lt =
      restored_below l m (handed (is_function_block b) l2 m) n k lt ∙ handed_other (is_function_block b) l2 m k h1

  return_result : is_function_block b ≡ true → at_return 0 ≡ l2 m
  return_result f =
      restored_below l m (handed (is_function_block b) l2 m) n 0 (first_free_positive Γ)
      ∙ (ap (λ x. handed x l2 m 0) f ∙ updated_same l2 0 (l2 m))

-- ── a whole call ────────────────────────────────────────────────────────────────────────────

-- ALLOC pays for the step more that an expression has to leave
entry_pays : (y : ℕ) (b : Block) → y ≤ 1 → y ≤ own_cells b → y ≤ entry_steps b
entry_pays y (block p r zero rs c) h1 h2 = omega arith
entry_pays y (block p r (suc n) rs c) h1 h2 = omega arith

-- the steps of a turn that is taken, or of none
abbrev pub turn_steps : ℕ → ℕ → (ℕ → ℕ) → ℕ
turn_steps z zero k = z
turn_steps z (suc t) k = k t

-- a turn, by the turns left
abbrev pub turn_at : {A : Type 0} → ℕ → Scene → (Scene → Outcome A) → Outcome A
turn_at t s f =
    elim t [
      | zero ↦ out_of_turns s
      | suc n ↦ f (record { chain = s.chain; host = s.host; events = s.events; turns = n })
    ]

holds_rest : (Γ : Frames) (f : Frame) (l : Cells) (ch : List Activation) → Holds (f ∷ Γ) l ch → Holds Γ l (drop 1 ch)
holds_rest Γ (frame b q) l [] m = absurd m
holds_rest Γ (frame b q) l (a ∷ ch) m = m.3

-- the scene in which the callee begins, with t turns left, and what its end gives
abbrev in_callee : Block → ℕ → Scene → ℕ → Scene
in_callee b hops s t = record { chain = fresh b ∷ drop hops s.chain; host = s.host; events = s.events; turns = t }

abbrev pub result : Scene → ℤ
result u = get_or (get_or u.chain 0 no_activation).cells 0 (pos 0)

abbrev pub returned : ℕ → Scene → Scene → Scene
returned hops s u = with_chain u (take hops s.chain ++ drop 1 u.chain)

module _ (fo : Follow) (ih : BlockFollows fo) where
  -- the steps of a call, and kn after it
  abbrev pub call_steps : Block → ℕ → Scene → ℕ → ℕ
  call_steps b hops s kn =
      turn_steps 1 s.turns (λ t. steps_then (suc (entry_steps b) + (ih b (in_callee b hops s t)).0)
      (fo b (in_callee b hops s t)) (λ u s2. exit_steps b + kn))

module _ (fo : Follow) (ih : BlockFollows fo) (T : Table) (push : ℤ → List ℤ) (q2 y : ℕ) where
  -- a call, and what comes after it: y is 1 in an expression, where the callee is a function and so has a cell
  pub call_follows : (Γ : Frames) (b : Block) (e hops q p : ℕ) (l : Cells) (h : List ℤ) (s : Scene) (kn : ℕ) →
      y ≤ 1 → y ≤ own_cells b → AroundStands T Γ → T q ≡ entry CALL e 0 p → RoutineStands T (drop hops Γ) b e →
      Holds Γ l s.chain →
      ((v : ℤ) (s1 : Scene) (l1 : Cells) → Holds Γ l1 s1.chain → UnchangedAbove Γ l l1 →
      (is_function_block b ≡ true → l1 0 ≡ v) →
      Follows T Γ push q2 kn 0 y s1.turns l1 (state (suc q) l1 h (io s1)) (done v s1)) →
      Follows T Γ push q2 (call_steps fo ih b hops s kn) 0 y s.turns l (state q l h (io s))
      (turn s (λ t. fo b (with_chain t (fresh b ∷ drop hops t.chain)) then λ _ u. done (result u)
      (returned hops t u)))
  call_follows Γ b e hops q p l h s kn y1 yn st eq fit m on = at s.turns
    where
      Δ : Frames
      Δ = drop hops Γ

      hh : List ℤ
      hh = pos (suc q) ∷ h

      returns : (u : Unit {0}) (s2 : Scene) (l2 : Cells) → Holds (frame_of b e ∷ Δ) l2 s2.chain →
          UnchangedAbove (frame_of b e ∷ Δ) (clear l (first_free Δ) (own_cells b)) l2 →
          Follows T Γ push q2 (exit_steps b + kn) 0 y s2.turns l
          (state (after_cmd (body_of b) (body_at (routines_of b) (past_enter (own_cells b) e))) l2
          (save l (first_free Δ) (own_cells b) hh) (io s2)) (done (result s2) (returned hops s s2))
      returns u s2 l2 m2 sm2 =
          let lx : Cells = restored l (handed (is_function_block b) l2 (first_free Δ)) (first_free Δ) (own_cells b) in
          let above = return_above Δ b e l l2 sm2 in
          let mx = holds_returned Γ l lx s.chain (drop 1 s2.chain) hops m
          (holds_same Δ l2 lx (drop 1 s2.chain) (return_below Δ b e l l2)
          (holds_rest Δ (frame_of b e) l2 s2.chain m2)) above in
          let same : UnchangedAbove Γ l lx = λ j le. above j (omega (arith, first_free_drop Γ hops)) in
          let res : is_function_block b ≡ true → lx 0 ≡ result s2 =
          λ f. return_result Δ b e l l2 f
          ∙ (rw add-zero at (holds_cell (frame_of b e ∷ Δ) l2 s2.chain 0 0 m2 (function_cells T Δ b e fit f))) in
          follows_after (leaves_routine T Δ b e l l2 (suc q) h (io s2) fit) (omega arith) (omega arith) same
          (on (result s2) (returned hops s s2) lx mx same res)

      at : (t : ℕ) → Follows T Γ push q2
          (turn_steps 1 t (λ t. steps_then (suc (entry_steps b) + (ih b (in_callee b hops s t)).0)
          (fo b (in_callee b hops s t)) (λ u s2. exit_steps b + kn)))
          0 y t l (state q l h (io s))
          (turn_at t s (λ t. fo b (with_chain t (fresh b ∷ drop hops t.chain)) then λ _ u. done (result u)
          (returned hops t u)))
      at zero = to_turn (record {
        at = state e l hh (io s);
        goes = goes_one (step_at T q l h (io s) eq);
        paid = omega arith;
        host = refl;
        entered = routine_begins T Δ b e fit;
      })
      at (suc t) =
          let j = entry_pays y b y1 yn in
          follows_through (step_then (step_at T q l h (io s) eq) (enters_body T Δ b e l hh (io s) fit)) (omega arith)
          (omega arith)
          ((ih b (in_callee b hops s t)).1 T (frame_of b e ∷ Δ) (body_at (routines_of b) (past_enter (own_cells b) e))
          (clear l (first_free Δ) (own_cells b)) (save l (first_free Δ) (own_cells b) hh)
          (inner_stand T Δ b e fit, around_drop T Γ hops st) (body_stands T Δ b e fit)
          (holds_fresh Δ l (drop hops s.chain) b (suc (past_enter (own_cells b) e))
          (holds_drop Γ l s.chain hops m)))
          returns
