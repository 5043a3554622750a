-- One step of the ideal machine is one step of the machine, or the cells do not suffice.
use mathlib.Core.Path.{◌≡◌, refl, sym, ◌∙◌, ap, subst}
use mathlib.Core.Bool.{Bool, cond, ◌&&◌, false, true}
use mathlib.Core.Logic.{◌⊎◌, inl, inr}
use mathlib.Core.List.{List, [], ◌∷◌, ◌++◌}
use mathlib.Core.Option.{some}
use Prim.Native.Nat.{ℕ, zero, suc, ◌+◌, ◌-◌, ◌≤◌, ◌<◌}
use native.Mathlib.Omega.{arith}
use lib.IntN.{ℤ, pos, negsuc, neg_ℤ, ◌-ℤ◌}
use lib.Dec.{leb, ltb, eqb}
use lib.ListN.{length, get_or, set, replicate, get_or-eq_default}
use Rattle.model.specs.declared.faults.RunFault.{RunFault}
use Rattle.model.specs.declared.script.Operator.{Operator}
use Rattle.model.specs.declared.table.Entry.{Entry}
use Rattle.model.specs.declared.faults.RunFault.TheVariants.{NothingWaiting, CellsFull, NoCell, NoEntry}
use Rattle.model.specs.declared.script.Operator.TheVariants as Operators
use Rattle.model.specs.Reading.{pick}
use Rattle.model.specs.Code.{entry, plain, op_code}
use Rattle.model.specs.Values.{Result, value, fails, combine, invert, deny, eqZ}
use Rattle.model.specs.Machine.{Machine, Went, goes, halts, stops, Now, no_entry, instructions, carried_out, two, one, put_result, jump, taken, put, write, cut, step}
use Rattle.model.specs.Numbers.{run_number}
use Rattle.model.specs.Codes.{ALLOC, DALLOC, INV, JMPF, NEG, PRN, RD, RETURN, STR}
use Rattle.model.specs.Person.{took}
use Rattle.model.specs.Promise.{Each}
use Rattle.faithful.proofs.Ideal.Machine.{table, Cells, Io, state, Moved, next, stop, halt, crash, with_result, perform, updated, save, clear, restore, carry_out, do_combine, ideal_step, pop, return_to, with_taken, with_written}
use Rattle.faithful.proofs.Placed.Entries.{SoundEntry, sound_start, sound_halt, sound_constant, sound_load, sound_store, sound_operator, sound_invert, sound_deny, sound_jump, sound_test, sound_read, sound_write, sound_allocate, sound_release, sound_call, sound_return, each_at}
use Rattle.faithful.proofs.Following.Scripts.{operator_decoded}
use Rattle.std.proofs.lemmas.Bool.{le-leb, lt-ltb, leb-true, leb-false, ne_eqb, and_from, and_right}
use Rattle.faithful.proofs.Lockstep.Tests.{by_test, when_false, when_true}
use Rattle.faithful.proofs.Lockstep.Memory.{fill_of, LaidOut, fill_at_least, laid_push, Restored, restoring, laid_restore, fill_save, laid_pop, laid_save, laid_store}
use Rattle.faithful.proofs.Lockstep.Faults.{Shared, shared, shared_held}

-- the machine where the ideal one is at entry i with the stack h, with this memory
abbrev pub real : ℕ → ℕ → List ℤ → List ℤ → Machine
real V i h mem = record { memory = mem; fill = fill_of V h; at = i }

-- the code of every operator is carried out as that operator
operator_picked : (o : Operator) → pick eqb (op_code o) instructions ≡ some (two o)
operator_picked Operators.Add = refl
operator_picked Operators.Sub = refl
operator_picked Operators.Mult = refl
operator_picked Operators.Divi = refl
operator_picked Operators.And = refl
operator_picked Operators.Or = refl
operator_picked Operators.Less = refl
operator_picked Operators.Greater = refl
operator_picked Operators.Equal = refl
operator_picked Operators.Unequal = refl
operator_picked Operators.AtMost = refl
operator_picked Operators.AtLeast = refl

-- ── one step ────────────────────────────────────────────────────────────────────────────────

-- what the machine does, where the ideal one moves so, with N entries, V fixed cells, K in all and d filled: it does
-- the
-- same, or stops for want of cells, and V more than d are too many; where the ideal machine crashes nothing is said
abbrev pub InStep : ℕ → ℕ → ℕ → ℕ → Moved → Went → Type 0
InStep N V K d (next (state i l h o)) r =
    i < N → ((mem : List ℤ) × (r ≡ goes (real V i h mem) o.host) × LaidOut V K l h mem × (fill_of V h ≤ d + V))
    ⊎ ((r ≡ stops CellsFull) × (K < d + V))
InStep N V K d (stop k) r = (run_number k ≤ 63) × ((r ≡ stops k) ⊎ ((r ≡ stops CellsFull) × (K < d + V)))
InStep N V K d halt r = r ≡ halts
InStep N V K d crash r = Unit {0}

module _ (N V K : ℕ) (V1 : 1 ≤ V) where
  -- a push, if there is room
  push_in_step : (i : ℕ) (l : Cells) (h : List ℤ) (o : Io) (mem : List ℤ) (v : ℤ) → LaidOut V K l h mem →
      InStep N V K (fill_of V h) (next (state i l (v ∷ h) o))
      (elim (leb (fill_of V h + 1) (length mem)) [
        | true ↦ goes (real V i (v ∷ h) (set mem (fill_of V h) v)) o.host
        | false ↦ stops CellsFull
      ])
  push_in_step i l h o mem v m =
      by_test (InStep N V K (fill_of V h) (next (state i l (v ∷ h) o))) (leb (fill_of V h + 1) (length mem))
      (goes (real V i (v ∷ h) (set mem (fill_of V h) v)) o.host) (stops CellsFull)
      (λ e lt. inl (
        set mem (fill_of V h) v,
        refl,
        laid_push V K l h mem v m (omega (arith, leb-true (fill_of V h + 1) (length mem) e, m.long)),
        omega arith,
      ))
      (λ e lt. inr (refl, omega (arith, leb-false (fill_of V h + 1) (length mem) e, m.long)))

  jump_in_step : (a : ℕ) (l : Cells) (h : List ℤ) (o : Io) (mem : List ℤ) (d : ℕ) → fill_of V h ≤ d →
      LaidOut V K l h mem →
      InStep N V K d (next (state a l h o))
      (elim (ltb a N) [ true ↦ goes (real V a h mem) o.host | false ↦ stops NoEntry ])
  jump_in_step a l h o mem d le m lt =
      when_true (λ r. ((mem1 : List ℤ) × (r ≡ goes (real V a h mem1) o.host) × LaidOut V K l h mem1
      × (fill_of V h ≤ d + V)) ⊎ ((r ≡ stops CellsFull) × (K < d + V))) _ _ (ltb a N) (lt-ltb a N lt)
      (inl (mem, refl, m, omega arith))

  -- an operator's result, where the stack has d under its operands
  result_in_step : (i : ℕ) (l : Cells) (h : List ℤ) (o : Io) (mem : List ℤ) (r : Result) (d0 d : ℕ) →
      fill_of V h ≤ d0 → d ≡ fill_of V h → fill_of V h < K → LaidOut V K l h mem → Shared r → (w : Went) →
      ((v : ℤ) → r ≡ value v → w ≡ goes (record { memory = set mem d v; fill = suc d; at = suc i }) o.host) →
      ((k : RunFault) → r ≡ fails k → w ≡ stops k) →
      InStep N V K d0 (with_result r (suc i) l h o) w
  result_in_step i l h o mem (value v) d0 d le e lt m s w f g =
      λ z. inl (
        set mem (fill_of V h) v,
        f v refl ∙ ap (λ x. goes (record { memory = set mem x v; fill = suc x; at = suc i }) o.host) e,
        laid_push V K l h mem v m lt,
        omega arith,
      )
  result_in_step i l h o mem (fails k) d0 d le e lt m s w f g = (s, inl (g k refl))

  -- what an instruction sees
  abbrev now : ℕ → List ℤ → Io → List ℤ → Entry → Now
  now i h o mem e = record { machine = real V i h mem; host = o.host; entry = e; entries = N }

  two_in_step : (u : Operator) (e : Entry) (i : ℕ) (l : Cells) (h : List ℤ) (o : Io) (mem : List ℤ) →
      LaidOut V K l h mem →
      InStep N V K (fill_of V h) (carry_out (do_combine u) e (state i l h o)) (two u (now i h o mem e))
  two_in_step u e i l [] o mem m = tt
  two_in_step u e i l (w ∷ []) o mem m = tt
  two_in_step u e i l (w ∷ v ∷ h) o mem m =
      let d : ℕ = fill_of V h in
      let e1 : suc (suc d) - 1 ≡ suc d = omega arith in
      let e2 : suc (suc d) - 2 ≡ d = omega arith in
      let m1 = laid_pop V K l v h mem (laid_pop V K l w (v ∷ h) mem m) in
      let now1 : Now = now i (w ∷ v ∷ h) o mem e in
      let x : two u now1 ≡ put_result 2 now1 (combine u v w) =
      when_true (λ r. r ≡ put_result 2 now1 (combine u v w)) _ _ (leb 2 (suc (suc d)))
      (le-leb 2 (suc (suc d)) (omega arith))
      (ap (λ z. put_result 2 now1 (combine u (get_or mem z (pos 0)) (get_or mem (suc (suc d) - 1) (pos 0)))) e2
      ∙ (ap (λ z. put_result 2 now1 (combine u (get_or mem d (pos 0)) (get_or mem z (pos 0)))) e1
      ∙ (ap (λ z. put_result 2 now1 (combine u z (get_or mem (suc d) (pos 0)))) m.high.1.0
      ∙ ap (λ z. put_result 2 now1 (combine u v z)) m.high.0))) in
      result_in_step i l h o mem (combine u v w) (suc (suc d)) d (omega arith) refl (omega (arith, m.room)) m1
      (shared u v w) (two u now1)
      (λ z q. x ∙ (ap (put_result 2 now1) q
      ∙ ap (λ y. goes (record { memory = set mem y z; fill = suc y; at = suc i }) o.host) e2))
      (λ k q. x ∙ ap (put_result 2 now1) q)

  one_in_step : (f : ℤ → Result) (e : Entry) (i : ℕ) (l : Cells) (h : List ℤ) (o : Io) (mem : List ℤ) →
      ((z : ℤ) → Shared (f z)) → LaidOut V K l h mem →
      InStep N V K (fill_of V h) (pop h (λ v h1. with_result (f v) (suc i) l h1 o)) (one f (now i h o mem e))
  one_in_step f e i l [] o mem s m = tt
  one_in_step f e i l (v ∷ h) o mem s m =
      let d : ℕ = fill_of V h in
      let e1 : suc d - 1 ≡ d = omega arith in
      let m1 = laid_pop V K l v h mem m in
      let now1 : Now = now i (v ∷ h) o mem e in
      let x : one f now1 ≡ put_result 1 now1 (f v) =
      when_true (λ r. r ≡ put_result 1 now1 (f v)) _ _ (leb 1 (suc d)) (le-leb 1 (suc d) (omega arith))
      (ap (λ z. put_result 1 now1 (f (get_or mem z (pos 0)))) e1 ∙ ap (λ z. put_result 1 now1 (f z)) m.high.0) in
      result_in_step i l h o mem (f v) (suc d) d (omega arith) refl (omega (arith, m.room)) m1 (s v) (one f now1)
      (λ z q. x ∙ (ap (put_result 1 now1) q
      ∙ ap (λ y. goes (record { memory = set mem y z; fill = suc y; at = suc i }) o.host) e1))
      (λ k q. x ∙ ap (put_result 1 now1) q)

  abbrev carried : Entry → Now → Went
  carried e n = carried_out (pick eqb e.code instructions) n

  top_of : (l : Cells) (v : ℤ) (h : List ℤ) (mem : List ℤ) → LaidOut V K l (v ∷ h) mem →
      get_or mem (suc (fill_of V h) - 1) (pos 0) ≡ v
  top_of l v h mem m =
      let e1 : suc (fill_of V h) - 1 ≡ fill_of V h = omega arith in ap (λ z. get_or mem z (pos 0)) e1 ∙ m.high.0

  -- STR
  store_in_step : (c p i : ℕ) (l : Cells) (h : List ℤ) (o : Io) (mem : List ℤ) → c < V → LaidOut V K l h mem →
      InStep N V K (fill_of V h) (perform (entry STR c 0 p) (state i l h o))
      (carried (entry STR c 0 p) (now i h o mem (entry STR c 0 p)))
  store_in_step c p i l [] o mem lt m = tt
  store_in_step c p i l (v ∷ h) o mem lt m =
      let d : ℕ = fill_of V h in
      let m1 = laid_pop V K l v h mem m in
      let Q : Went → Type 0 = InStep N V K (suc d) (next (state (suc i) (updated l c v) h o)) in
      when_true Q _ _ (leb 1 (suc d)) (le-leb 1 (suc d) (omega arith))
      (when_true Q _ _ (ltb c (suc d)) (lt-ltb c (suc d) (omega (arith, fill_at_least V h)))
      (λ z. inl (
        set mem c v,
        ap (λ x. goes (real V (suc i) h (set mem c x)) o.host) (top_of l v h mem m),
        laid_store V K l h mem c v m1 lt,
        omega arith,
      )))

  -- JMPF
  test_in_step : (a p i : ℕ) (l : Cells) (h : List ℤ) (o : Io) (mem : List ℤ) → LaidOut V K l h mem →
      InStep N V K (fill_of V h) (perform (entry JMPF a 0 p) (state i l h o))
      (carried (entry JMPF a 0 p) (now i h o mem (entry JMPF a 0 p)))
  test_in_step a p i l [] o mem m = tt
  test_in_step a p i l (v ∷ h) o mem m =
      let F : ℤ → Went = λ x. elim (eqZ x (pos 0)) [
        | true ↦ jump (pos a) mem (fill_of V h) (now i (v ∷ h) o mem (entry JMPF a 0 p))
        | false ↦ goes (real V (suc i) h mem) o.host
      ] in
      let Q : Went → Type 0 = InStep N V K (suc (fill_of V h)) (next (state (cond (eqZ v (pos 0)) a (suc i)) l h o)) in
      when_true Q _ _ (leb 1 (suc (fill_of V h))) (le-leb 1 (suc (fill_of V h)) (omega arith))
      (subst (λ x. Q (F x)) (sym (top_of l v h mem m)) (at (eqZ v (pos 0))))
    where
      at : (b : Bool) → InStep N V K (suc (fill_of V h)) (next (state (cond b a (suc i)) l h o))
          (elim b [
            | true ↦ jump (pos a) mem (fill_of V h) (now i (v ∷ h) o mem (entry JMPF a 0 p))
            | false ↦ goes (real V (suc i) h mem) o.host
          ])
      at true = jump_in_step a l h o mem (suc (fill_of V h)) (omega arith) (laid_pop V K l v h mem m)
      at false = λ z. inl (mem, refl, laid_pop V K l v h mem m, omega arith)

  -- RD
  read_in_step : (p i : ℕ) (l : Cells) (h : List ℤ) (o : Io) (mem : List ℤ) → LaidOut V K l h mem →
      InStep N V K (fill_of V h) (perform (plain RD p) (state i l h o))
      (carried (plain RD p) (now i h o mem (plain RD p)))
  read_in_step p i l h o mem m = at o.host.waiting
    where
      at : (ws : List ℤ) → InStep N V K (fill_of V h) (with_taken ws (suc i) l h o)
          (elim (leb (fill_of V h + 1) (length mem)) [
            | true ↦ taken ws (now i h o mem (plain RD p))
            | false ↦ stops CellsFull
          ])
      at [] =
          by_test (InStep N V K (fill_of V h) (stop NothingWaiting)) (leb (fill_of V h + 1) (length mem))
          (stops NothingWaiting) (stops CellsFull) (λ e. (omega arith, inl refl))
          (λ e. (omega arith, inr (refl, omega (arith, leb-false (fill_of V h + 1) (length mem) e, m.long))))
      at (v ∷ vs) =
          push_in_step (suc i) l h (record {
            host = record { waiting = vs; written = o.host.written; room = o.host.room };
            events = o.events ++ took v ∷ [];
          }) mem v m

  -- PRN
  write_in_step : (p i : ℕ) (l : Cells) (h : List ℤ) (o : Io) (mem : List ℤ) → LaidOut V K l h mem →
      InStep N V K (fill_of V h) (perform (plain PRN p) (state i l h o))
      (carried (plain PRN p) (now i h o mem (plain PRN p)))
  write_in_step p i l [] o mem m = tt
  write_in_step p i l (v ∷ h) o mem m =
      when_true (InStep N V K (suc (fill_of V h)) (with_written o.host.room v (suc i) l h o)) _ _
      (leb 1 (suc (fill_of V h))) (le-leb 1 (suc (fill_of V h)) (omega arith)) (at o.host.room)
    where
      at : (r : ℕ) → InStep N V K (suc (fill_of V h)) (with_written r v (suc i) l h o)
          (put r (now i (v ∷ h) o mem (plain PRN p)))
      at zero = (omega arith, inl refl)
      at (suc r) = λ z.
          inl (
            mem,
            ap (λ x. goes (real V (suc i) h mem)
                (record { waiting = o.host.waiting; written = o.host.written ++ x ∷ []; room = r }))
                (top_of l v h mem m),
            laid_pop V K l v h mem m,
            omega arith,
          )

  -- RETURN
  return_in_step : (p i : ℕ) (l : Cells) (h : List ℤ) (o : Io) (mem : List ℤ) → LaidOut V K l h mem →
      InStep N V K (fill_of V h) (perform (plain RETURN p) (state i l h o))
      (carried (plain RETURN p) (now i h o mem (plain RETURN p)))
  return_in_step p i l [] o mem m = tt
  return_in_step p i l (v ∷ h) o mem m =
      let Q : Went → Type 0 = InStep N V K (suc (fill_of V h)) (return_to v l h o) in
      when_true Q _ _ (leb 1 (suc (fill_of V h))) (le-leb 1 (suc (fill_of V h)) (omega arith))
      (subst (λ x. Q (jump x mem (fill_of V h) (now i (v ∷ h) o mem (plain RETURN p)))) (sym (top_of l v h mem m))
      (at v))
    where
      at : (z : ℤ) → InStep N V K (suc (fill_of V h)) (return_to z l h o)
          (jump z mem (fill_of V h) (now i (v ∷ h) o mem (plain RETURN p)))
      at (pos a) = jump_in_step a l h o mem (suc (fill_of V h)) (omega arith) (laid_pop V K l v h mem m)
      at (negsuc a) = tt

  -- ALLOC below the filled cells
  allocate_in_step : (a n p i : ℕ) (l : Cells) (h : List ℤ) (o : Io) (mem : List ℤ) → a + suc n ≤ V →
      LaidOut V K l h mem →
      InStep N V K (fill_of V h) (perform (entry ALLOC a (suc n) p) (state i l h o))
      (carried (entry ALLOC a (suc n) p) (now i h o mem (entry ALLOC a (suc n) p)))
  allocate_in_step a n p i l h o mem le m =
      let d : ℕ = fill_of V h in
      let g = fill_at_least V h in
      let Q : Went → Type 0 = InStep N V K d (next (state (suc i) (clear l a (suc n)) (save l a (suc n) h) o)) in
      when_false Q _ _ (ltb a (suc d) && eqb a d) (and_right (ltb a (suc d)) (eqb a d) (ne_eqb a d (omega arith)))
      (when_true Q _ _ (ltb a (suc d) && leb (a + suc n) d)
      (and_from (ltb a (suc d)) (leb (a + suc n) d) (lt-ltb a (suc d) (omega arith))
      (le-leb (a + suc n) d (omega arith)))
      (by_test (InStep N V K d (next (state (suc i) (clear l a (suc n)) (save l a (suc n) h) o)))
      (leb (d + suc n) (length mem))
      (goes (record {
        memory = write (write mem d (cut mem a (suc n))) a (replicate (suc n) (pos 0));
        fill = d + suc n;
        at = suc i;
      }) o.host) (stops CellsFull)
      (λ e z. inl (
        write (write mem d (cut mem a (suc n))) a (replicate (suc n) (pos 0)),
        ap (λ x. goes (record {
          memory = write (write mem d (cut mem a (suc n))) a (replicate (suc n) (pos 0));
          fill = x;
          at = suc i;
        }) o.host) (sym (fill_save V K l a (suc n) h)),
        laid_save V K l h mem a (suc n) m le (omega (arith, leb-true (d + suc n) (length mem) e, m.long)),
        omega (arith, fill_save V K l a (suc n) h),
      ))
      (λ e z. inr (refl, omega (arith, leb-false (d + suc n) (length mem) e, m.long)))))

  -- DALLOC below the filled cells
  release_in_step : (a n p i : ℕ) (l : Cells) (h : List ℤ) (o : Io) (mem : List ℤ) → a + suc n ≤ V →
      LaidOut V K l h mem →
      InStep N V K (fill_of V h) (perform (entry DALLOC a (suc n) p) (state i l h o))
      (carried (entry DALLOC a (suc n) p) (now i h o mem (entry DALLOC a (suc n) p)))
  release_in_step a n p i l h o mem le m =
      at (restoring V a (suc n) l h (λ l1 h1. next (state (suc i) l1 h1 o)) mem m.high)
    where
      k : Cells → List ℤ → Moved
      k l1 h1 = next (state (suc i) l1 h1 o)

      r : Went
      r = carried (entry DALLOC a (suc n) p) (now i h o mem (entry DALLOC a (suc n) p))

      at : (restore l a (suc n) h k ≡ crash) ⊎ Restored V a (suc n) l h k mem →
          InStep N V K (fill_of V h) (restore l a (suc n) h k) r
      at (inl e) = rw e tt
      at (inr u) =
          let d : ℕ = fill_of V h in
          let d1 : ℕ = fill_of V u.h1 in
          let g = fill_at_least V u.h1 in
          let e1 : d - suc n ≡ d1 = omega (arith, u.deep) in
          let Q : Went → Type 0 = InStep N V K d (next (state (suc i) u.l1 u.h1 o)) in
          let F : ℕ → Went = λ left. elim (ltb a (suc left) && eqb a left) [
            | true ↦ goes (record { memory = mem; fill = left; at = suc i }) o.host
            | false ↦ elim (ltb a (suc left) && leb (a + suc n) left) [
              | true ↦ goes (record { memory = write mem a (cut mem left (suc n)); fill = left; at = suc i }) o.host
              | false ↦ stops NoCell
            ]
          ] in
          subst (λ x. InStep N V K d x r) (sym u.is)
          (when_true Q _ _ (leb (suc n) d) (le-leb (suc n) d (omega (arith, u.deep))) (subst (λ x. Q (F x)) (sym e1)
          (when_false Q _ _ (ltb a (suc d1) && eqb a d1)
          (and_right (ltb a (suc d1)) (eqb a d1) (ne_eqb a d1 (omega arith)))
          (when_true Q _ _ (ltb a (suc d1) && leb (a + suc n) d1)
          (and_from (ltb a (suc d1)) (leb (a + suc n) d1) (lt-ltb a (suc d1) (omega arith))
          (le-leb (a + suc n) d1 (omega arith)))
          (λ z. inl (
            write mem a (cut mem d1 (suc n)),
            refl,
            laid_restore V K l h mem a (suc n) k m le u,
            omega (arith, u.deep),
          ))))))

  -- every entry that is sound
  instruction_in_step : (e : Entry) (i : ℕ) (l : Cells) (h : List ℤ) (o : Io) (mem : List ℤ) → SoundEntry V e →
      LaidOut V K l h mem →
      InStep N V K (fill_of V h) (perform e (state i l h o)) (carried e (now i h o mem e))
  instruction_in_step e i l h o mem sound_start m = tt
  instruction_in_step e i l h o mem sound_halt m = refl
  instruction_in_step e i l h o mem (sound_constant {v}) m = push_in_step (suc i) l h o mem v m
  instruction_in_step e i l h o mem (sound_load {c} lt) m =
      let Q : Went → Type 0 = InStep N V K (fill_of V h) (next (state (suc i) l (l c ∷ h) o)) in
      let F : ℤ → Went = λ x. elim (leb (fill_of V h + 1) (length mem))
      [ true ↦ goes (real V (suc i) (x ∷ h) (set mem (fill_of V h) x)) o.host | false ↦ stops CellsFull ] in
      when_true Q _ _ (ltb c (fill_of V h)) (lt-ltb c (fill_of V h) (omega (arith, fill_at_least V h)))
      (subst (λ x. Q (F x)) (sym (m.low c lt)) (push_in_step (suc i) l h o mem (l c) m))
  instruction_in_step e i l h o mem (sound_store {c} {p} lt) m = store_in_step c p i l h o mem lt m
  instruction_in_step e i l h o mem (sound_operator {p} u) m =
      subst (λ x. InStep N V K (fill_of V h) (carry_out x (plain (op_code u) p) (state i l h o))
      (carried (plain (op_code u) p) (now i h o mem (plain (op_code u) p)))) (sym (operator_decoded u))
      (subst (λ x. InStep N V K (fill_of V h) (carry_out (do_combine u) (plain (op_code u) p) (state i l h o))
      (carried_out x (now i h o mem (plain (op_code u) p)))) (sym (operator_picked u))
      (two_in_step u (plain (op_code u) p) i l h o mem m))
  instruction_in_step e i l h o mem (sound_invert {p}) m =
      one_in_step invert (plain INV p) i l h o mem (λ z. shared_held (neg_ℤ z)) m
  instruction_in_step e i l h o mem (sound_deny {p}) m =
      one_in_step deny (plain NEG p) i l h o mem (λ z. shared_held (pos 1 -ℤ z)) m
  instruction_in_step e i l h o mem (sound_jump {a}) m = jump_in_step a l h o mem (fill_of V h) (omega arith) m
  instruction_in_step e i l h o mem (sound_test {a} {p}) m = test_in_step a p i l h o mem m
  instruction_in_step e i l h o mem (sound_read {p}) m = read_in_step p i l h o mem m
  instruction_in_step e i l h o mem (sound_write {p}) m = write_in_step p i l h o mem m
  instruction_in_step e i l h o mem (sound_allocate {m = a} {n} {p} le) m = allocate_in_step a n p i l h o mem le m
  instruction_in_step e i l h o mem (sound_release {m = a} {n} {p} le) m = release_in_step a n p i l h o mem le m
  instruction_in_step e i l h o mem (sound_call {a}) m = λ lt.
      when_true (λ r. ((mem1 : List ℤ) × (r ≡ goes (real V a (pos (suc i) ∷ h) mem1) o.host)
      × LaidOut V K l (pos (suc i) ∷ h) mem1 × (suc (fill_of V h) ≤ fill_of V h + V))
      ⊎ ((r ≡ stops CellsFull) × (K < fill_of V h + V))) _ _ (ltb a N) (lt-ltb a N lt)
      (push_in_step a l h o mem (pos (suc i)) m lt)
  instruction_in_step e i l h o mem (sound_return {p}) m = return_in_step p i l h o mem m

module _ (E : List Entry) (V K : ℕ) (V1 : 1 ≤ V) (good : Each (SoundEntry V) E) where
  pub step_in_step : (i : ℕ) (l : Cells) (h : List ℤ) (o : Io) (mem : List ℤ) → i < length E → LaidOut V K l h mem →
      InStep (length E) V K (fill_of V h) (ideal_step (table E) (state i l h o)) (step E (real V i h mem) o.host)
  step_in_step i l h o mem lt m =
      when_true (InStep (length E) V K (fill_of V h) (ideal_step (table E) (state i l h o))) _ _ (ltb i (length E))
      (lt-ltb i (length E) lt) (instruction_in_step (length E) V K V1 (get_or E i no_entry) i l h o mem
      (each_at (SoundEntry V) E i good lt) m)

  -- outside the table the ideal machine crashes
  pub crash_outside : (i : ℕ) (l : Cells) (h : List ℤ) (o : Io) → length E ≤ i →
      ideal_step (table E) (state i l h o) ≡ crash
  crash_outside i l h o le = ap (λ e. perform e (state i l h o)) (get_or-eq_default E no_entry le)
