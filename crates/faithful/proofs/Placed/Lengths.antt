-- The code of each part is as long as its addresses say.
use mathlib.Core.Path.{◌≡◌, ◌∙◌, ap}
use mathlib.Core.List.{List, [], ◌∷◌}
use Prim.Native.Nat.{ℕ, zero, suc, ◌+◌}
use native.Mathlib.Nat.{add-suc, suc-add, add-zero, zero-add}
use native.Mathlib.Omega.{arith}
use lib.ListN.{length, length-append}
use Rattle.model.specs.declared.table.Entry.{Entry}
use Rattle.model.specs.Tree.{Exp, Cmd, Role, Block, Routines, block, no_more, routine, program, procedure, function, constant, variable, call, negated, denied, joined, assign, invoke, then_do, se_senao}
use Rattle.model.specs.Code.{Laid, of_exp, of_cmd, with_begin, enter, leave, hand_over, contents, RoutineCode, inside, of_routine, of_routines}
use Rattle.model.specs.Tree
use Rattle.faithful.proofs.Ideal.Machine.{Table, table}
use Rattle.faithful.proofs.Placed.Addresses.{after_exp, after_cmd, past_hand_over, past_enter, past_routines, body_at, after_routines, after_routine}

-- the entries stand in the table from q
abbrev pub EntriesAt : Table → ℕ → List Entry → Type 0
EntriesAt T q [] = Unit {0}
EntriesAt T q (e ∷ es) = (T q ≡ e) × EntriesAt T (suc q) es

entries_shifted : (T : Table) (q : ℕ) (t : List Entry) → ((i : ℕ) → T (q + i) ≡ table t i) → EntriesAt T q t
entries_shifted T q [] h = tt
entries_shifted T q (e ∷ es) h =
    (rw add-zero at (h 0), entries_shifted T (suc q) es (λ i. rw suc-add (rw add-suc at (h (suc i)))))

pub table_entries : (t : List Entry) → EntriesAt (table t) 0 t
table_entries t = entries_shifted (table t) 0 t (λ i. rw zero-add)

-- ── the ends ────────────────────────────────────────────────────────────────────────────────

pub exp_length : (ls : List Laid) (x : Exp) (q : ℕ) → q + length (of_exp ls x) ≡ after_exp x q
exp_length ls (constant p v) q = omega arith
exp_length ls (variable p f) q = omega arith
exp_length ls (call p f) q = omega arith
exp_length ls (negated p x) q = simp length-append (omega (arith, exp_length ls x q))
exp_length ls (denied p x) q = simp length-append (omega (arith, exp_length ls x q))
exp_length ls (joined o p x y) q =
    simp length-append (rw (← exp_length ls x q) (omega (arith, exp_length ls y (q + length (of_exp ls x)))))

pub past_exp : (ls : List Laid) (x : Exp) (q : ℕ) → q + length (of_exp ls x) + 1 ≡ suc (after_exp x q)
past_exp ls x q = omega (arith, exp_length ls x q)

pub cmd_length : (ls : List Laid) (q : ℕ) (c : Cmd) → q + length (of_cmd ls q c) ≡ after_cmd c q
cmd_length ls q (assign p f x) = simp length-append (omega (arith, exp_length ls x q))
cmd_length ls q (invoke p f) = omega arith
cmd_length ls q (Tree.leia p p2 f) = omega arith
cmd_length ls q (Tree.escreva p p2 f) = omega arith
cmd_length ls q (then_do c d) =
    rw (cmd_length ls q c) (simp length-append (omega (arith, cmd_length ls q c, cmd_length ls (after_cmd c q) d)))
cmd_length ls q (Tree.se p x c) =
    rw (past_exp ls x q) (simp length-append (omega (arith, exp_length ls x q, cmd_length ls (suc (after_exp x q)) c)))
cmd_length ls q (se_senao p x c p2 d) =
    let q1 : ℕ = suc (after_exp x q) in
    let e : q1 + length (of_cmd ls q1 c) + 1 ≡ suc (after_cmd c q1) = omega (arith, cmd_length ls q1 c) in
    rw (past_exp ls x q, e) (simp length-append
    (omega (arith, exp_length ls x q, cmd_length ls q1 c, cmd_length ls (suc (after_cmd c q1)) d)))
cmd_length ls q (Tree.enquanto p x c) =
    let q1 : ℕ = suc (after_exp x q) in
    rw (past_exp ls x q) (simp length-append (omega (arith, exp_length ls x q, cmd_length ls q1 c)))

pub enter_length : (m k p q : ℕ) → q + length (enter m k p) ≡ past_enter k q
enter_length m zero p q = omega arith
enter_length m (suc k) p q = omega arith

leave_length : (m k p q : ℕ) → q + length (leave m k p) ≡ past_enter k q
leave_length m zero p q = omega arith
leave_length m (suc k) p q = omega arith

hand_over_length : (r : Role) (m p q : ℕ) → q + length (hand_over r m p) ≡ past_hand_over r q
hand_over_length program m p q = omega arith
hand_over_length procedure m p q = omega arith
hand_over_length (function y) m p q = omega arith

-- a block's contents, if its routines' code is rc, which ends at e
contents_length : (ls : List Laid) (q p : ℕ) (rs : Routines) (rc : RoutineCode) (c : Cmd) (l : Laid) (e : ℕ) →
    q + 1 + length rc.entries ≡ e →
    q + length (contents ls q p rs rc c l) ≡ after_cmd c (past_routines rs q e)
contents_length ls q p no_more rc c l e h = cmd_length (l ∷ ls) q c
contents_length ls q p (routine b rs) rc c l e h =
    rw h (omega (arith, length-append rc.entries (of_cmd (rc.laid ∷ ls) e c), cmd_length (rc.laid ∷ ls) e c))

mutual
  pub routine_length : (ls : List Laid) (q : ℕ) (b : Block) → q + length (of_routine ls q b) ≡ after_routine b q
  routine_length ls q (block p r k rs c) =
      let l : Laid = inside ls k in
      let q1 : ℕ = past_enter k q in
      let h1 : q + length (enter l.first k p) ≡ q1 = enter_length l.first k p q in
      let h2 : q1 + 1 + length (of_routines ls l (q1 + 1) rs).entries ≡ after_routines rs (suc q1) = routines_length
      ls l (q1 + 1) rs ∙ ap (after_routines rs) (omega arith) in
      let h3 = contents_length ls q1 p rs (of_routines ls l (q1 + 1) rs) c l (after_routines rs (suc q1)) h2 in
      let q2 : ℕ = after_cmd c (body_at rs q1) in
      rw h1 (simp length-append (omega (
        arith,
        h3,
        hand_over_length r l.first p q2,
        leave_length l.first k p (past_hand_over r q2),
        h1,
      )))

  pub routines_length : (ls : List Laid) (l : Laid) (q : ℕ) (rs : Routines) →
      q + length (of_routines ls l q rs).entries ≡ after_routines rs q
  routines_length ls l q no_more = omega arith
  routines_length ls l q (routine b rs) =
      let m : Laid = with_begin l q in
      rw (routine_length (m ∷ ls) q b)
      (simp length-append (omega (arith, routine_length (m ∷ ls) q b, routines_length ls m (after_routine b q) rs)))
