-- The code of well-scoped expressions and commands stands where it should, and names fixed cells alone.
use mathlib.Core.Path.{◌≡◌, sym, ◌∙◌, ap, subst}
use mathlib.Core.List.{List, [], ◌∷◌, ◌++◌, append_assoc}
use mathlib.Core.Bool.{true, false}
use Prim.Native.Nat.{ℕ, zero, suc, ◌+◌, ◌≤◌, ◌<◌}
use native.Mathlib.Omega.{arith}
use lib.ListN.{length, get_or}
use Rattle.model.specs.declared.table.Entry.{Entry}
use Rattle.model.specs.Tree.{Found, Exp, Cmd, constant, variable, call, negated, denied, joined, assign, invoke, then_do, se_senao}
use Rattle.model.specs.Code.{entry, plain, Laid, nowhere, cell_of, op_code, of_exp, of_cmd}
use Rattle.model.specs.Person.{own_cells, routines_of, nth_routine}
use Rattle.model.specs.Codes.{CALL, INV, JMP, JMPF, LDV, NEG, STR}
use Rattle.model.specs.Promise.{Each}
use Rattle.model.specs.Tree
use Rattle.faithful.proofs.Ideal.Machine.{Table}
use Rattle.faithful.proofs.Placed.Addresses.{after_exp, after_cmd, frame, Frames, first_free, cell_up, nth_begin, begin_up, HasVariable, HasNth, HasRoutine, routine_up}
use Rattle.faithful.proofs.Scoped.Trees.{is_function_block, Declared, VariableKnown, RoutineKnown, FunctionKnown, ExpScoped, CmdScoped}
use Rattle.faithful.proofs.Placed.Standing.{ExpStands, CmdStands}
use Rattle.faithful.proofs.Following.Chain.{cell_below_free, first_free_positive}
use Rattle.faithful.proofs.Placed.Lengths.{EntriesAt, past_exp, cmd_length}
use Rattle.faithful.proofs.Placed.Entries.{SoundEntry, each_append, sound_call, sound_constant, sound_deny, sound_invert, sound_jump, sound_load, sound_operator, sound_read, sound_store, sound_test, sound_write}

-- ── what the translation knows of the blocks around ─────────────────────────────────────────

-- what is declared so far, where the translation has laid it, and the blocks themselves agree: cells, where they begin,
-- and of each routine declared so far whether it is a function and where it begins
abbrev pub Agrees : List Declared → List Laid → Frames → Type 0
Agrees [] [] [] = Unit {0}
Agrees [] [] (f ∷ Γ) = ⊥
Agrees [] (l ∷ ls) Γ = ⊥
Agrees (o ∷ Δ) [] Γ = ⊥
Agrees (o ∷ Δ) (l ∷ ls) [] = ⊥
Agrees (o ∷ Δ) (l ∷ ls) (frame b q ∷ Γ) =
    (o.cells ≡ own_cells b) × (l.first ≡ first_free Γ) × (l.cells ≡ own_cells b)
    × ((w : ℕ) → w < length o.kinds →
    HasNth (routines_of b) w × (is_function_block (nth_routine w (routines_of b)) ≡ get_or o.kinds w false)
    × (get_or l.begins w 0 ≡ nth_begin (routines_of b) q w))
    × Agrees Δ ls Γ

-- so a variable's cell, a routine's entry and a function are what the translation takes them for
agreed_cell : (Δ : List Declared) (ls : List Laid) (Γ : Frames) (h i : ℕ) → Agrees Δ ls Γ → VariableKnown Δ h i →
    HasVariable Γ h i × ((get_or ls h nowhere).first + i ≡ cell_up Γ h i)
agreed_cell [] ls Γ h i m o = absurd o
agreed_cell (d ∷ Δ) [] Γ h i m o = absurd m
agreed_cell (d ∷ Δ) (l ∷ ls) [] h i m o = absurd m
agreed_cell (d ∷ Δ) (l ∷ ls) (frame b q ∷ Γ) zero i m o = (omega (arith, m.0), omega (arith, m.1))
agreed_cell (d ∷ Δ) (l ∷ ls) (frame b q ∷ Γ) (suc h) i m o = agreed_cell Δ ls Γ h i m.4 o

agreed_routine : (Δ : List Declared) (ls : List Laid) (Γ : Frames) (h w : ℕ) → Agrees Δ ls Γ → RoutineKnown Δ h w →
    HasRoutine Γ h w × (get_or (get_or ls h nowhere).begins w 0 ≡ begin_up Γ h w)
agreed_routine [] ls Γ h w m o = absurd o
agreed_routine (d ∷ Δ) [] Γ h w m o = absurd m
agreed_routine (d ∷ Δ) (l ∷ ls) [] h w m o = absurd m
agreed_routine (d ∷ Δ) (l ∷ ls) (frame b q ∷ Γ) zero w m o = let x = m.3 w o in (x.0, x.2)
agreed_routine (d ∷ Δ) (l ∷ ls) (frame b q ∷ Γ) (suc h) w m o = agreed_routine Δ ls Γ h w m.4 o

agreed_function : (Δ : List Declared) (ls : List Laid) (Γ : Frames) (h w : ℕ) → Agrees Δ ls Γ → RoutineKnown Δ h w →
    FunctionKnown Δ h w → is_function_block (routine_up Γ h w) ≡ true
agreed_function [] ls Γ h w m o f = absurd o
agreed_function (d ∷ Δ) [] Γ h w m o f = absurd m
agreed_function (d ∷ Δ) (l ∷ ls) [] h w m o f = absurd m
agreed_function (d ∷ Δ) (l ∷ ls) (frame b q ∷ Γ) zero w m o f = (m.3 w o).1 ∙ f
agreed_function (d ∷ Δ) (l ∷ ls) (frame b q ∷ Γ) (suc h) w m o f = agreed_function Δ ls Γ h w m.4 o f

-- ── the shape of commands with jumps ────────────────────────────────────────────────────────

pub entries_assoc : (T : Table) (q : ℕ) (xs ys zs : List Entry) → EntriesAt T q (xs ++ ys ++ zs) →
    EntriesAt T q (xs ++ (ys ++ zs))
entries_assoc T q xs ys zs at = rw append_assoc at at

se_shape : (ls : List Laid) (q p : ℕ) (x : Exp) (c : Cmd) →
    of_cmd ls q (Tree.se p x c) ≡ of_exp ls x ++ entry JMPF (after_cmd c (suc (after_exp x q))) 0 p
    ∷ of_cmd ls (suc (after_exp x q)) c
se_shape ls q p x c = rw (past_exp ls x q, cmd_length ls (suc (after_exp x q)) c)

se_senao_shape : (ls : List Laid) (q p : ℕ) (x : Exp) (c : Cmd) (p2 : ℕ) (d : Cmd) →
    of_cmd ls q (se_senao p x c p2 d) ≡
    of_exp ls x ++ entry JMPF (suc (after_cmd c (suc (after_exp x q)))) 0 p ∷ of_cmd ls (suc (after_exp x q)) c
    ++ entry JMP (after_cmd d (suc (after_cmd c (suc (after_exp x q))))) 0 p2
    ∷ of_cmd ls (suc (after_cmd c (suc (after_exp x q)))) d
se_senao_shape ls q p x c p2 d =
    let q1 : ℕ = suc (after_exp x q) in
    let e : q1 + length (of_cmd ls q1 c) + 1 ≡ suc (after_cmd c q1) = omega (arith, cmd_length ls q1 c) in
    rw (past_exp ls x q, e, cmd_length ls (suc (after_cmd c q1)) d)

enquanto_shape : (ls : List Laid) (q p : ℕ) (x : Exp) (c : Cmd) →
    of_cmd ls q (Tree.enquanto p x c) ≡ of_exp ls x ++ entry JMPF (suc (after_cmd c (suc (after_exp x q)))) 0 p
    ∷ of_cmd ls (suc (after_exp x q)) c ++ entry JMP q 0 p ∷ []
enquanto_shape ls q p x c =
    let q1 : ℕ = suc (after_exp x q) in
    let e : q1 + length (of_cmd ls q1 c) + 1 ≡ suc (after_cmd c q1) = omega (arith, cmd_length ls q1 c) in
    rw (past_exp ls x q, e)

module _ (T : Table) (V : ℕ) (Δ : List Declared) (ls : List Laid) (Γ : Frames) (mt : Agrees Δ ls Γ)
    (le : first_free Γ ≤ V) where
  abbrev cell_at : (f : Found) → VariableKnown Δ f.hops f.index →
      HasVariable Γ f.hops f.index × (cell_of ls f ≡ cell_up Γ f.hops f.index)
  cell_at f o = agreed_cell Δ ls Γ f.hops f.index mt o

  cell_fixed : (f : Found) → VariableKnown Δ f.hops f.index → cell_of ls f < V
  cell_fixed f o = let x = cell_at f o in omega (arith, x.1, cell_below_free Γ f.hops f.index x.0)

  -- the code stands, and behind it what comes behind it
  pub exp_stands : (x : Exp) (q : ℕ) (more : List Entry) → ExpScoped Δ x → EntriesAt T q (of_exp ls x ++ more) →
      ExpStands T Γ x q × EntriesAt T (after_exp x q) more
  exp_stands (constant p v) q more o a = (a.0, a.1)
  exp_stands (variable p f) q more o a = let x = cell_at f o in ((x.0, a.0 ∙ ap (λ n. entry LDV n 0 p) x.1), a.1)
  exp_stands (call p f) q more o a =
      let x = agreed_routine Δ ls Γ f.hops f.index mt o.0 in (
        (
          x.0,
          agreed_function Δ ls Γ f.hops f.index mt o.0 o.1,
          a.0 ∙ ap (λ n. entry CALL n 0 p) x.1,
          a.1.0,
        ),
        a.1.1,
      )
  exp_stands (negated p x) q more o a =
      let y = exp_stands x q (plain INV p ∷ more) o (entries_assoc T q (of_exp ls x) (plain INV p ∷ []) more a) in
      ((y.0, y.1.0), y.1.1)
  exp_stands (denied p x) q more o a =
      let y = exp_stands x q (plain NEG p ∷ more) o (entries_assoc T q (of_exp ls x) (plain NEG p ∷ []) more a) in
      ((y.0, y.1.0), y.1.1)
  exp_stands (joined u p x y) q more o a =
      let e : Entry = plain (op_code u) p in
      let a1 = entries_assoc T q (of_exp ls x) (of_exp ls y) (e ∷ more)
      (entries_assoc T q (of_exp ls x ++ of_exp ls y) (e ∷ []) more a) in
      let s = exp_stands x q (of_exp ls y ++ e ∷ more) o.0 a1 in
      let t = exp_stands y (after_exp x q) (e ∷ more) o.1 s.1 in
      ((s.0, t.0, t.1.0), t.1.1)

  -- and its entries are sound
  pub exp_sound : (x : Exp) → ExpScoped Δ x → Each (SoundEntry V) (of_exp ls x)
  exp_sound (constant p v) o = (sound_constant, tt)
  exp_sound (variable p f) o = (sound_load (cell_fixed f o), tt)
  exp_sound (call p f) o = (sound_call, (sound_load (omega (arith, first_free_positive Γ)), tt))
  exp_sound (negated p x) o =
      each_append (SoundEntry V) (of_exp ls x) (plain INV p ∷ []) (exp_sound x o) (sound_invert, tt)
  exp_sound (denied p x) o =
      each_append (SoundEntry V) (of_exp ls x) (plain NEG p ∷ []) (exp_sound x o) (sound_deny, tt)
  exp_sound (joined u p x y) o =
      each_append (SoundEntry V) (of_exp ls x ++ of_exp ls y) (plain (op_code u) p ∷ [])
      (each_append (SoundEntry V) (of_exp ls x) (of_exp ls y) (exp_sound x o.0) (exp_sound y o.1))
      (sound_operator u, tt)

  pub cmd_stands : (c : Cmd) (q : ℕ) (more : List Entry) → CmdScoped Δ c → EntriesAt T q (of_cmd ls q c ++ more) →
      CmdStands T Γ c q × EntriesAt T (after_cmd c q) more
  cmd_stands (assign p f x) q more o a =
      let e : Entry = entry STR (cell_of ls f) 0 p in
      let z = cell_at f o.1 in
      let y = exp_stands x q (e ∷ more) o.0 (entries_assoc T q (of_exp ls x) (e ∷ []) more a) in
      ((y.0, z.0, y.1.0 ∙ ap (λ n. entry STR n 0 p) z.1), y.1.1)
  cmd_stands (invoke p f) q more o a =
      let x = agreed_routine Δ ls Γ f.hops f.index mt o in
      ((x.0, a.0 ∙ ap (λ n. entry CALL n 0 p) x.1), a.1)
  cmd_stands (Tree.leia p p2 f) q more o a =
      let x = cell_at f o in ((x.0, a.0, a.1.0 ∙ ap (λ n. entry STR n 0 p2) x.1), a.1.1)
  cmd_stands (Tree.escreva p p2 f) q more o a =
      let x = cell_at f o in ((x.0, a.0 ∙ ap (λ n. entry LDV n 0 p2) x.1, a.1.0), a.1.1)
  cmd_stands (then_do c d) q more o a =
      let a0 : EntriesAt T q (of_cmd ls q c ++ of_cmd ls (after_cmd c q) d ++ more) = subst
      (λ n. EntriesAt T q (of_cmd ls q c ++ of_cmd ls n d ++ more)) (cmd_length ls q c) a in
      let x = cmd_stands c q (of_cmd ls (after_cmd c q) d ++ more) o.0
      (entries_assoc T q (of_cmd ls q c) (of_cmd ls (after_cmd c q) d) more a0) in
      let y = cmd_stands d (after_cmd c q) more o.1 x.1 in
      ((x.0, y.0), y.1)
  cmd_stands (Tree.se p x c) q more o a =
      let q1 : ℕ = suc (after_exp x q) in
      let cs : List Entry = entry JMPF (after_cmd c q1) 0 p ∷ of_cmd ls q1 c in
      let a0 : EntriesAt T q (of_exp ls x ++ cs ++ more) = subst (λ z. EntriesAt T q (z ++ more))
      (se_shape ls q p x c) a in
      let y = exp_stands x q (cs ++ more) o.0 (entries_assoc T q (of_exp ls x) cs more a0) in
      let z = cmd_stands c q1 more o.1 y.1.1 in
      ((y.0, y.1.0, z.0), z.1)
  cmd_stands (se_senao p x c p2 d) q more o a =
      let q1 : ℕ = suc (after_exp x q) in
      let q2 : ℕ = suc (after_cmd c q1) in
      let cs : List Entry = entry JMPF q2 0 p ∷ of_cmd ls q1 c in
      let ds : List Entry = entry JMP (after_cmd d q2) 0 p2 ∷ of_cmd ls q2 d in
      let a0 : EntriesAt T q (of_exp ls x ++ cs ++ ds ++ more) = subst (λ z. EntriesAt T q (z ++ more))
      (se_senao_shape ls q p x c p2 d) a in
      let y = exp_stands x q (cs ++ (ds ++ more)) o.0
      (entries_assoc T q (of_exp ls x) cs (ds ++ more) (entries_assoc T q (of_exp ls x ++ cs) ds more a0)) in
      let z = cmd_stands c q1 (ds ++ more) o.1 y.1.1 in
      let w = cmd_stands d q2 more o.2 z.1.1 in
      ((y.0, y.1.0, z.0, z.1.0, w.0), w.1)
  cmd_stands (Tree.enquanto p x c) q more o a =
      let q1 : ℕ = suc (after_exp x q) in
      let cs : List Entry = entry JMPF (suc (after_cmd c q1)) 0 p ∷ of_cmd ls q1 c in
      let ds : List Entry = entry JMP q 0 p ∷ [] in
      let a0 : EntriesAt T q (of_exp ls x ++ cs ++ ds ++ more) = subst (λ z. EntriesAt T q (z ++ more))
      (enquanto_shape ls q p x c) a in
      let y = exp_stands x q (cs ++ (ds ++ more)) o.0
      (entries_assoc T q (of_exp ls x) cs (ds ++ more) (entries_assoc T q (of_exp ls x ++ cs) ds more a0)) in
      let z = cmd_stands c q1 (ds ++ more) o.1 y.1.1 in
      ((y.0, y.1.0, z.0, z.1.0), z.1.1)

  pub cmd_sound : (c : Cmd) (q : ℕ) → CmdScoped Δ c → Each (SoundEntry V) (of_cmd ls q c)
  cmd_sound (assign p f x) q o =
      each_append (SoundEntry V) (of_exp ls x) (entry STR (cell_of ls f) 0 p ∷ []) (exp_sound x o.0)
      (sound_store (cell_fixed f o.1), tt)
  cmd_sound (invoke p f) q o = (sound_call, tt)
  cmd_sound (Tree.leia p p2 f) q o = (sound_read, (sound_store (cell_fixed f o), tt))
  cmd_sound (Tree.escreva p p2 f) q o = (sound_load (cell_fixed f o), (sound_write, tt))
  cmd_sound (then_do c d) q o =
      let q1 : ℕ = q + length (of_cmd ls q c) in
      each_append (SoundEntry V) (of_cmd ls q c) (of_cmd ls q1 d) (cmd_sound c q o.0) (cmd_sound d q1 o.1)
  cmd_sound (Tree.se p x c) q o =
      let q1 : ℕ = suc (after_exp x q) in
      let cs : List Entry = entry JMPF (after_cmd c q1) 0 p ∷ of_cmd ls q1 c in
      subst (Each (SoundEntry V)) (sym (se_shape ls q p x c))
      (each_append (SoundEntry V) (of_exp ls x) cs (exp_sound x o.0) (sound_test, cmd_sound c q1 o.1))
  cmd_sound (se_senao p x c p2 d) q o =
      let q1 : ℕ = suc (after_exp x q) in
      let q2 : ℕ = suc (after_cmd c q1) in
      let cs : List Entry = entry JMPF q2 0 p ∷ of_cmd ls q1 c in
      let ds : List Entry = entry JMP (after_cmd d q2) 0 p2 ∷ of_cmd ls q2 d in
      subst (Each (SoundEntry V)) (sym (se_senao_shape ls q p x c p2 d))
      (each_append (SoundEntry V) (of_exp ls x ++ cs) ds
      (each_append (SoundEntry V) (of_exp ls x) cs (exp_sound x o.0) (sound_test, cmd_sound c q1 o.1))
      (sound_jump, cmd_sound d q2 o.2))
  cmd_sound (Tree.enquanto p x c) q o =
      let q1 : ℕ = suc (after_exp x q) in
      let cs : List Entry = entry JMPF (suc (after_cmd c q1)) 0 p ∷ of_cmd ls q1 c in
      let ds : List Entry = entry JMP q 0 p ∷ [] in
      subst (Each (SoundEntry V)) (sym (enquanto_shape ls q p x c))
      (each_append (SoundEntry V) (of_exp ls x ++ cs) ds
      (each_append (SoundEntry V) (of_exp ls x) cs (exp_sound x o.0) (sound_test, cmd_sound c q1 o.1))
      (sound_jump, tt))
