-- A run takes from the front of what waits, in order, and adds to the end of what is written.
use mathlib.Core.Bool.{Bool, true, false, ◌&&◌}
use mathlib.Core.List.{List, [], ◌∷◌, ◌++◌, append-nil, append_assoc}
use mathlib.Core.Option.{Option, none, some}
use mathlib.Core.Path.{◌≡◌, refl, sym, ◌∙◌, ap}
use Prim.Native.Nat.{ℕ, zero, suc, pred, ◌+◌, ◌-◌}
use native.Mathlib.Omega.{arith}
use lib.Dec.{eqb, leb, ltb}
use lib.IntN.{ℤ, pos}
use lib.ListN.{length, get_or, length-append}
use Rattle.host.specs.Meaning.{Meaning}
use Rattle.model.specs.declared.table.Entry.{Entry}
use Rattle.model.specs.declared.script.Operator.{Operator}
use Rattle.model.specs.declared.script.Operator.TheVariants as Operators
use Rattle.model.specs.declared.faults.RunFault.{RunFault}
use Rattle.model.specs.Reading.{pick}
use Rattle.model.specs.Values.{Result, value, fails, combine, invert, deny, eqZ}
use Rattle.model.specs.Machine.{Machine, Went, goes, halts, stops, Now, having, below, index, jump, in_cells, with_room, put_result, two, one, jump_on_zero, call_entry, taken, put, allocate, release, instructions, carried_out, step, settle, run, filled, top, second, no_entry}
use Rattle.model.specs.Promise.{Each}
use Rattle.runs.specs.Runs.{Passed, PassedOn}

-- ── from one host to the next ───────────────────────────────────────────────────────────────

passed_none : (h : Meaning) → Passed h h
passed_none h = ([], [], refl, sym (append-nil h.written), omega arith)

passed_both : (h i g : Meaning) → Passed h i → Passed i g → Passed h g
passed_both h i g (t, a, tw, aw, ar) (u, b, uw, bw, br) =
    let long = length-append a b in (
      t ++ u,
      a ++ b,
      tw ∙ ap (λ l. t ++ l) uw ∙ sym (append_assoc t u g.waiting),
      bw ∙ ap (λ l. l ++ b) aw ∙ append_assoc h.written a b,
      omega (arith, ar, br, long),
    )

-- ── one instruction ─────────────────────────────────────────────────────────────────────────

abbrev Kept : Went → Meaning → Type 0
Kept (goes m g) h = Passed h g
Kept halts h = Unit {0}
Kept (stops f) h = Unit {0}

abbrev Keeps : (Now → Went) → Type 0
Keeps f = (n : Now) → Kept (f n) n.host

either : (b : Bool) (x y : Went) (h : Meaning) → Kept x h → Kept y h → Kept (elim b [ true ↦ x | false ↦ y ]) h
either true x y h kx ky = kx
either false x y h kx ky = ky

keeps_having : (k : ℕ) (f : Now → Went) → Keeps f → Keeps (having k f)
keeps_having k f kept n = either (leb k (filled n)) (f n) _ n.host (kept n) tt

keeps_in_cells : (f : Now → Went) → Keeps f → Keeps (in_cells f)
keeps_in_cells f kept n = either (below (filled n) n.entry.a) (f n) _ n.host (kept n) tt

keeps_with_room : (k : ℕ) (f : Now → Went) → Keeps f → Keeps (with_room k f)
keeps_with_room k f kept n = either (leb (filled n + k) (length n.machine.memory)) (f n) _ n.host (kept n) tt

keeps_jump : (a : ℤ) (mem : List ℤ) (k : ℕ) (n : Now) → Kept (jump a mem k n) n.host
keeps_jump a mem k n = either (below n.entries a) _ _ n.host (passed_none n.host) tt

keeps_result : (k : ℕ) (n : Now) (r : Result) → Kept (put_result k n r) n.host
keeps_result k n (value v) = passed_none n.host
keeps_result k n (fails f) = tt

keeps_two : (o : Operator) → Keeps (two o)
keeps_two o = keeps_having 2 _ (λ n. keeps_result 2 n (combine o (second n.machine) (top n.machine)))

keeps_one : (f : ℤ → Result) → Keeps (one f)
keeps_one f = keeps_having 1 _ (λ n. keeps_result 1 n (f (top n.machine)))

keeps_jump_on_zero : Keeps jump_on_zero
keeps_jump_on_zero n =
    either (eqZ (top n.machine) (pos 0)) _ _ n.host (keeps_jump n.entry.a n.machine.memory (pred (filled n)) n) (passed_none n.host)

-- there is room for k more, and the host is left alone
room_or_stop : (k : ℕ) (n : Now) (m : Machine) (f : RunFault) → Kept (elim (leb (filled n + k) (length n.machine.memory)) [ true ↦ goes m n.host | false ↦ stops f ]) n.host
room_or_stop k n m f = either (leb (filled n + k) (length n.machine.memory)) (goes m n.host) (stops f) n.host (passed_none n.host) tt

keeps_call : Keeps call_entry
keeps_call n = either (below n.entries n.entry.a) _ _ n.host (room_or_stop 1 n _ _) tt

-- what waits is ws
keeps_taken : (ws : List ℤ) (n : Now) → n.host.waiting ≡ ws → Kept (taken ws n) n.host
keeps_taken [] n e = tt
keeps_taken (v ∷ vs) n e = (v ∷ [], [], e, sym (append-nil n.host.written), omega arith)

-- there is room for r more
keeps_put : (r : ℕ) (n : Now) → n.host.room ≡ r → Kept (put r n) n.host
keeps_put zero n e = tt
keeps_put (suc r) n e = ([], top n.machine ∷ [], refl, refl, e ∙ omega arith)

keeps_allocate : Keeps allocate
keeps_allocate n =
    let a = index n.entry.a in
    let lies = below (suc (filled n)) n.entry.a in
    let saves = either (lies && leb (a + n.entry.b) (filled n)) _ _ n.host (room_or_stop n.entry.b n _ _) tt in
    either (lies && eqb a (filled n)) _ _ n.host (room_or_stop n.entry.b n _ _) saves

keeps_release : Keeps release
keeps_release n =
    let a = index n.entry.a in
    let left = filled n - n.entry.b in
    let lies = below (suc left) n.entry.a in
    let stays = passed_none n.host in
    let back = either (lies && leb (a + n.entry.b) left) _ _ n.host stays tt in
    either (leb n.entry.b (filled n)) _ _ n.host (either (lies && eqb a left) _ _ n.host stays back) tt

-- ── every instruction ───────────────────────────────────────────────────────────────────────

stays : (n : Now) → Passed n.host n.host
stays n = passed_none n.host

infixr 20 ◌also◌
◌also◌ : {A B : Type 0} → A → B → A × B
a also b = (a, b)

every_instruction : Each (λ x. Keeps x.1) instructions
every_instruction =
    stays also (λ n. tt) also keeps_with_room 1 _ stays
    also keeps_in_cells _ (keeps_with_room 1 _ stays) also keeps_having 1 _ (keeps_in_cells _ stays)
    also keeps_two Operators.Add also keeps_two Operators.Sub also keeps_two Operators.Mult also keeps_two Operators.Divi
    also keeps_one invert also keeps_two Operators.And also keeps_two Operators.Or also keeps_one deny
    also keeps_two Operators.Less also keeps_two Operators.Greater also keeps_two Operators.Equal
    also keeps_two Operators.Unequal also keeps_two Operators.AtMost also keeps_two Operators.AtLeast
    also (λ n. keeps_jump _ _ _ n) also keeps_having 1 _ keeps_jump_on_zero
    also keeps_with_room 1 _ (λ n. keeps_taken n.host.waiting n refl) also keeps_having 1 _ (λ n. keeps_put n.host.room n refl)
    also keeps_allocate also keeps_release also keeps_call also keeps_having 1 _ (λ n. keeps_jump _ _ _ n) also tt

-- no instruction has the code, or one that keeps
abbrev Found : Option (Now → Went) → Type 0
Found none = Unit {0}
Found (some f) = Keeps f

found_first : (b : Bool) (f : Now → Went) (o : Option (Now → Went)) → Keeps f → Found o → Found (elim b [ true ↦ some f | false ↦ o ])
found_first true f o kept rest = kept
found_first false f o kept rest = rest

found : (c : ℕ) (is : List (ℕ × (Now → Went))) → Each (λ x. Keeps x.1) is → Found (pick eqb c is)
found c [] kept = tt
found c (i ∷ is) kept = found_first (eqb c i.0) i.1 (pick eqb c is) kept.0 (found c is kept.1)

keeps_carried_out : (o : Option (Now → Went)) → Found o → Keeps (carried_out o)
keeps_carried_out none kept n = tt
keeps_carried_out (some f) kept n = kept n

step_keeps : (es : List Entry) (m : Machine) (h : Meaning) → Kept (step es m h) h
step_keeps es m h =
    either (ltb m.at (length es)) _ _ h (keeps_carried_out _ (found (get_or es m.at no_entry).code instructions every_instruction) _) tt

-- ── a run ───────────────────────────────────────────────────────────────────────────────────

settle_passes : (b s : ℕ) (es : List Entry) (m : Machine) (h : Meaning) (w : Went) → Kept w h → ((l : Machine) (i : Meaning) → Passed i (run b es (suc s) l i).host) → Passed h (settle (run b es) es s m h w).host
settle_passes b s es m h (goes l i) kept after = passed_both h i _ kept (after l i)
settle_passes b s es m h halts kept after = passed_none h
settle_passes b s es m h (stops f) kept after = passed_none h

run_passes : (b s : ℕ) (es : List Entry) (m : Machine) (h : Meaning) → Passed h (run b es s m h).host
run_passes zero s es m h = passed_none h
run_passes (suc b) s es m h = settle_passes b s es m h (step es m h) (step_keeps es m h) (run_passes b (suc s) es)

pub passed_on : PassedOn
passed_on b es m h = run_passes b 0 es m h
