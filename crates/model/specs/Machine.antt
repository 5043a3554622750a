-- The machine: what one instruction does, and a run of many. Assumes nothing.
use Rattle.std.specs.Prelude.{Bool, true, false, ◌&&◌, List, [], ◌∷◌, ◌++◌, ℕ, zero, suc, pred, ◌+◌, ◌-◌, eqb, leb, ltb, ℤ, pos, negsuc, length, get_or, set, take, drop, replicate}
use Rattle.std.proofs.Math.Option.{Option, none, some}
use Rattle.model.specs.declared.script.Operator.{Operator}
use Rattle.model.specs.declared.script.Operator.TheVariants as Operators
use Rattle.model.specs.declared.table.Entry.{Entry}
use Rattle.model.specs.declared.faults.RunFault.{RunFault}
use Rattle.model.specs.declared.faults.RunFault.TheVariants.{NothingWaiting, OutputFull, CellsFull, FewValues, NoCell, NoEntry, NoCode}
use Rattle.model.specs.declared.told.Told.{Told}
use Rattle.model.specs.declared.told.Told.TheVariants.{Ended, Stopped, Running}
use Rattle.host.specs.Meaning.{Meaning}
use Rattle.model.specs.Codes.{START, HLT, LDC, LDV, STR, ADD, SUB, MULT, DIVI, INV, AND, OR, NEG, CME, CMA, CEQ, CDIF, CMEQ, CMAQ, JMP, JMPF, RD, PRN, ALLOC, DALLOC, CALL, RETURN}
use Rattle.model.specs.Reading.{pick}
use Rattle.model.specs.Values.{Result, value, fails, combine, invert, deny, eqZ}

-- all cells that the run uses, how many of them, from the first, are filled, and the current entry
pub record Machine : Type 0 where
  pub memory : List ℤ
  pub fill : ℕ
  pub at : ℕ

-- what becomes of one instruction: one that stops or halts changes nothing
pub data Went : Type 0 where
  goes : Machine → Meaning → Went
  halts : Went
  stops : RunFault → Went

-- what an instruction sees: the machine, what its host means, the current entry, and how many entries there are
pub record Now : Type 0 where
  pub machine : Machine
  pub host : Meaning
  pub entry : Entry
  pub entries : ℕ

abbrev pub filled : Now → ℕ
filled n = n.machine.fill

abbrev pub top : Machine → ℤ
top m = get_or m.memory (m.fill - 1) (pos 0)

abbrev pub second : Machine → ℤ
second m = get_or m.memory (m.fill - 2) (pos 0)

-- the next state, at the next entry
abbrev pub onward : Now → List ℤ → ℕ → Went
onward n mem k = goes (record { memory = mem; fill = k; at = suc n.machine.at }) n.host

-- ── the tests, each with the fault that it tells ────────────────────────────────────────────

-- there are k values
abbrev pub having : ℕ → (Now → Went) → Now → Went
having k f n = elim (leb k (filled n)) [ true ↦ f n | false ↦ stops FewValues ]

-- an operand that is a number below a bound
abbrev pub below : ℕ → ℤ → Bool
below k (pos a) = ltb a k
below k (negsuc a) = false

abbrev pub index : ℤ → ℕ
index (pos a) = a
index (negsuc a) = 0

-- the target is an entry
abbrev pub jump : ℤ → List ℤ → ℕ → Now → Went
jump a mem k n =
    elim (below n.entries a) [ true ↦ goes (record { memory = mem; fill = k; at = index a }) n.host | false ↦ stops NoEntry ]

-- operand a names a filled cell
abbrev pub in_cells : (Now → Went) → Now → Went
in_cells f n = elim (below (filled n) n.entry.a) [ true ↦ f n | false ↦ stops NoCell ]

-- there are k cells more
abbrev pub with_room : ℕ → (Now → Went) → Now → Went
with_room k f n = elim (leb (filled n + k) (length n.machine.memory)) [ true ↦ f n | false ↦ stops CellsFull ]

-- ── what is done to the cells ───────────────────────────────────────────────────────────────

abbrev pub push : ℤ → Now → Went
push v n = onward n (set n.machine.memory (filled n) v) (suc (filled n))

-- a result in the place of the k top values
abbrev pub put_result : ℕ → Now → Result → Went
put_result k n (value v) = onward n (set n.machine.memory (filled n - k) v) (suc (filled n - k))
put_result k n (fails f) = stops f

-- cells a and on take the values, in order
abbrev pub write : List ℤ → ℕ → List ℤ → List ℤ
write mem a [] = mem
write mem a (v ∷ vs) = write (set mem a v) (suc a) vs

-- k values from cell a on
abbrev pub cut : List ℤ → ℕ → ℕ → List ℤ
cut mem a k = take k (drop a mem)

-- ── the instructions ────────────────────────────────────────────────────────────────────────

abbrev pub two : Operator → Now → Went
two o = having 2 (λ n. put_result 2 n (combine o (second n.machine) (top n.machine)))

abbrev pub one : (ℤ → Result) → Now → Went
one f = having 1 (λ n. put_result 1 n (f (top n.machine)))

abbrev pub jump_on_zero : Now → Went
jump_on_zero n =
    elim (eqZ (top n.machine) (pos 0)) [
      | true ↦ jump n.entry.a n.machine.memory (pred (filled n)) n
      | false ↦ onward n n.machine.memory (pred (filled n))
    ]

abbrev pub call_entry : Now → Went
call_entry n =
    elim (below n.entries n.entry.a) [
      | false ↦ stops NoEntry
      | true ↦ with_room 1 (λ n. goes (record { memory = set n.machine.memory (filled n) (pos (suc n.machine.at)); fill = suc (filled n); at = index n.entry.a }) n.host) n
    ]

-- what waits, taken from the front
abbrev pub taken : List ℤ → Now → Went
taken [] n = stops NothingWaiting
taken (v ∷ vs) n =
    goes (record { memory = set n.machine.memory (filled n) v; fill = suc (filled n); at = suc n.machine.at }) (record { waiting = vs; written = n.host.written; room = n.host.room })

-- the top is written, where there is room
abbrev pub put : ℕ → Now → Went
put zero n = stops OutputFull
put (suc r) n =
    goes (record { memory = n.machine.memory; fill = pred (filled n); at = suc n.machine.at }) (record { waiting = n.host.waiting; written = n.host.written ++ top n.machine ∷ []; room = r })

-- b cells more, cleared, on top of the filled ones; or the b cells from a on are saved there, and cleared
abbrev pub allocate : Now → Went
allocate n =
    let mem = n.machine.memory in
    let k = n.entry.b in
    let a = index n.entry.a in
    elim (below (suc (filled n)) n.entry.a && eqb a (filled n)) [
      | true ↦ with_room k (λ n. onward n (write mem (filled n) (replicate k (pos 0))) (filled n + k)) n
      | false ↦ elim (below (suc (filled n)) n.entry.a && leb (a + k) (filled n)) [
        | true ↦ with_room k (λ n. onward n (write (write mem (filled n) (cut mem a k)) a (replicate k (pos 0))) (filled n + k)) n
        | false ↦ stops NoCell
      ]
    ]

-- the b top values are dropped; or go back to cell a and on first
abbrev pub release : Now → Went
release n =
    let mem = n.machine.memory in
    let k = n.entry.b in
    let a = index n.entry.a in
    let left = filled n - k in
    elim (leb k (filled n)) [
      | false ↦ stops FewValues
      | true ↦ elim (below (suc left) n.entry.a && eqb a left) [
        | true ↦ onward n mem left
        | false ↦ elim (below (suc left) n.entry.a && leb (a + k) left) [
          | true ↦ onward n (write mem a (cut mem left k)) left
          | false ↦ stops NoCell
        ]
      ]
    ]

abbrev pub instructions : List (ℕ × (Now → Went))
instructions =
    (START, λ n. onward n n.machine.memory 0)
    ∷ (HLT, λ n. halts)
    ∷ (LDC, with_room 1 (λ n. push n.entry.a n))
    ∷ (LDV, in_cells (with_room 1 (λ n. push (get_or n.machine.memory (index n.entry.a) (pos 0)) n)))
    ∷ (STR, having 1 (in_cells (λ n. onward n (set n.machine.memory (index n.entry.a) (top n.machine)) (pred (filled n)))))
    ∷ (ADD, two Operators.Add) ∷ (SUB, two Operators.Sub) ∷ (MULT, two Operators.Mult) ∷ (DIVI, two Operators.Divi)
    ∷ (INV, one invert)
    ∷ (AND, two Operators.And) ∷ (OR, two Operators.Or)
    ∷ (NEG, one deny)
    ∷ (CME, two Operators.Less) ∷ (CMA, two Operators.Greater) ∷ (CEQ, two Operators.Equal) ∷ (CDIF, two Operators.Unequal) ∷ (CMEQ, two Operators.AtMost) ∷ (CMAQ, two Operators.AtLeast)
    ∷ (JMP, λ n. jump n.entry.a n.machine.memory (filled n) n)
    ∷ (JMPF, having 1 jump_on_zero)
    ∷ (RD, with_room 1 (λ n. taken n.host.waiting n))
    ∷ (PRN, having 1 (λ n. put n.host.room n))
    ∷ (ALLOC, allocate)
    ∷ (DALLOC, release)
    ∷ (CALL, call_entry)
    ∷ (RETURN, having 1 (λ n. jump (top n.machine) n.machine.memory (pred (filled n)) n))
    ∷ []

-- past the code there is no entry, and its place is 0
abbrev pub no_entry : Entry
no_entry = record { code = 0; a = pos 0; b = 0; place = 0 }

abbrev pub carried_out : Option (Now → Went) → Now → Went
carried_out none n = stops NoCode
carried_out (some f) n = f n

-- ── steps and runs ──────────────────────────────────────────────────────────────────────────

-- one instruction of the entries es
abbrev pub step : List Entry → Machine → Meaning → Went
step es m h =
    let e = get_or es m.at no_entry in
    elim (ltb m.at (length es)) [
      | false ↦ stops NoEntry
      | true ↦ carried_out (pick eqb e.code instructions) (record { machine = m; host = h; entry = e; entries = length es })
    ]

-- what an advance tells, and what it leaves
pub record After : Type 0 where
  pub told : Told
  pub machine : Machine
  pub host : Meaning

-- after k steps and then this one: the run goes on, has ended, or has stopped at the current entry
abbrev pub settle : (ℕ → Machine → Meaning → After) → List Entry → ℕ → Machine → Meaning → Went → After
settle on es k m h (goes n g) = on (suc k) n g
settle on es k m h halts = record { told = Ended (suc k); machine = m; host = h }
settle on es k m h (stops f) = record { told = Stopped f m.at (get_or es m.at no_entry).place k; machine = m; host = h }

-- as many steps as the budget has, after k steps
abbrev pub run : ℕ → List Entry → ℕ → Machine → Meaning → After
run zero es k m h = record { told = Running k; machine = m; host = h }
run (suc n) es k m h = settle (run n es) es k m h (step es m h)

abbrev pub advanced : ℕ → List Entry → Machine → Meaning → After
advanced budget es m h = run budget es 0 m h

-- as an accepted start leaves the machine
abbrev pub started : ℕ → Machine
started cells = record { memory = replicate cells (pos 0); fill = 0; at = 0 }
