-- What it means that an instruction was carried out on a pile of cells: p is the pile before, and q after.
-- Assumes nothing.
use Rattle.std.specs.Prelude.{◌≡◌, ℕ, suc, ◌<◌, ◌≤◌, true, false, List, take, ℤ, pos, Some, None, Ok, Err, Option, Result, MatchResult, slice_index_or}
use Rattle.host.specs.Meaning.{Meaning}
use Rattle.pile.specs.declared.Pile.{Pile}
use Rattle.pile.specs.declared.Refusal.{Refusal}
use Rattle.pile.specs.declared.Refusal.TheVariants.{Full, Absent}
use Rattle.pile.specs.Piles.{memory, fill_of, SameLoan}
use Rattle.model.specs.declared.table.Entry.{Entry}
use Rattle.model.specs.declared.faults.RunFault.{RunFault}
use Rattle.model.specs.declared.faults.RunFault.TheVariants.{NoValue, CellsFull, FewValues, NoCell, NoEntry}
use Rattle.model.specs.declared.told.Told.{Told}
use Rattle.model.specs.Values as Values
use Rattle.model.specs.Machine.{Machine, Now, Went, goes, halts, stops, top, below, index, advanced}
use Rattle.machine.specs.declared.run.Flow.{Flow}
use Rattle.machine.specs.declared.run.Flow.TheVariants as Flows

-- ── the machine ─────────────────────────────────────────────────────────────────────────────

-- the machine that a pile of cells and a current entry make
abbrev pub machine_of : Pile ℤ → ℕ → Machine
machine_of p at = record { memory = memory p; fill = fill_of p; at = at }

-- what an instruction sees: the entry e of k entries, at the index `at`
abbrev pub seen : Pile ℤ → ℕ → Meaning → Entry → ℕ → Now
seen p at h e k = record { machine = machine_of p at; host = h; entry = e; entries = k }

-- an operand has 31 bits for an index, so no entry past these can be come to by a jump or a return
abbrev pub reachable : List Entry → List Entry
reachable es = take 2147483647 es

-- ── what is tested ──────────────────────────────────────────────────────────────────────────

-- a value, or the fault in its place
abbrev pub result_of : Result ℤ RunFault → Values.Result
result_of (Ok v) = Values.value v
result_of (Err f) = Values.fails f

-- of x comes, as R tells, what g gives
abbrev pub Means : (ℤ → Result ℤ RunFault → Type 0) → (ℤ → Values.Result) → ℤ → Type 0
Means R g x = (r : Result ℤ RunFault) → R x r → result_of r ≡ g x

-- a value that a cell holds, where there is one
abbrev pub holding : Option ℤ → Values.Result
holding (Some v) = Values.value v
holding None = Values.fails NoValue

-- what a pile of cells refuses: a value for which it has no room, or a cell that is not filled
abbrev pub refused : Refusal → RunFault
refused Full = CellsFull
refused Absent = NoCell

-- an operand as an index of a cell
abbrev pub Indexed : ℤ → Result ℕ RunFault → Type 0
Indexed a r = MatchResult r (λ i. a ≡ pos i) (λ f. (f ≡ NoCell) × ((k : ℕ) → below k a ≡ false))

-- an operand as one of k entries
abbrev pub Targeted : ℤ → ℕ → Result ℕ RunFault → Type 0
Targeted a k r = MatchResult r (λ i. (below k a ≡ true) × (i ≡ index a)) (λ f. (f ≡ NoEntry) × (below k a ≡ false))

-- the value of cell i, where it is filled
abbrev pub Valued : Pile ℤ → ℕ → Result ℤ RunFault → Type 0
Valued p i r = MatchResult r (λ v. (i < fill_of p) × (v ≡ slice_index_or (memory p) i (pos 0))) (λ f. (f ≡ NoCell) × (fill_of p ≤ i))

-- the top value, where there is one
abbrev pub Topped : Pile ℤ → Result ℤ RunFault → Type 0
Topped p r = MatchResult r (λ v. (1 ≤ fill_of p) × (v ≡ top (machine_of p 0))) (λ f. (f ≡ FewValues) × (fill_of p ≡ 0))

-- the memory and the fill after a change
abbrev pub Filled : Pile ℤ → List ℤ → ℕ → Pile ℤ → Type 0
Filled p mem k q = (memory q ≡ mem) × (fill_of q ≡ k) × SameLoan p q

-- ── one instruction ─────────────────────────────────────────────────────────────────────────

-- f goes on to the next entry and leaves the host alone, or stops and changes nothing
abbrev pub Done : (Now → Went) → Pile ℤ → Entry → Result (Unit {0}) RunFault → Pile ℤ → Type 0
Done f p e r q =
    MatchResult r (λ _. ((at k : ℕ) (h : Meaning) → f (seen p at h e k) ≡ goes (machine_of q (suc at)) h) × SameLoan p q)
    (λ x. ((at k : ℕ) (h : Meaning) → f (seen p at h e k) ≡ stops x) × (q ≡ p))

-- f goes on to an entry of k and leaves the host alone, or stops and changes nothing
abbrev pub Jumped : (Now → Went) → Pile ℤ → ℕ → Entry → ℕ → Result ℕ RunFault → Pile ℤ → Type 0
Jumped f p at e k r q =
    MatchResult r (λ to. ((h : Meaning) → f (seen p at h e k) ≡ goes (machine_of q to) h) × SameLoan p q)
    (λ x. ((h : Meaning) → f (seen p at h e k) ≡ stops x) × (q ≡ p))

-- f goes on to the next entry, with a host that meant h and means g, or stops and changes nothing
abbrev pub Exchanged : (Now → Went) → Pile ℤ → Meaning → Entry → Result (Unit {0}) RunFault → Pile ℤ → Meaning → Type 0
Exchanged f p h e r q g =
    MatchResult r (λ _. ((at k : ℕ) → f (seen p at h e k) ≡ goes (machine_of q (suc at)) g) × SameLoan p q)
    (λ x. ((at k : ℕ) → f (seen p at h e k) ≡ stops x) × (q ≡ p) × (g ≡ h))

-- ── one instruction of a table ──────────────────────────────────────────────────────────────

-- to the next entry, where the instruction was carried out
abbrev pub onward : ℕ → Result (Unit {0}) RunFault → Result Flow RunFault
onward at (Ok _) = Ok (Flows.Goes (suc at))
onward at (Err x) = Err x

-- w is told, of the cells and a host's meaning before and after; what halts or stops changes nothing
abbrev pub Flowed : Went → Pile ℤ → Meaning → Flow → Pile ℤ → Meaning → Type 0
Flowed w p h (Flows.Goes to) q g = (w ≡ goes (machine_of q to) g) × SameLoan p q
Flowed w p h Flows.Halts q g = (w ≡ halts) × (q ≡ p) × (g ≡ h)

abbrev pub Stepped : Went → Pile ℤ → Meaning → Result Flow RunFault → Pile ℤ → Meaning → Type 0
Stepped w p h r q g = MatchResult r (λ f. Flowed w p h f q g) (λ x. (w ≡ stops x) × (q ≡ p) × (g ≡ h))

-- ── a run ───────────────────────────────────────────────────────────────────────────────────

-- what a run tells, and what it leaves
abbrev pub Ran : ℕ → List Entry → Pile ℤ → ℕ → Meaning → Told → Pile ℤ → ℕ → Meaning → Type 0
Ran budget es p at h t q to g =
    (advanced budget (reachable es) (machine_of p at) h ≡ record { told = t; machine = machine_of q to; host = g }) × SameLoan p q
