-- One turn of a run: what is left of the budget after it, or what is told.
use Rattle.std.proofs.Common.{◌≡◌, ℕ, suc, ◌+◌, ◌-◌, ◌<◌, List, get_or, ℤ, sym, refl, ap, ◌∙◌, subst, arith}
use Rattle.host.specs.Meaning.{Meaning}
use Rattle.pile.specs.declared.Pile.{Pile}
use Rattle.pile.specs.Piles.{SameLoan}
use Rattle.model.specs.declared.table.Entry.{Entry}
use Rattle.model.specs.declared.faults.RunFault.{RunFault}
use Rattle.model.specs.declared.told.Told.TheVariants.{Ended, Stopped}
use Rattle.model.specs.Machine.{Machine, Went, goes, halts, stops, step, settle, run, no_entry}
use Rattle.machine.specs.declared.run.Flow.{Flow}
use Rattle.machine.specs.declared.run.Flow.TheVariants as Flows
use Rattle.machine.specs.Carried.{machine_of, Flowed}

-- the next of b steps of the code, after s of them
turn : (es code : List Entry) (b s : ℕ) (m : Machine) (h : Meaning) (w : Went) → s < b → code ≡ es → step code m h ≡ w → run (b - s) es s m h ≡ settle (run (b - (s + 1)) es) es s m h w
turn es code b s m h w lt is e =
    let left : b - s ≡ suc (b - (s + 1)) = omega arith in
    ap (λ n. run n es s m h) left ∙ ap (settle (run (b - (s + 1)) es) es s m h) (ap (λ c. step c m h) (sym is) ∙ e)

pub turn_goes : (es code : List Entry) (b s : ℕ) (p q : Pile ℤ) (at to : ℕ) (h g : Meaning) (f : Flow) → s < b → code ≡ es → f ≡ Flows.Goes to → Flowed (step code (machine_of p at) h) p h f q g → (run (b - s) es s (machine_of p at) h ≡ run (b - (s + 1)) es (s + 1) (machine_of q to) g) × SameLoan p q
turn_goes es code b s p q at to h g f lt is on went =
    let does = subst (λ x. Flowed (step code (machine_of p at) h) p h x q g) on went in
    let next : suc s ≡ s + 1 = omega arith in (
      turn es code b s (machine_of p at) h (goes (machine_of q to) g) lt is does.0 ∙ ap (λ k. run (b - (s + 1)) es k (machine_of q to) g) next,
      does.1,
    )

pub turn_halts : (es code : List Entry) (b s : ℕ) (p q : Pile ℤ) (at : ℕ) (h g : Meaning) (f : Flow) → s < b → code ≡ es → f ≡ Flows.Halts → Flowed (step code (machine_of p at) h) p h f q g → (run (b - s) es s (machine_of p at) h ≡ record { told = Ended (s + 1); machine = machine_of q at; host = g }) × SameLoan p q
turn_halts es code b s p q at h g f lt is on went =
    let does = subst (λ x. Flowed (step code (machine_of p at) h) p h x q g) on went in
    let next : suc s ≡ s + 1 = omega arith in (
      rw (does.1, does.2) (turn es code b s (machine_of p at) h halts lt is does.0 ∙ ap (λ k. record { told = Ended k; machine = machine_of p at; host = h }) next),
      rw does.1 refl,
    )

pub turn_stops : (es code : List Entry) (b s : ℕ) (p q : Pile ℤ) (at : ℕ) (h g : Meaning) (x : RunFault) (place : ℕ) → s < b → code ≡ es → place ≡ (get_or code at no_entry).place → (step code (machine_of p at) h ≡ stops x) × (q ≡ p) × (g ≡ h) → (run (b - s) es s (machine_of p at) h ≡ record { told = Stopped x at place s; machine = machine_of q at; host = g }) × SameLoan p q
turn_stops es code b s p q at h g x place lt is at_place does = (
  rw (at_place, is, does.1, does.2) (turn es code b s (machine_of p at) h (stops x) lt is does.0),
  rw does.1 refl,
)
