-- Where a run of a script's table comes to, beside where the person comes to. Assumes nothing.
use Rattle.std.specs.Prelude.{◌≡◌, List, ◌++◌, ℕ, ◌+◌, ◌≤◌, ◌<◌, length, get_or}
use Rattle.host.specs.Meaning.{Meaning}
use Rattle.model.specs.declared.told.Told.TheVariants.{Ended, Stopped, Running}
use Rattle.model.specs.declared.faults.RunFault.TheVariants.{CellsFull}
use Rattle.model.specs.Tree.{Block}
use Rattle.model.specs.Code.{of_program}
use Rattle.model.specs.Machine.{no_entry, After, advanced, started}
use Rattle.model.specs.Person.{Outcome, done, faulted, out_of_turns, Event}
use Rattle.model.specs.Promise.{Led, scene}

-- a run of a script's table from its start, with so many cells and as many steps as the budget has
abbrev pub run_of : Block → Meaning → ℕ → ℕ → After
run_of b first cells budget = advanced budget (of_program b) (started cells) first

-- n steps have brought the run where the person comes to: to the end; to the same fault, at an entry of the same place;
-- or, where the person has no turn left, so far. And the host means the same
abbrev pub Arrives : Block → ℕ → Outcome (Unit {0}) → After → Type 0
Arrives b n (done u s) a = (a.told ≡ Ended n) × (a.host ≡ s.host)
Arrives b n (faulted f p s) a =
    (i : ℕ) × (i < length (of_program b)) × ((get_or (of_program b) i no_entry).place ≡ p) × (a.told ≡ Stopped f i p n)
    × (a.host ≡ s.host)
Arrives b n (out_of_turns s) a = (a.told ≡ Running n) × (a.host ≡ s.host)

-- the budgets with which n steps bring a run there: the step that meets a fault is not counted, but it is tried
abbrev pub Budgeted : ℕ → Outcome (Unit {0}) → ℕ → Type 0
Budgeted n (done u s) budget = n ≤ budget
Budgeted n (faulted f p s) budget = n < budget
Budgeted n (out_of_turns s) budget = budget ≡ n

-- of t turns, each that the person took has cost the run a step at least
abbrev pub TurnsCost : ℕ → ℕ → Outcome (Unit {0}) → Type 0
TurnsCost t n (done u s) = t ≤ n + s.turns
TurnsCost t n (faulted f p s) = Unit {0}
TurnsCost t n (out_of_turns s) = t ≤ n

-- the run has stopped for want of cells, and what it took and wrote is a front of the person's list
abbrev pub Full : Meaning → Outcome (Unit {0}) → After → Type 0
Full first o a =
    (i : ℕ) × (p : ℕ) × (k : ℕ) × (a.told ≡ Stopped CellsFull i p k)
    × (es : List Event) × (rest : List Event) × ((scene o).events ≡ es ++ rest) × Led first es a.host
