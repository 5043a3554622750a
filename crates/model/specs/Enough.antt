-- With budget and cells enough, an advance from the start tells the very end or fault that the person comes to: fault 64
-- is only ever for want of cells. Assumes nothing.
use Rattle.std.specs.Prelude.{◌≡◌, List, ℕ, ◌≤◌}
use Rattle.model.specs.Tree.{Block}
use Rattle.model.specs.Code.{of_program}
use Rattle.host.specs.Meaning.{Meaning}
use Rattle.model.specs.declared.told.Told.{Told}
use Rattle.model.specs.declared.told.Told.TheVariants.{Ended, Stopped, Running}
use Rattle.model.specs.Machine.{advanced, started}
use Rattle.model.specs.Person.{Outcome, done, faulted, out_of_turns, by_hand}
use Rattle.model.specs.Promise.{Script, Comes}

-- the person's end, or the person's fault at its place
abbrev pub Exactly : Outcome (Unit {0}) → Told → Type 0
Exactly (done u s) (Ended k) = Unit {0}
Exactly (done u s) (Running k) = ⊥
Exactly (done u s) (Stopped f i p k) = ⊥
Exactly (faulted n q s) (Ended k) = ⊥
Exactly (faulted n q s) (Running k) = ⊥
Exactly (faulted n q s) (Stopped f i p k) = (f ≡ n) × (p ≡ q)
Exactly (out_of_turns s) a = ⊥

abbrev pub Enough : Type 0
Enough =
    (text : List ℕ) (b : Block) → Script text b → (first : Meaning) (t : ℕ) → Comes (by_hand b first t) →
    (n : ℕ) × (c : ℕ) × ((budget cells : ℕ) → n ≤ budget → c ≤ cells → Exactly (by_hand b first t) (advanced budget (of_program b) (started cells) first).told)
