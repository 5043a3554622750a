-- The table of an accepted script does what the person does: the statements. Assumes nothing.
use Rattle.std.specs.Prelude.{◌≡◌, ◌⊎◌, List, ℕ, ◌≤◌, ◌<◌}
use Rattle.host.specs.Meaning.{Meaning}
use Rattle.model.specs.Tree.{Block}
use Rattle.model.specs.Person.{by_hand}
use Rattle.model.specs.Promise.{Script, Front, Same, Sound}
use Rattle.faithful.specs.Outcomes.{run_of, Arrives, Budgeted, TurnsCost, Full}

-- a text is one script, however many names there may be
abbrev pub OneScript : Type 0
OneScript = (text : List ℕ) (a b : Block) → Script text a → Script text b → a ≡ b

-- for every accepted script, host and number of turns, these alone fix in how many steps the table comes where the
-- person comes to, and how many cells are enough for that
abbrev pub Faithful : Type 0
Faithful =
    (text : List ℕ) (b : Block) → Script text b → (first : Meaning) (t : ℕ) →
    (n : ℕ) × (c : ℕ) × TurnsCost t n (by_hand b first t)
    × ((cells budget : ℕ) → c ≤ cells → Budgeted n (by_hand b first t) budget →
    Arrives b n (by_hand b first t) (run_of b first cells budget))

-- with however many cells the table does the same; or there are fewer than enough, and it stops for want of them
abbrev pub SameOrFull : Type 0
SameOrFull =
    (text : List ℕ) (b : Block) → Script text b → (first : Meaning) (t : ℕ) →
    (n : ℕ) × (c : ℕ)
    × ((cells budget : ℕ) → Budgeted n (by_hand b first t) budget →
    Arrives b n (by_hand b first t) (run_of b first cells budget)
    ⊎ ((cells < c) × Full first (by_hand b first t) (run_of b first cells budget)))

-- after every budget, with however many cells: what was taken and written is a front of the person's list, and an end
-- or a fault that is told is the person's, with the whole list, or the want of cells
abbrev pub EveryMoment : Type 0
EveryMoment =
    (text : List ℕ) (b : Block) → Script text b → (first : Meaning) (cells budget : ℕ) →
    Front b first (run_of b first cells budget).host
    × Same b first (run_of b first cells budget).host (run_of b first cells budget).told

-- no run stops by a fault of the table's
abbrev pub NeverUnsound : Type 0
NeverUnsound =
    (first : Meaning) (cells budget : ℕ) (text : List ℕ) (b : Block) → Script text b →
    Sound (run_of b first cells budget).told
