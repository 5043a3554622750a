-- With more turns the person gets at least as far, and an end or a fault stays what it was. Assumes nothing.
use Rattle.std.specs.Prelude.{◌≡◌, List, ◌++◌, ℕ, ◌+◌}
use Rattle.host.specs.Meaning.{Meaning}
use Rattle.model.specs.Tree.{Block}
use Rattle.model.specs.Person.{Scene, Event, Outcome, done, faulted, out_of_turns, by_hand}
use Rattle.model.specs.Promise.{scene}

-- the scene with k turns more
abbrev pub with_turns : ℕ → Scene → Scene
with_turns k s = record { chain = s.chain; host = s.host; events = s.events; turns = s.turns + k }

-- the same end or fault, with k turns more left; where no turn was left, the same events and perhaps more
abbrev pub AtLeastAsFar : ℕ → Outcome (Unit {0}) → Outcome (Unit {0}) → Type 0
AtLeastAsFar k (done u s) o = o ≡ done u (with_turns k s)
AtLeastAsFar k (faulted f p s) o = o ≡ faulted f p (with_turns k s)
AtLeastAsFar k (out_of_turns s) o = (rest : List Event) × ((scene o).events ≡ s.events ++ rest)

abbrev pub MoreTurns : Type 0
MoreTurns = (b : Block) (first : Meaning) (t k : ℕ) → AtLeastAsFar k (by_hand b first t) (by_hand b first (t + k))
