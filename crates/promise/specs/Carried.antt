-- A call carries the promise: whatever list of calls led from a set-up to the world that the call met, the promise
-- holds of the list with this call added. Assumes nothing.
use Rattle.std.specs.Prelude.{◌≡◌, List, [], ◌∷◌, ◌++◌, ℕ}
use Rattle.host.specs.Meaning.{Meaning}
use Rattle.model.specs.Tree.{Block}
use Rattle.model.specs.Person.{by_hand}
use Rattle.model.specs.Calls.{World, empty, Call}
use Rattle.model.specs.Promise.{History, set_up, over, Each, Lent, Kept, Comes, ComesToo}

-- P holds after every list of calls that ends with this one, where the calls before it led to the world that it met
abbrev pub Carries : (History → Type 0) → World → Call → Type 0
Carries P met c =
    (w : World) (cs : List Call) → w.runner ≡ empty → Each (Lent w) cs → (over cs (set_up w)).world ≡ met → Lent met c →
    P (over (cs ++ c ∷ []) (set_up w))

-- the promise, as the contract of a call can state it
pub record PromisedBy (met : World) (c : Call) : Type 0 where
  pub kept : Carries Kept met c
  pub comes : (b : Block) (first : Meaning) (t : ℕ) → Comes (by_hand b first t) →
      (n : ℕ) × Carries (ComesToo b first (by_hand b first t) n) met c

-- every call carries it, and the number of budget steps is one for all calls: script and host alone fix it
pub record Carried : Type 0 where
  pub each : (met : World) (c : Call) → PromisedBy met c
  pub fixed : (b : Block) (first : Meaning) (t : ℕ) → Comes (by_hand b first t) →
      (n : ℕ) × ((met : World) (c : Call) → Carries (ComesToo b first (by_hand b first t) n) met c)
