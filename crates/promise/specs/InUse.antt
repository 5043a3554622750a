-- With cells and budget enough, a run tells the very end or fault that the person comes to, whatever calls come
-- between. Assumes nothing.
use Rattle.std.specs.Prelude.{◌≡◌, false, List, [], ◌∷◌, ℕ, ◌≤◌, min}
use Rattle.std.proofs.Math.Option.{some}
use Rattle.host.specs.Meaning.{Meaning}
use Rattle.model.specs.Tree.{Block}
use Rattle.model.specs.Person.{Outcome, by_hand}
use Rattle.model.specs.Calls.{World, empty, Call, translate, start, advance, Answer, translated, faulty, begun, no_start, no_advance, tells, after}
use Rattle.model.specs.Promise.{Script, Since, History, one_more, set_up, over, Each, Some, Lent, Comes}
use Rattle.model.specs.Enough.{Exactly}

-- the cells in use behind a start, by its answer: those that it was lent, or as before
abbrev pub unless_refused : Answer → ℕ → ℕ → ℕ
unless_refused begun new old = new
unless_refused (translated n) new old = old
unless_refused (faulty c p) new old = old
unless_refused (no_start r) new old = old
unless_refused (no_advance r) new old = old
unless_refused (tells a) new old = old

abbrev pub in_use_after : Call → Answer → ℕ → ℕ
in_use_after (translate text k j) a u = u
in_use_after (start k c) a u = unless_refused a (min c 65535) u
in_use_after (advance k c budget) a u = u

-- the cells in use since the last accepted start of a list of calls, where u were in use before
abbrev pub in_use : List Call → History → ℕ → ℕ
in_use [] h u = u
in_use (c ∷ cs) h u = in_use cs (one_more h c) (in_use_after c (after c h.world).answer u)

-- where the person comes to an end or a fault, enough budget brings the machine to that very one
abbrev pub ExactlyToo : Block → Meaning → Outcome (Unit {0}) → ℕ → History → Type 0
ExactlyToo b first o n h =
    (s : Since) → h.run ≡ some s → Script s.text b → s.host ≡ first → s.cut_off ≡ false → n ≤ s.budgets →
    Some (Exactly o) s.told

-- script and host alone fix the budget n and the cells c that are enough
abbrev pub EnoughInEveryList : Type 0
EnoughInEveryList =
    (b : Block) (first : Meaning) (t : ℕ) → Comes (by_hand b first t) → (n : ℕ) × (c : ℕ)
    × ((w : World) (cs : List Call) → w.runner ≡ empty → Each (Lent w) cs → c ≤ in_use cs (set_up w) 0 →
    ExactlyToo b first (by_hand b first t) n (over cs (set_up w)))
