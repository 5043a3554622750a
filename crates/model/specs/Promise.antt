-- What every list of calls keeps: the table does what a person does who follows the script. Assumes nothing.
use Rattle.std.specs.Prelude.{◌≡◌, Bool, true, false, ◌⊎◌, List, [], ◌∷◌, ◌++◌, ℕ, ◌+◌, ◌^◌, ◌<◌, ◌≤◌, ℤ, length}
use Rattle.std.proofs.Math.Option.{Option, none, some}
use Rattle.model.specs.Tree.{Block}
use Rattle.model.specs.Reading.{read}
use Rattle.model.specs.Judge.{accepted, verdict, at_start}
use Rattle.host.specs.Meaning.{Meaning}
use Rattle.model.specs.declared.told.Told.{Told}
use Rattle.model.specs.declared.told.Told.TheVariants.{Ended, Stopped, Running}
use Rattle.model.specs.declared.faults.RunFault.TheVariants.{CellsFull}
use Rattle.model.specs.Numbers.{run_number}
use Rattle.model.specs.Person.{Outcome, done, faulted, out_of_turns, Scene, Event, took, wrote, by_hand}
use Rattle.model.specs.Calls.{World, empty, Call, translate, start, advance, Answer, translated, faulty, begun, no_start, no_advance, tells, Then, after}

-- the script that a text is, with room enough for its names
abbrev pub Script : List ℕ → Block → Type 0
Script text b = (room : ℕ) × (verdict room (read text) at_start ≡ accepted b)

-- ── histories ───────────────────────────────────────────────────────────────────────────────

-- what is remembered of a run: the script's text, what the host meant at the start, what was told since (newest first),
-- the sum of the budgets of its accepted advances, and whether a translate has come since
pub record Since : Type 0 where
  pub text : List ℕ
  pub host : Meaning
  pub told : List Told
  pub budgets : ℕ
  pub cut_off : Bool

-- the world now, the text last accepted, the run since the last accepted start, and all that was ever told
pub record History : Type 0 where
  pub world : World
  pub text : Option (List ℕ)
  pub run : Option Since
  pub told : List Told

abbrev pub interrupted : Option Since → Option Since
interrupted none = none
interrupted (some s) = some (record { text = s.text; host = s.host; told = s.told; budgets = s.budgets; cut_off = true })

abbrev pub more_told : ℕ → Told → Option Since → Option Since
more_told n t none = none
more_told n t (some s) = some (record { text = s.text; host = s.host; told = t ∷ s.told; budgets = n + s.budgets; cut_off = s.cut_off })

abbrev pub new_run : World → Option (List ℕ) → Option Since
new_run w none = none
new_run w (some text) = some (record { text = text; host = w.host; told = []; budgets = 0; cut_off = false })

abbrev pub text_of : Call → List ℕ
text_of (translate text k j) = text
text_of (start k c) = []
text_of (advance k c n) = []

abbrev pub budget_of : Call → ℕ
budget_of (translate text k j) = 0
budget_of (start k c) = 0
budget_of (advance k c n) = n

-- what is remembered after a call, by its answer
abbrev pub remembered : History → Call → Then → Answer → History
remembered h c t (translated n) = record { world = t.world; text = some (text_of c); run = interrupted h.run; told = h.told }
remembered h c t (faulty f p) = record { world = t.world; text = h.text; run = interrupted h.run; told = h.told }
remembered h c t begun = record { world = t.world; text = h.text; run = new_run h.world h.text; told = h.told }
remembered h c t (no_start r) = record { world = t.world; text = h.text; run = h.run; told = h.told }
remembered h c t (no_advance r) = record { world = t.world; text = h.text; run = h.run; told = h.told }
remembered h c t (tells a) = record { world = t.world; text = h.text; run = more_told (budget_of c) a h.run; told = a ∷ h.told }

abbrev pub one_more : History → Call → History
one_more h c = let t = after c h.world in remembered h c t t.answer

-- a list of calls, in order
abbrev pub over : List Call → History → History
over [] h = h
over (c ∷ cs) h = over cs (one_more h c)

-- a runner is set up empty; memory and host may hold anything
abbrev pub set_up : World → History
set_up w = record { world = w; text = none; run = none; told = [] }

-- ── a front of the person's list ────────────────────────────────────────────────────────────

abbrev pub scene : Outcome (Unit {0}) → Scene
scene (done u s) = s
scene (faulted n p s) = s
scene (out_of_turns s) = s

abbrev pub taken : List Event → List ℤ
taken [] = []
taken (took v ∷ es) = v ∷ taken es
taken (wrote v ∷ es) = taken es

abbrev pub written : List Event → List ℤ
written [] = []
written (took v ∷ es) = written es
written (wrote v ∷ es) = v ∷ written es

-- from what the host meant at first, these events lead to what it means now
pub record Led (first : Meaning) (es : List Event) (now : Meaning) : Type 0 where
  pub taken_so : first.waiting ≡ taken es ++ now.waiting
  pub written_so : now.written ≡ first.written ++ written es

-- what was taken and written since is a front of the person's list, for some number of turns
abbrev pub Front : Block → Meaning → Meaning → Type 0
Front b first now = (t : ℕ) × (es : List Event) × (rest : List Event) × ((scene (by_hand b first t)).events ≡ es ++ rest) × Led first es now

-- the end or fault that an answer tells, as the person comes to it, with the whole list; or 64, for want of cells
abbrev pub Same : Block → Meaning → Meaning → Told → Type 0
Same b first now (Running k) = Unit {0}
Same b first now (Ended k) = (t : ℕ) × (s : Scene) × (by_hand b first t ≡ done tt s) × Led first s.events now
Same b first now (Stopped f i p k) = (f ≡ CellsFull) ⊎ ((t : ℕ) × (s : Scene) × (by_hand b first t ≡ faulted f p s) × Led first s.events now)

abbrev pub Each : {A : Type 0} → (A → Type 0) → List A → Type 0
Each P [] = Unit {0}
Each P (x ∷ xs) = P x × Each P xs

-- an answer is the person's end or fault, or the one fault that only the machine has
abbrev pub Matches : Outcome (Unit {0}) → Told → Type 0
Matches (done u s) (Ended k) = Unit {0}
Matches (done u s) (Running k) = ⊥
Matches (done u s) (Stopped f i p k) = f ≡ CellsFull
Matches (faulted n q s) (Ended k) = ⊥
Matches (faulted n q s) (Running k) = ⊥
Matches (faulted n q s) (Stopped f i p k) = ((f ≡ n) × (p ≡ q)) ⊎ (f ≡ CellsFull)
Matches (out_of_turns s) a = ⊥

-- the person comes to an end or a fault
abbrev pub Comes : Outcome (Unit {0}) → Type 0
Comes (done u s) = Unit {0}
Comes (faulted n p s) = Unit {0}
Comes (out_of_turns s) = ⊥

abbrev pub Some : {A : Type 0} → (A → Type 0) → List A → Type 0
Some P [] = ⊥
Some P (x ∷ xs) = P x ⊎ Some P xs

-- the faults of a table that no script becomes
abbrev pub Sound : Told → Type 0
Sound (Ended k) = Unit {0}
Sound (Running k) = Unit {0}
Sound (Stopped f i p k) = ((65 ≤ run_number f) × (run_number f ≤ 68)) → ⊥

-- ── the promise ─────────────────────────────────────────────────────────────────────────────

-- every call is lent no more than there is, and a budget fits 32 bits
abbrev pub Lent : World → Call → Type 0
Lent w (translate text k j) = (k ≤ length w.table) × (j ≤ length w.names)
Lent w (start k c) = (k ≤ length w.table) × (c ≤ length w.cells)
Lent w (advance k c n) = (k ≤ length w.table) × (c ≤ length w.cells) × (n < 2 ^ 32)

-- the values so far are a front of the person's list; an end or a fault of the script's is the person's; no other fault but 64
pub record Kept (h : History) : Type 0 where
  pub front : (s : Since) (b : Block) → h.run ≡ some s → Script s.text b → Front b s.host h.world.host
  pub same : (s : Since) (b : Block) → h.run ≡ some s → Script s.text b → Each (Same b s.host h.world.host) s.told
  pub sound : Each Sound h.told

-- whatever holds after every list of calls, from every set-up
abbrev pub Histories : (History → Type 0) → Type 0
Histories P = (w : World) (cs : List Call) → w.runner ≡ empty → Each (Lent w) cs → P (over cs (set_up w))

-- where the person comes to an end or a fault, enough budget brings the machine there, or to 64
abbrev pub ComesToo : Block → Meaning → Outcome (Unit {0}) → ℕ → History → Type 0
ComesToo b first o n h =
    (s : Since) → h.run ≡ some s → Script s.text b → s.host ≡ first → s.cut_off ≡ false → n ≤ s.budgets → Some (Matches o) s.told

-- the whole: n stands before the histories, so that script and host alone fix it
pub record Promise : Type 0 where
  pub kept : Histories Kept
  pub comes : (b : Block) (first : Meaning) (t : ℕ) → Comes (by_hand b first t) → (n : ℕ) × Histories (ComesToo b first (by_hand b first t) n)
