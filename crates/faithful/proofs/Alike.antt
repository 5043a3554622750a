-- The table of an accepted script does what the person does.
use mathlib.Core.Path.{◌≡◌, sym, ◌∙◌, ap}
use mathlib.Core.Logic.{◌⊎◌, inl, inr}
use mathlib.Core.List.{List, ◌++◌}
use Prim.Native.Nat.{ℕ, suc, ◌≤◌, ◌<◌}
use native.Mathlib.Omega.{arith}
use Rattle.host.specs.Meaning.{Meaning}
use Rattle.model.specs.declared.told.Told.TheVariants.{Ended, Stopped, Running}
use Rattle.model.specs.declared.faults.RunFault.TheVariants.{CellsFull}
use Rattle.model.specs.declared.table.Entry.{Entry}
use Rattle.model.specs.declared.faults.RunFault.{RunFault}
use Rattle.model.specs.declared.told.Told.{Told}
use Rattle.model.specs.Promise.{Front, scene, Script, Same, Sound, Led}
use Rattle.model.specs.Tree.{Block}
use Rattle.model.specs.Code.{of_program}
use Rattle.model.specs.Machine.{Machine, After, started, stops, step}
use Rattle.model.specs.Person.{Event, Scene, Outcome, done, faulted, out_of_turns, by_hand}
use Rattle.model.specs.Numbers.{run_number}
use Rattle.faithful.specs.Outcomes.{run_of, Arrives, Budgeted, TurnsCost, Full}
use Rattle.faithful.specs.Faithful.{Faithful, SameOrFull, EveryMoment, NeverUnsound}
use Rattle.faithful.proofs.Lockstep.Program.{one_more_at_end, Arrived, Stage, arrived, beyond, cells_for, every_stage, steps, turns_cost, under_way}
use Rattle.faithful.proofs.Lockstep.Runs.{GoesOn, UnderWay, no_next, no_next_halted}
use Rattle.faithful.proofs.Lockstep.Moments.{Moment, StoppedAs, any_moment, halts_no_stop, same_stop, whole_front}
use Rattle.runs.proofs.Telling.{Telling, ran, Ran, ToldAt, told_at}
use Rattle.faithful.proofs.Scoped.Trees.{WellScoped}
use Rattle.faithful.proofs.Scoped.Accepted.{accepted_scoped}

-- ── the outcome ─────────────────────────────────────────────────────────────────────────────

-- halting is told as a step: of an end, one more is told than come before it
budget_reaches : (o : Outcome (Unit {0})) (n budget : ℕ) → Budgeted (one_more_at_end o n) o budget → n ≤ budget
budget_reaches (done u s) n budget h = omega arith
budget_reaches (faulted f p s) n budget h = omega arith
budget_reaches (out_of_turns s) n budget h = omega arith

cost_with_one_more : (t : ℕ) (o : Outcome (Unit {0})) (n : ℕ) → TurnsCost t n o → TurnsCost t (one_more_at_end o n) o
cost_with_one_more t (done u s) n h = omega arith
cost_with_one_more t (faulted f p s) n h = tt
cost_with_one_more t (out_of_turns s) n h = h

same_stopped : (f g : RunFault) (e i p q k n : ℕ) → f ≡ g → e ≡ i → p ≡ q → k ≡ n → Stopped f e p k ≡ Stopped g i q n
same_stopped f g e i p q k n a b c d = cc

module _ (b : Block) (first : Meaning) (K D n budget j : ℕ) (m : Machine) (h : Meaning) where
  abbrev E : List Entry
  E = of_program b

  abbrev after : Told → After
  after t = record { told = t; machine = m; host = h }

  abbrev SameAs : Outcome (Unit {0}) → Told → Type 0
  SameAs o t = Arrives b (one_more_at_end o n) o (after t) ⊎ ((K < D) × Full first o (after t))

  told_within : (t : Told) → Telling E budget 0 j m h t → j ≤ budget
  told_within (Running i) x = let y = x.0 in omega arith
  told_within (Ended i) x = let y = x.0 in omega arith
  told_within (Stopped f e p i) x = let y = x.0 in omega arith

  full : (o : Outcome (Unit {0})) (f : RunFault) (e p i : ℕ) → f ≡ CellsFull →
      (es : List Event) × (rest : List Event) × ((scene o).events ≡ es ++ rest) × Led first es h →
      Full first o (after (Stopped f e p i))
  full o f e p i eq fr = (e, p, i, ap (λ x. Stopped x e p i) eq, fr.0, fr.1, fr.2, fr.3)

  on_the_way : (o : Outcome (Unit {0})) (t : Told) → n ≤ budget → j < n →
      UnderWay E first (scene o).events K D m h → Telling E budget 0 j m h t → SameAs o t
  on_the_way o (Running i) le lt u x = let y = x.0 in absurd (omega arith)
  on_the_way o (Ended i) le lt u x = at u.goes_on
    where
      at : GoesOn E K D m h → SameAs o (Ended i)
      at (inl y) = absurd (no_next_halted x.1 y.2)
      at (inr y) = absurd (halts_no_stop x.1 y.0)
  on_the_way o (Stopped f e p i) le lt u x = at u.goes_on
    where
      at : GoesOn E K D m h → SameAs o (Stopped f e p i)
      at (inl y) = absurd (no_next x.1 y.2)
      at (inr y) = inr (y.1, full o f e p i (same_stop x.1 y.0) u.front)

  at_end : (u : Unit {0}) (s : Scene) (t : Told) → suc n ≤ budget → j ≡ n → Arrived E first K D (done u s) m h →
      Telling E budget 0 j m h t → SameAs (done u s) t
  at_end u s (Running i) le e a x = let y = x.0 in absurd (omega arith)
  at_end u s (Ended i) le e a x = let y = x.2 in inl (ap (λ k. Ended k) (omega arith), a.host)
  at_end u s (Stopped f i p k) le e a x = absurd (halts_no_stop a.there x.1)

  at_fault : (g : RunFault) (q : ℕ) (s : Scene) (t : Told) → n < budget → j ≡ n →
      Arrived E first K D (faulted g q s) m h → Telling E budget 0 j m h t → SameAs (faulted g q s) t
  at_fault g q s (Running i) le e a x = let y = x.0 in absurd (omega arith)
  at_fault g q s (Ended i) le e a x = at a.there.3
    where
      at : (step E m h ≡ stops g) ⊎ ((step E m h ≡ stops CellsFull) × (K < D)) → SameAs (faulted g q s) (Ended i)
      at (inl y) = absurd (halts_no_stop x.1 y)
      at (inr y) = absurd (halts_no_stop x.1 y.0)
  at_fault g q s (Stopped f i p k) le e a x = at a.there.3
    where
      at : (step E m h ≡ stops g) ⊎ ((step E m h ≡ stops CellsFull) × (K < D)) →
          SameAs (faulted g q s) (Stopped f i p k)
      at (inl y) =
          let c = x.4 in
          inl (
            m.at,
            a.there.1,
            a.there.2,
            same_stopped f g i m.at p q k n (same_stop x.1 y) x.2 (x.3 ∙ a.there.2) (omega arith),
            a.host,
          )
      at (inr y) =
          inr (
            y.1,
            full (faulted g q s) f i p k (same_stop x.1 y.0)
                (whole_front E first K D m h (faulted g q s) a.led),
          )

  at_turn : (s : Scene) (t : Told) → budget ≡ n → j ≡ n → Arrived E first K D (out_of_turns s) m h →
      Telling E budget 0 j m h t → SameAs (out_of_turns s) t
  at_turn s (Running i) be e a x = let y = x.1 in inl (ap (λ k. Running k) (omega arith), a.host)
  at_turn s (Ended i) be e a x = let y = x.0 in absurd (omega arith)
  at_turn s (Stopped f i p k) be e a x = let y = x.0 in absurd (omega arith)

  -- a run whose budget suffices tells the person's outcome, or that cells are wanting
  tells_outcome : (o : Outcome (Unit {0})) (t : Told) → Budgeted (one_more_at_end o n) o budget →
      Stage E first K D o n j m h → Telling E budget 0 j m h t → SameAs o t
  tells_outcome o t bu (under_way lt u) x = on_the_way o t (budget_reaches o n budget bu) lt u x
  tells_outcome (done u s) t bu (arrived e a) x = at_end u s t bu e a x
  tells_outcome (faulted f p s) t bu (arrived e a) x = at_fault f p s t bu e a x
  tells_outcome (out_of_turns s) t bu (arrived e a) x = at_turn s t bu e a x
  tells_outcome (done u s) t bu (beyond gt w) x = absurd w
  tells_outcome (faulted f p s) t bu (beyond gt w) x = absurd w
  tells_outcome (out_of_turns s) t bu (beyond gt w) x = let y = told_within t x in absurd (omega arith)

-- ── the statements ──────────────────────────────────────────────────────────────────────────

module _ (text : List ℕ) (b : Block) (sc : Script text b) (first : Meaning) where
  abbrev ok : WellScoped b
  ok = accepted_scoped text b sc

  outcome : (t cells budget : ℕ) →
      Budgeted (one_more_at_end (by_hand b first t) (steps b first t)) (by_hand b first t) budget →
      Arrives b (one_more_at_end (by_hand b first t) (steps b first t)) (by_hand b first t)
      (run_of b first cells budget)
      ⊎ ((cells < cells_for b first t) × Full first (by_hand b first t) (run_of b first cells budget))
  outcome t cells budget bu =
      let a : After = run_of b first cells budget in
      let r = ran budget (of_program b) (started cells) first in
      tells_outcome b first cells (cells_for b first t) (steps b first t) budget r.count a.machine a.host
      (by_hand b first t) a.told bu
      (every_stage b ok first t cells r.count a.machine a.host r.path) r.telling

  with_cells : (t cells budget : ℕ) → cells_for b first t ≤ cells →
      Budgeted (one_more_at_end (by_hand b first t) (steps b first t)) (by_hand b first t) budget →
      Arrives b (one_more_at_end (by_hand b first t) (steps b first t)) (by_hand b first t)
      (run_of b first cells budget)
  with_cells t cells budget le bu = at (outcome t cells budget bu)
    where
      at : Arrives b (one_more_at_end (by_hand b first t) (steps b first t)) (by_hand b first t)
          (run_of b first cells budget)
          ⊎ ((cells < cells_for b first t) × Full first (by_hand b first t) (run_of b first cells budget)) →
          Arrives b (one_more_at_end (by_hand b first t) (steps b first t)) (by_hand b first t)
          (run_of b first cells budget)
      at (inl x) = x
      at (inr x) = let y = x.0 in absurd (omega arith)

pub faithful : Faithful
faithful text b sc first t = (
  one_more_at_end (by_hand b first t) (steps b first t),
  cells_for b first t,
  cost_with_one_more t (by_hand b first t) (steps b first t) (turns_cost b (accepted_scoped text b sc) first t),
  with_cells text b sc first t,
)

pub same_or_full : SameOrFull
same_or_full text b sc first t =
    (one_more_at_end (by_hand b first t) (steps b first t), cells_for b first t, outcome text b sc first t)

-- an end or a fault that is told at a moment is the person's
pub told_same : (b : Block) (first now : Meaning) (K D t : ℕ) (m : Machine) (a : Told) →
    Moment (of_program b) first (by_hand b first t) K D m now → ToldAt (of_program b) m now a → Same b first now a
told_same b first now K D t m (Running i) mo x = tt
told_same b first now K D t m (Ended i) mo x = let y = mo.halted x in (t, y.0, y.1, y.2)
told_same b first now K D t m (Stopped f i p s) mo x = at (mo.stopped f x.0)
  where
    at : StoppedAs (of_program b) first (by_hand b first t) K D m now f → Same b first now (Stopped f i p s)
    at (inl y) = inl y.0
    at (inr y) = inr (t, y.1, y.2 ∙ ap (λ z. faulted f z y.1) (sym x.2), y.3)

-- and no fault of the table's
pub told_sound : (E : List Entry) (first now : Meaning) (o : Outcome (Unit {0})) (K D : ℕ) (m : Machine) (a : Told) →
    Moment E first o K D m now → ToldAt E m now a → Sound a
told_sound E first now o K D m (Running i) mo x = tt
told_sound E first now o K D m (Ended i) mo x = tt
told_sound E first now o K D m (Stopped f i p s) mo x = at (mo.stopped f x.0)
  where
    at : StoppedAs E first o K D m now f → Sound (Stopped f i p s)
    at (inl y) = λ z. omega (arith, ap run_number y.0)
    at (inr y) = let w = y.0 in λ z. omega arith

module _ (text : List ℕ) (b : Block) (sc : Script text b) (first : Meaning) (cells budget : ℕ) where
  abbrev told_run : After
  told_run = run_of b first cells budget

  abbrev ran_so : Ran (of_program b) budget 0 (started cells) first told_run
  ran_so = ran budget (of_program b) (started cells) first

  moment : Moment (of_program b) first (by_hand b first (suc ran_so.count)) cells
      (cells_for b first (suc ran_so.count)) told_run.machine told_run.host
  moment =
      any_moment b (accepted_scoped text b sc) first cells ran_so.count told_run.machine told_run.host
      ran_so.path

  told_so : ToldAt (of_program b) told_run.machine told_run.host told_run.told
  told_so =
      told_at (of_program b) budget 0 ran_so.count told_run.machine told_run.host told_run.told
      ran_so.telling

  moment_kept : Front b first told_run.host × Same b first told_run.host told_run.told
  moment_kept =
      let t : ℕ = suc ran_so.count in (
        (t, moment.front.0, moment.front.1, moment.front.2, moment.front.3),
        told_same b first
            told_run.host cells (cells_for b first t) t told_run.machine told_run.told moment told_so,
      )

  moment_sound : Sound told_run.told
  moment_sound =
      let t : ℕ = suc ran_so.count in
      told_sound (of_program b) first told_run.host (by_hand b first t) cells (cells_for b first t)
      told_run.machine told_run.told moment told_so

pub every_moment : EveryMoment
every_moment text b sc first cells budget = moment_kept text b sc first cells budget

pub never_unsound : NeverUnsound
never_unsound first cells budget text b sc = moment_sound text b sc first cells budget
