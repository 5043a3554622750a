-- Every moment of a run is as the person's outcome has it, for turns enough.
use mathlib.Core.Path.{◌≡◌, refl, sym, ap, subst}
use mathlib.Core.Bool.{true≢false}
use mathlib.Core.Logic.{◌⊎◌, inl, inr}
use mathlib.Core.List.{List, [], ◌++◌, append-nil}
use Prim.Native.Nat.{ℕ, suc, ◌≤◌, ◌<◌}
use native.Mathlib.Omega.{arith}
use lib.ListN.{length, get_or}
use Rattle.host.specs.Meaning.{Meaning}
use Rattle.model.specs.declared.faults.RunFault.TheVariants.{CellsFull}
use Rattle.model.specs.declared.table.Entry.{Entry}
use Rattle.model.specs.declared.faults.RunFault.{RunFault}
use Rattle.model.specs.Tree.{Block}
use Rattle.model.specs.Code.{of_program}
use Rattle.model.specs.Person.{Event, Scene, Outcome, done, faulted, out_of_turns, by_hand}
use Rattle.model.specs.Machine.{Machine, Went, halts, stops, no_entry, started, step}
use Rattle.model.specs.Promise.{Led, scene, Comes}
use Rattle.model.specs.Numbers.{run_number}
use Rattle.faithful.specs.Outcomes.{TurnsCost}
use Rattle.faithful.proofs.Lockstep.Program.{Arrived, NoTurn, Stage, arrived, beyond, cells_for, every_stage, steps, turns_cost, under_way}
use Rattle.runs.specs.Runs.{Steps}
use Rattle.faithful.proofs.Lockstep.Runs.{GoesOn, no_next, no_next_halted}
use Rattle.faithful.proofs.Scoped.Trees.{WellScoped}

-- why the machine stops at m: for want of cells, of which it has fewer than D; or the person comes to that fault at
-- that place
abbrev pub StoppedAs : List Entry → Meaning → Outcome (Unit {0}) → ℕ → ℕ → Machine → Meaning → RunFault → Type 0
StoppedAs E first o K D m h f =
    ((f ≡ CellsFull) × (K < D)) ⊎ ((run_number f ≤ 63) × (s : Scene)
    × (o ≡ faulted f (get_or E m.at no_entry).place s) × Led first s.events h)

-- a state of a run with K cells
pub record Moment (E : List Entry) (first : Meaning) (o : Outcome (Unit {0})) (K D : ℕ) (m : Machine)
    (h : Meaning) : Type 0 where
  pub long : length m.memory ≡ K
  pub front : (es : List Event) × (rest : List Event) × ((scene o).events ≡ es ++ rest) × Led first es h
  pub halted : step E m h ≡ halts → (s : Scene) × (o ≡ done tt s) × Led first s.events h
  pub stopped : (f : RunFault) → step E m h ≡ stops f → StoppedAs E first o K D m h f

pub halts_no_stop : {r : Went} {f : RunFault} → r ≡ halts → r ≡ stops f → ⊥
halts_no_stop e w = true≢false cc

pub same_stop : {r : Went} {f g : RunFault} → r ≡ stops f → r ≡ stops g → f ≡ g
same_stop e w = cc

module _ (E : List Entry) (first : Meaning) (K D : ℕ) (m : Machine) (h : Meaning) where
  way_halted : (o : Outcome (Unit {0})) → GoesOn E K D m h → step E m h ≡ halts →
      (s : Scene) × (o ≡ done tt s) × Led first s.events h
  way_halted o (inl x) w = absurd (no_next_halted w x.2)
  way_halted o (inr x) w = absurd (halts_no_stop w x.0)

  way_stopped : (o : Outcome (Unit {0})) → GoesOn E K D m h → (f : RunFault) → step E m h ≡ stops f →
      StoppedAs E first o K D m h f
  way_stopped o (inl x) f w = absurd (no_next w x.2)
  way_stopped o (inr x) f w = inl (same_stop w x.0, x.1)

  pub whole_front : (o : Outcome (Unit {0})) → Led first (scene o).events h →
      (es : List Event) × (rest : List Event) × ((scene o).events ≡ es ++ rest) × Led first es h
  whole_front o led = ((scene o).events, [], sym (append-nil (scene o).events), led)

  fault_stopped : (g : RunFault) (p : ℕ) (s : Scene) → Arrived E first K D (faulted g p s) m h → (f : RunFault) →
      step E m h ≡ stops f → StoppedAs E first (faulted g p s) K D m h f
  fault_stopped g p s a f w = at a.there.3
    where
      at : (step E m h ≡ stops g) ⊎ ((step E m h ≡ stops CellsFull) × (K < D)) →
          StoppedAs E first (faulted g p s) K D m h f
      at (inr x) = inl (same_stop w x.0, x.1)
      at (inl x) =
          subst (λ y. StoppedAs E first (faulted g p s) K D m h y) (same_stop x w)
          (inr (a.there.0, s, ap (λ y. faulted g y s) (sym a.there.2), a.led))

  fault_halted : (g : RunFault) (p : ℕ) (s : Scene) → Arrived E first K D (faulted g p s) m h → step E m h ≡ halts →
      (s1 : Scene) × (◌≡◌ {A = Outcome (Unit {0})} (faulted g p s) (done tt s1)) × Led first s1.events h
  fault_halted g p s a w = at a.there.3
    where
      at : (step E m h ≡ stops g) ⊎ ((step E m h ≡ stops CellsFull) × (K < D)) →
          (s1 : Scene) × (◌≡◌ {A = Outcome (Unit {0})} (faulted g p s) (done tt s1)) × Led first s1.events h
      at (inl x) = absurd (halts_no_stop w x)
      at (inr x) = absurd (halts_no_stop w x.0)

  arrived_moment : (o : Outcome (Unit {0})) → Comes o → Arrived E first K D o m h → Moment E first o K D m h
  arrived_moment (done u s) co a =
      record {
        long = a.long;
        front = whole_front (done u s) a.led;
        halted = λ w. (s, refl, a.led);
        stopped = λ f w. absurd (halts_no_stop a.there w);
      }
  arrived_moment (faulted g p s) co a =
      record {
        long = a.long;
        front = whole_front (faulted g p s) a.led;
        halted = fault_halted g p s a;
        stopped = fault_stopped g p s a;
      }
  arrived_moment (out_of_turns s) co a = absurd co

  no_turn_comes : (o : Outcome (Unit {0})) → Comes o → NoTurn o → ⊥
  no_turn_comes (done u s) co w = w
  no_turn_comes (faulted f p s) co w = w
  no_turn_comes (out_of_turns s) co w = co

  -- before the outcome, and at it if the person comes to an end or a fault
  pub stage_moment : (o : Outcome (Unit {0})) (n j : ℕ) → (j < n) ⊎ Comes o → Stage E first K D o n j m h →
      Moment E first o K D m h
  stage_moment o n j c (under_way lt u) =
      record {
        long = u.long;
        front = u.front;
        halted = way_halted o u.goes_on;
        stopped = way_stopped o u.goes_on;
      }
  stage_moment o n j (inl lt) (arrived e a) = absurd (omega arith)
  stage_moment o n j (inr co) (arrived e a) = arrived_moment o co a
  stage_moment o n j (inl lt) (beyond gt w) = absurd (omega arith)
  stage_moment o n j (inr co) (beyond gt w) = absurd (no_turn_comes o co w)

  -- and there no run comes further
  pub stage_steps : (o : Outcome (Unit {0})) (n j : ℕ) → Comes o → Stage E first K D o n j m h → j ≤ n
  stage_steps o n j co (under_way lt u) = omega arith
  stage_steps o n j co (arrived e a) = omega arith
  stage_steps o n j co (beyond gt w) = absurd (no_turn_comes o co w)

module _ (b : Block) (ok : WellScoped b) (first : Meaning) (K j : ℕ) (m : Machine) (h : Meaning)
    (r : Steps (of_program b) j (started K) first m h) where
  -- where the person comes to an end or a fault
  pub moment_of : (t : ℕ) → Comes (by_hand b first t) →
      Moment (of_program b) first (by_hand b first t) K (cells_for b first t) m h × (j ≤ steps b first t)
  moment_of t co =
      let st = every_stage b ok first t K j m h r in (
        stage_moment (of_program b) first K (cells_for b first t) m h (by_hand b first t) (steps b first t) j (inr co)
            st,
        stage_steps (of_program b) first K (cells_for b first t) m h (by_hand b first t) (steps b first t) j co st,
      )

  early : (o : Outcome (Unit {0})) (n : ℕ) → TurnsCost (suc j) n o → (j < n) ⊎ Comes o
  early (done u s) n c = inr tt
  early (faulted f p s) n c = inr tt
  early (out_of_turns s) n c = inl (omega arith)

  -- a turn more than the steps made is enough
  pub any_moment : Moment (of_program b) first (by_hand b first (suc j)) K (cells_for b first (suc j)) m h
  any_moment =
      let t : ℕ = suc j in
      stage_moment (of_program b) first K (cells_for b first t) m h (by_hand b first t) (steps b first t) j
      (early (by_hand b first t) (steps b first t) (turns_cost b ok first t)) (every_stage b ok first t K j m h r)
