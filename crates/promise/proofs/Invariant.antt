-- What holds between calls: what the runner, the table and the cells have to do with the run since the last start.
use mathlib.Core.Path.{◌≡◌}
use mathlib.Core.Bool.{true}
use mathlib.Core.Logic.{◌⊎◌}
use mathlib.Core.List.{List}
use mathlib.Core.Option.{Option, some}
use Prim.Native.Nat.{ℕ, ◌≤◌}
use lib.IntN.{ℤ}
use lib.ListN.{length, take}
use Rattle.host.specs.Meaning.{Meaning}
use Rattle.model.specs.declared.told.Told.TheVariants.{Ended, Stopped, Running}
use Rattle.model.specs.declared.table.Entry.{Entry}
use Rattle.model.specs.declared.told.Told.{Told}
use Rattle.model.specs.Tree.{Block}
use Rattle.model.specs.Code.{of_program}
use Rattle.model.specs.Machine.{Machine}
use Rattle.model.specs.Calls.{Runner, empty, ready, started, World}
use Rattle.model.specs.Promise.{Script, Since, History, Each, Some, Sound}
use Rattle.model.specs.Machine
use Rattle.runs.specs.Runs.{Steps}
use Rattle.runs.proofs.Telling.{ToldAt}

abbrev pub StillRunning : Told → Type 0
StillRunning (Running k) = Unit {0}
StillRunning (Ended k) = ⊥
StillRunning (Stopped f i p k) = ⊥

abbrev pub Final : Told → Type 0
Final (Running k) = ⊥
Final (Ended k) = Unit {0}
Final (Stopped f i p k) = Unit {0}

-- a run over u cells: its script, and the state that its steps have brought it to, of which all was told; the steps are
-- as
-- many as its budgets had, unless an end or a stop was told, or a translate came
pub record RunStands (s : Since) (u : ℕ) (now : Meaning) : Type 0 where
  pub b : Block
  pub script : Script s.text b
  pub steps : ℕ
  pub machine : Machine
  pub path : Steps (of_program b) steps (Machine.started u) s.host machine now
  pub told : Each (ToldAt (of_program b) machine now) s.told
  pub so_far : (s.cut_off ≡ true) ⊎ ((steps ≡ s.budgets) ⊎ Some Final s.told)

-- the first n entries of the table are the code of the text last accepted
pub record Coded (table : List Entry) (accepted : Option (List ℕ)) (n : ℕ) : Type 0 where
  pub text : List ℕ
  pub is : accepted ≡ some text
  pub b : Block
  pub script : Script text b
  pub code : take n table ≡ of_program b

-- a run that goes on: n entries, u cells, f of them filled, at entry i
pub record Going (table : List Entry) (cells : List ℤ) (now : Meaning) (accepted : Option (List ℕ))
    (run : Option Since) (in_use n u f i : ℕ) : Type 0 where
  pub coded : Coded table accepted n
  pub s : Since
  pub is : run ≡ some s
  pub same_text : s.text ≡ coded.text
  pub same_cells : u ≡ in_use
  pub path : Steps (of_program coded.b) s.budgets (Machine.started u) s.host
      (record { memory = take u cells; fill = f; at = i }) now
  pub running : Each StillRunning s.told
  pub lent : u ≤ length cells

abbrev pub RunnerStands : List Entry → List ℤ → Meaning → Option (List ℕ) → Option Since → ℕ → Runner → Type 0
RunnerStands table cells now accepted run in_use empty = Unit {0}
RunnerStands table cells now accepted run in_use (ready n) = Coded table accepted n
RunnerStands table cells now accepted run in_use (started n u f i) = Going table cells now accepted run in_use n u f i

-- since world w0 was set up, where u cells are in use
pub record Between (w0 : World) (u : ℕ) (h : History) : Type 0 where
  pub tables : length h.world.table ≡ length w0.table
  pub names : length h.world.names ≡ length w0.names
  pub cells : length h.world.cells ≡ length w0.cells
  pub runner : RunnerStands h.world.table h.world.cells h.world.host h.text h.run u
      h.world.runner
  pub runs : (s : Since) → h.run ≡ some s → RunStands s u h.world.host
  pub sound : Each Sound h.told
