-- An advance keeps what holds between calls.
use mathlib.Core.Path.{◌≡◌, sym, ap, subst}
use mathlib.Core.Bool.{Bool, true, false}
use mathlib.Core.Logic.{◌⊎◌, inl, inr}
use mathlib.Core.List.{List, [], ◌∷◌, ◌++◌}
use mathlib.Core.Option.{Option, some}
use Prim.Native.Nat.{ℕ, suc, ◌+◌}
use native.Mathlib.Omega.{arith}
use lib.Dec.{leb}
use lib.IntN.{ℤ}
use lib.ListN.{length, take, drop, length-append, length-drop}
use lib.Seq.{take_at}
use Rattle.host.specs.Meaning.{Meaning}
use Rattle.model.specs.declared.told.Told.TheVariants.{Ended, Stopped, Running}
use Rattle.model.specs.declared.table.Entry.{Entry}
use Rattle.model.specs.declared.told.Told.{Told}
use Rattle.model.specs.declared.faults.AdvanceRefusal.TheVariants as Advances
use Rattle.model.specs.Code.{of_program}
use Rattle.model.specs.Person.{by_hand}
use Rattle.model.specs.Machine.{Machine, After, advanced}
use Rattle.model.specs.Calls.{Runner, empty, ready, started, World, advance, no_advance, tells, Then, refusing, next_runner, on, advancing}
use Rattle.model.specs.Promise.{Script, Since, History, more_told, remembered, Each, Some}
use Rattle.model.specs.Machine
use Rattle.runs.proofs.Telling.{Ran, Telling, ToldAt, ran, told_at}
use Rattle.runs.specs.Runs.{Steps}
use Rattle.faithful.proofs.Lockstep.Runs.{steps_trans}
use Rattle.faithful.proofs.Scoped.Accepted.{accepted_scoped}
use Rattle.faithful.proofs.Lockstep.Moments.{any_moment}
use Rattle.faithful.proofs.Lockstep.Program.{cells_for}
use Rattle.faithful.proofs.Alike.{told_sound}
use Rattle.promise.proofs.Invariant.{Between, Final, Going, RunStands, RunnerStands, StillRunning}

-- where only running was told, it is told of every state
calm : (E : List Entry) (m : Machine) (h : Meaning) (ts : List Told) → Each StillRunning ts → Each (ToldAt E m h) ts
calm E m h [] r = tt
calm E m h (Running k ∷ ts) r = (tt, calm E m h ts r.1)
calm E m h (Ended k ∷ ts) r = absurd r.0
calm E m h (Stopped f i p k ∷ ts) r = absurd r.0

-- the runner after an advance
runner_next : (table : List Entry) (cells : List ℤ) (text : Option (List ℕ)) (in_use budget n u f i : ℕ)
    (now0 : Meaning) (run : Option Since) (g : Going table cells now0 text run in_use n u f i) (j : ℕ) (m : Machine)
    (now : Meaning) (t : Told) →
    Steps (of_program g.coded.b) (g.s.budgets + j) (Machine.started u) g.s.host m now →
    length m.memory ≡ u → Telling (of_program g.coded.b) budget 0 j m now t →
    RunnerStands table (m.memory ++ drop u cells) now text (more_told budget t run) in_use (next_runner n u m t)
runner_next table cells text in_use budget n u f i now0 run g j m now (Running k) path long x =
    let E : List Entry = of_program g.coded.b in
    let e1 : g.s.budgets + j ≡ budget + g.s.budgets = let y = x.0 in omega arith in
    let e2 : take u (m.memory ++ drop u cells) ≡ m.memory = take_at m.memory (drop u cells) u long in
    record {
      coded = g.coded;
      s = record {
        text = g.s.text;
        host = g.s.host;
        told = Running k ∷ g.s.told;
        budgets = budget + g.s.budgets;
        cut_off = g.s.cut_off;
      };
      is = ap (more_told budget (Running k)) g.is;
      same_text = g.same_text;
      same_cells = g.same_cells;
      path =
          subst (λ z. Steps E (budget + g.s.budgets) (Machine.started u) g.s.host
          (record { memory = z; fill = m.fill; at = m.at }) now) (sym e2)
          (subst (λ z. Steps E z (Machine.started u) g.s.host m now) e1 path);
      running = (tt, g.running);
      lent = omega (arith, length-append m.memory (drop u cells), long);
    }
runner_next table cells text in_use budget n u f i now0 run g j m now (Ended k) path long x = g.coded
runner_next table cells text in_use budget n u f i now0 run g j m now (Stopped a e p k) path long x = g.coded

-- the steps so far are the budgets so far, or an end or a stop was told
steps_so_far : (E : List Entry) (budget b j : ℕ) (m : Machine) (now : Meaning) (t : Told) (ts : List Told) →
    Telling E budget 0 j m now t → (b + j ≡ budget + b) ⊎ Some Final (t ∷ ts)
steps_so_far E budget b j m now (Running k) ts x = inl (let y = x.0 in omega arith)
steps_so_far E budget b j m now (Ended k) ts x = inr (inl tt)
steps_so_far E budget b j m now (Stopped f i p k) ts x = inr (inl tt)

module _ (w0 : World) (in_use : ℕ) (h : History) (k c budget : ℕ) (inv : Between w0 in_use h) where
  -- the run went on
  goes_further : (n u f i : ℕ) (a : After) →
      (g : Going h.world.table h.world.cells h.world.host h.text h.run in_use n u f i) →
      Ran (of_program g.coded.b) budget 0 (record { memory = take u h.world.cells; fill = f; at = i })
      h.world.host a →
      Between w0 in_use (remembered h (advance k c budget) (on h.world n u a) (tells a.told))
  goes_further n u f i a g r =
      let b = g.coded.b in
      let E : List Entry = of_program b in
      let s : Since = g.s in
      let j : ℕ = r.count in
      let all : ℕ = s.budgets + j in
      let path : Steps E all (Machine.started u) s.host a.machine a.host = steps_trans g.path
      r.path in
      let mo = any_moment b (accepted_scoped g.coded.text b g.coded.script) s.host u all a.machine
      a.host path in
      let at = told_at E budget 0 j a.machine a.host a.told r.telling in
      let s1 : Since = record {
        text = s.text;
        host = s.host;
        told = a.told ∷ s.told;
        budgets = budget + s.budgets;
        cut_off = s.cut_off;
      } in
      let new : more_told budget a.told h.run ≡ some s1 = ap (more_told budget a.told) g.is in
      record {
        tables = inv.tables;
        names = inv.names;
        cells =
            let z = g.lent in omega (
              arith,
              length-append a.machine.memory (drop u h.world.cells),
              mo.long,
              length-drop u h.world.cells,
              inv.cells,
            );
        runner =
            runner_next h.world.table h.world.cells h.text in_use budget n u f i h.world.host h.run
            g j a.machine a.host a.told path mo.long r.telling;
        runs = λ s2 e.
            let w : s1 ≡ s2 = let e1 = new in cc in
            subst (λ y. RunStands y in_use a.host) w
            (record {
              b = b;
              script = subst (λ y. Script y b) (sym g.same_text) g.coded.script;
              steps = all;
              machine = a.machine;
              path =
                  subst (λ y. Steps E all (Machine.started y) s.host a.machine a.host) g.same_cells
                  path;
              told = (at, calm E a.machine a.host s.told g.running);
              so_far =
                  inr (steps_so_far E budget s.budgets j a.machine a.host a.told s.told r.telling);
            });
        sound = (
          told_sound E s.host a.host (by_hand b s.host (suc all)) u (cells_for b s.host (suc all))
              a.machine a.told mo at,
          inv.sound,
        );
      }

  pub advances : (r : Runner) →
      RunnerStands h.world.table h.world.cells h.world.host h.text h.run in_use r →
      Between w0 in_use (let t = advancing h.world k c budget r in remembered h (advance k c budget) t t.answer)
  advances empty o = inv
  advances (ready n) o = inv
  advances (started n u f j) o = tests (leb n k) (leb u c)
    where
      tests : (x y : Bool) → Between w0 in_use (let t : Then = elim x [
        | false ↦ refusing h.world (no_advance Advances.ShortTable)
        | true ↦ elim y [
          | false ↦ refusing h.world (no_advance Advances.FewCells)
          | true ↦ on h.world n u (advanced budget (take n h.world.table)
              (record { memory = take u h.world.cells; fill = f; at = j }) h.world.host)
        ]
      ] in remembered h (advance k c budget) t t.answer)
      tests false y = inv
      tests true false = inv
      tests true true =
          let m0 : Machine = record { memory = take u h.world.cells; fill = f; at = j } in
          let E : List Entry = of_program o.coded.b in
          goes_further n u f j (advanced budget (take n h.world.table) m0 h.world.host) o
          (subst (λ es. Ran E budget 0 m0 h.world.host (advanced budget es m0 h.world.host))
          (sym o.coded.code) (ran budget E m0 h.world.host))
