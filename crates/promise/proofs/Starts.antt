-- A start keeps what holds between calls.
use mathlib.Core.Path.{◌≡◌, refl, sym, ◌∙◌, ap, subst}
use mathlib.Core.Bool.{Bool, true, false}
use mathlib.Core.Logic.{inl, inr}
use mathlib.Core.List.{List, [], ◌++◌}
use mathlib.Core.Option.{some}
use Prim.Native.Nat.{ℕ, ◌-◌, ◌≤◌, min}
use native.Mathlib.Omega.{arith}
use lib.Dec.{leb}
use lib.IntN.{ℤ, pos}
use lib.ListN.{length, take, drop, replicate, length-replicate}
use lib.Seq.{take_at}
use Rattle.model.specs.declared.faults.StartRefusal.TheVariants as Starts
use Rattle.model.specs.Code.{of_program}
use Rattle.model.specs.Calls.{Runner, empty, ready, started, World, start, begun, no_start, Then, filled_with, refusing, fresh_run, starting}
use Rattle.model.specs.Promise.{Since, History, new_run, remembered, Lent}
use Rattle.model.specs.Machine
use Rattle.promise.specs.InUse.{in_use_after}
use Rattle.runs.specs.Runs.{Steps, still}
use Rattle.promise.proofs.Invariant.{Between, Coded, RunStands, RunnerStands}
use Rattle.promise.proofs.Translates.{length_filled}

-- the cells in use are cleared
cleared : (used : ℕ) (cells : List ℤ) → take used (filled_with (pos 0) [] used cells) ≡ replicate used (pos 0)
cleared used cells =
    let e : used - 0 ≡ used = omega arith in
    ap (λ z. take used (replicate z (pos 0) ++ drop used cells)) e
    ∙ take_at (replicate used (pos 0)) (drop used cells) used (length-replicate used (pos 0))

module _ (w0 : World) (u : ℕ) (h : History) (k c : ℕ) (i : Between w0 u h) (le : Lent w0 (start k c)) where
  begins : (n : ℕ) (x : Bool) → Coded h.world.table h.text n →
      (let t : Then = elim x [
        | false ↦ refusing h.world (no_start Starts.ShortTable)
        | true ↦ record { world = fresh_run h.world n (min c 65535); answer = begun }
      ] in
      Between w0 (in_use_after (start k c) t.answer u) (remembered h (start k c) t t.answer))
  begins n false cd = i
  begins n true cd =
      let used : ℕ = min c 65535 in
      let s : Since = record { text = cd.text; host = h.world.host; told = []; budgets = 0; cut_off = false } in
      let cl : List ℤ = filled_with (pos 0) [] used h.world.cells in
      let lent : used ≤ length h.world.cells = omega (arith, le.1, i.cells) in
      let long : length cl ≡ length h.world.cells = length_filled (pos 0) [] used h.world.cells (omega arith)
      lent in
      let new : new_run h.world h.text ≡ some s = ap (new_run h.world) cd.is in
      record {
        tables = i.tables;
        names = i.names;
        cells = long ∙ i.cells;
        runner = record {
          coded = cd;
          s = s;
          is = new;
          same_text = refl;
          same_cells = refl;
          path =
              subst (λ z. Steps (of_program cd.b) 0 (Machine.started used) h.world.host
              (record { memory = z; fill = 0; at = 0 }) h.world.host) (sym (cleared used h.world.cells))
              still;
          running = tt;
          lent = omega (arith, long);
        };
        runs = λ s1 e.
            let w : s ≡ s1 = let e1 = new in cc in
            subst (λ y. RunStands y used h.world.host) w
            (record {
              b = cd.b;
              script = cd.script;
              steps = 0;
              machine = Machine.started used;
              path = still;
              told = tt;
              so_far = inr (inl refl);
            });
        sound = i.sound;
      }

  pub starts : (r : Runner) → RunnerStands h.world.table h.world.cells h.world.host h.text h.run u
      r →
      (let t = starting h.world k c r in
      Between w0 (in_use_after (start k c) t.answer u) (remembered h (start k c) t t.answer))
  starts empty o = i
  starts (ready n) o = begins n (leb n k) o
  starts (started n v f j) o = begins n (leb n k) o.coded
