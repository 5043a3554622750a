-- With cells and budget enough, the very end or fault that the person comes to is told.
use mathlib.Core.List.{List}
use mathlib.Core.Logic.{inl, inr}
use Prim.Native.Nat.{◌<◌, ℕ, suc, ◌≤◌}
use native.Mathlib.Omega.{arith}
use Rattle.model.specs.declared.told.Told.TheVariants.{Ended, Stopped, Running}
use Rattle.model.specs.declared.table.Entry.{Entry}
use Rattle.model.specs.declared.told.Told.{Told}
use Rattle.model.specs.Code.{of_program}
use Rattle.model.specs.Person.{by_hand}
use Rattle.model.specs.Machine.{After, advanced, started}
use Rattle.model.specs.Promise.{over, set_up}
use Rattle.model.specs.Enough.{Exactly, Enough}
use Rattle.promise.specs.InUse.{EnoughInEveryList, in_use}
use Rattle.runs.proofs.Telling.{Telling, ran, told_at}
use Rattle.faithful.proofs.Scoped.Accepted.{accepted_scoped}
use Rattle.faithful.proofs.Lockstep.Program.{cells_for, steps}
use Rattle.faithful.proofs.Lockstep.Moments.{moment_of}
use Rattle.promise.proofs.Promised.{EndsAs, ended, some_exactly, told_final}
use Rattle.promise.proofs.Invariant.{Final}
use Rattle.promise.proofs.Histories.{between}

-- a budget that is not spent is told to have ended or stopped
final : (E : List Entry) (n k j : ℕ) (a : After) → j < n → Telling E n k j a.machine a.host a.told →
    Final a.told
final E n k j a lt x = at a.told x
  where
    at : (t : Told) → Telling E n k j a.machine a.host t → Final t
    at (Running i) x = let y = x.0 in absurd (omega arith)
    at (Ended i) x = tt
    at (Stopped f i p s) x = tt

pub enough : Enough
enough text b sc first t co = (suc (steps b first t), cells_for b first t, tells)
  where
    tells : (budget K : ℕ) → suc (steps b first t) ≤ budget → cells_for b first t ≤ K →
        Exactly (by_hand b first t) (advanced budget (of_program b) (started K) first).told
    tells budget K h1 h2 =
        let E : List Entry = of_program b in
        let a : After = advanced budget E (started K) first in
        let r = ran budget E (started K) first in
        let mo = moment_of b (accepted_scoped text b sc) first K r.count a.machine a.host r.path t co in
        at (told_final E first a.host (by_hand b first t) K (cells_for b first t) a.machine a.told co mo.0
        (told_at E budget 0 r.count a.machine a.host a.told r.telling)
        (final E budget 0 r.count a (let y = mo.1 in omega arith) r.telling))
      where
        at : EndsAs (by_hand b first t) K (cells_for b first t)
            (advanced budget (of_program b) (started K) first).told →
            Exactly (by_hand b first t) (advanced budget (of_program b) (started K) first).told
        at (inl x) = x
        at (inr x) = let y = x.1 in absurd (omega arith)

pub enough_in_every_list : EnoughInEveryList
enough_in_every_list b first t co = (
  suc (steps b first t),
  cells_for b first t,
  λ w cs e le d s r sc hf cf n.
      let u : ℕ = in_use cs (set_up w) 0 in
      some_exactly (by_hand b first t) u (cells_for b first t) s.told d
      (ended b first t co w u (over cs (set_up w)) (between w cs e le) s r sc hf cf n),
)
