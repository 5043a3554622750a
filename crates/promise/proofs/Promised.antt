-- What holds between calls gives the promise.
use mathlib.Core.Path.{◌≡◌, refl, sym, subst}
use mathlib.Core.Bool.{true≢false, true, false}
use mathlib.Core.Logic.{◌⊎◌, inl, inr}
use mathlib.Core.List.{List, [], ◌∷◌}
use mathlib.Core.Option.{some}
use Prim.Native.Nat.{◌<◌, ℕ, suc, ◌≤◌}
use native.Mathlib.Omega.{arith}
use Rattle.host.specs.Meaning.{Meaning}
use Rattle.model.specs.declared.told.Told.TheVariants.{Ended, Stopped, Running}
use Rattle.model.specs.declared.faults.RunFault.TheVariants.{CellsFull}
use Rattle.model.specs.declared.table.Entry.{Entry}
use Rattle.model.specs.declared.told.Told.{Told}
use Rattle.model.specs.Tree.{Block}
use Rattle.model.specs.Code.{of_program}
use Rattle.model.specs.Person.{Outcome, done, faulted, out_of_turns, by_hand}
use Rattle.model.specs.Machine.{Machine}
use Rattle.model.specs.Calls.{World}
use Rattle.model.specs.Promise.{Script, Since, History, set_up, over, Front, Same, Each, Matches, Comes, Some, Kept, ComesToo, Promise}
use Rattle.model.specs.Enough.{Exactly}
use Rattle.model.specs.Machine
use Rattle.promise.specs.InUse.{in_use}
use Rattle.faithful.proofs.Lockstep.Moments.{Moment, StoppedAs, any_moment, moment_of}
use Rattle.runs.specs.Runs.{Steps}
use Rattle.runs.proofs.Telling.{ToldAt}
use Rattle.faithful.proofs.Scoped.Accepted.{accepted_scoped}
use Rattle.faithful.proofs.Lockstep.Program.{cells_for, steps}
use Rattle.faithful.proofs.Scoped.OneScript.{one_script}
use Rattle.faithful.proofs.Alike.{told_same}
use Rattle.promise.proofs.Invariant.{Between, Final, RunStands}
use Rattle.promise.proofs.Histories.{between}

-- the run's script is the text's
its_script : (s : Since) (u : ℕ) (now : Meaning) (b : Block) (r : RunStands s u now) → Script s.text b → r.b ≡ b
its_script s u now b r sc = one_script s.text r.b b r.script sc

-- ── front, same, sound ──────────────────────────────────────────────────────────────────────

now_moment : (s : Since) (u : ℕ) (now : Meaning) (r : RunStands s u now) →
    Moment (of_program r.b) s.host (by_hand r.b s.host (suc r.steps)) u
    (cells_for r.b s.host (suc r.steps)) r.machine now
now_moment s u now r =
    any_moment r.b (accepted_scoped s.text r.b r.script) s.host u r.steps r.machine now r.path

all_same : (b : Block) (first now : Meaning) (K D t : ℕ) (m : Machine) →
    Moment (of_program b) first (by_hand b first t) K D m now → (ts : List Told) →
    Each (ToldAt (of_program b) m now) ts → Each (Same b first now) ts
all_same b first now K D t m mo [] x = tt
all_same b first now K D t m mo (a ∷ ts) x =
    (told_same b first now K D t m a mo x.0, all_same b first now K D t m mo ts x.1)

pub kept : (w : World) (u : ℕ) (h : History) → Between w u h → Kept h
kept w u h i =
    record {
      front = λ s b e sc.
          let r = i.runs s e in
          let f = (now_moment s u h.world.host r).front in
          subst (λ y. Front y s.host h.world.host) (its_script s u h.world.host b r sc)
          (suc r.steps, f.0, f.1, f.2, f.3);
      same = λ s b e sc.
          let r = i.runs s e in
          let t : ℕ = suc r.steps in
          subst (λ y. Each (Same y s.host h.world.host) s.told) (its_script s u h.world.host b r sc)
          (all_same r.b s.host h.world.host u (cells_for r.b s.host t) t r.machine
          (now_moment s u h.world.host r) s.told r.told);
      sound = i.sound;
    }

-- ── enough budget, and enough cells ─────────────────────────────────────────────────────────

-- what is told at an end or a stop is the person's end or fault; or the want of cells, of which there are fewer than D
abbrev pub EndsAs : Outcome (Unit {0}) → ℕ → ℕ → Told → Type 0
EndsAs o K D t = Exactly o t ⊎ (Matches o t × (K < D))

pub told_final : (E : List Entry) (first now : Meaning) (o : Outcome (Unit {0})) (K D : ℕ) (m : Machine) (t : Told) →
    Comes o → Moment E first o K D m now → ToldAt E m now t → Final t → EndsAs o K D t
told_final E first now o K D m (Running k) co mo x f = absurd f
told_final E first now o K D m (Ended k) co mo x f =
    let y = mo.halted x in inl (subst (λ z. Exactly z (Ended k)) (sym y.1) tt)
told_final E first now o K D m (Stopped g i p k) co mo x f = at (mo.stopped g x.0)
  where
    wanting : (o : Outcome (Unit {0})) → Comes o → g ≡ CellsFull → Matches o (Stopped g i p k)
    wanting (done u s) c e = e
    wanting (faulted n q s) c e = inr e
    wanting (out_of_turns s) c e = absurd c

    at : StoppedAs E first o K D m now g → EndsAs o K D (Stopped g i p k)
    at (inl y) = inr (wanting o co y.0, y.1)
    at (inr y) = inl (subst (λ z. Exactly z (Stopped g i p k)) (sym y.2) (refl, x.2))

some_final : (E : List Entry) (first now : Meaning) (o : Outcome (Unit {0})) (K D : ℕ) (m : Machine) → Comes o →
    Moment E first o K D m now → (ts : List Told) → Each (ToldAt E m now) ts → Some Final ts → Some (EndsAs o K D) ts
some_final E first now o K D m co mo [] x f = absurd f
some_final E first now o K D m co mo (t ∷ ts) x (inl f) = inl (told_final E first now o K D m t co mo x.0 f)
some_final E first now o K D m co mo (t ∷ ts) x (inr f) = inr (some_final E first now o K D m co mo ts x.1 f)

-- a run whose budgets suffice has told it
pub ended : (b : Block) (first : Meaning) (t : ℕ) → Comes (by_hand b first t) → (w : World) (u : ℕ) (h : History) →
    Between w u h →
    (s : Since) → h.run ≡ some s → Script s.text b → s.host ≡ first → s.cut_off ≡ false →
    suc (steps b first t) ≤ s.budgets → Some (EndsAs (by_hand b first t) u (cells_for b first t)) s.told
ended b first t co w u h i s e sc hf cf le = at (i.runs s e)
  where
    at : RunStands s u h.world.host → Some (EndsAs (by_hand b first t) u (cells_for b first t)) s.told
    at r = so r.so_far
      where
        eb : r.b ≡ b
        eb = its_script s u h.world.host b r sc

        path : Steps (of_program b) r.steps (Machine.started u) first r.machine h.world.host
        path =
            subst (λ y. Steps (of_program y) r.steps (Machine.started u) first r.machine h.world.host)
            eb (subst (λ y. Steps (of_program r.b) r.steps (Machine.started u) y r.machine
            h.world.host) hf r.path)

        mo : Moment (of_program b) first (by_hand b first t) u (cells_for b first t) r.machine h.world.host
            × (r.steps ≤ steps b first t)
        mo = moment_of b (accepted_scoped s.text b sc) first u r.steps r.machine h.world.host path t co

        told : Each (ToldAt (of_program b) r.machine h.world.host) s.told
        told = subst (λ y. Each (ToldAt (of_program y) r.machine h.world.host) s.told) eb r.told

        so : (s.cut_off ≡ true) ⊎ ((r.steps ≡ s.budgets) ⊎ Some Final s.told) →
            Some (EndsAs (by_hand b first t) u (cells_for b first t)) s.told
        so (inl x) = absurd (true≢false cc)
        so (inr (inl x)) = absurd (let y = mo.1 in omega arith)
        so (inr (inr x)) =
            some_final (of_program b) first h.world.host (by_hand b first t) u (cells_for b first t) r.machine
            co mo.0 s.told told x

exactly_matches : (o : Outcome (Unit {0})) (t : Told) → Exactly o t → Matches o t
exactly_matches (done u s) (Ended k) x = tt
exactly_matches (done u s) (Running k) x = absurd x
exactly_matches (done u s) (Stopped f i p k) x = absurd x
exactly_matches (faulted n q s) (Ended k) x = absurd x
exactly_matches (faulted n q s) (Running k) x = absurd x
exactly_matches (faulted n q s) (Stopped f i p k) x = inl x
exactly_matches (out_of_turns s) t x = absurd x

some_matches : (o : Outcome (Unit {0})) (K D : ℕ) (ts : List Told) → Some (EndsAs o K D) ts → Some (Matches o) ts
some_matches o K D [] x = absurd x
some_matches o K D (t ∷ ts) (inl (inl x)) = inl (exactly_matches o t x)
some_matches o K D (t ∷ ts) (inl (inr x)) = inl x.0
some_matches o K D (t ∷ ts) (inr x) = inr (some_matches o K D ts x)

pub some_exactly : (o : Outcome (Unit {0})) (K D : ℕ) (ts : List Told) → D ≤ K → Some (EndsAs o K D) ts →
    Some (Exactly o) ts
some_exactly o K D [] le x = absurd x
some_exactly o K D (t ∷ ts) le (inl (inl x)) = inl x
some_exactly o K D (t ∷ ts) le (inl (inr x)) = absurd (let y = x.1 in omega arith)
some_exactly o K D (t ∷ ts) le (inr x) = inr (some_exactly o K D ts le x)

pub comes_too : (b : Block) (first : Meaning) (t : ℕ) → Comes (by_hand b first t) →
    (w : World) (u : ℕ) (h : History) → Between w u h → ComesToo b first (by_hand b first t) (suc (steps b first t)) h
comes_too b first t co w u h i s e sc hf cf le =
    some_matches (by_hand b first t) u (cells_for b first t) s.told (ended b first t co w u h i s e sc hf cf le)

-- ── the promise ─────────────────────────────────────────────────────────────────────────────

pub promised : Promise
promised =
    record {
      kept = λ w cs e le. kept w (in_use cs (set_up w) 0) (over cs (set_up w)) (between w cs e le);
      comes =
          λ b first t co. (
            suc (steps b first t),
            λ w cs e le. comes_too b first t co w (in_use cs (set_up w) 0) (over cs (set_up w)) (between w cs e le),
          );
    }
