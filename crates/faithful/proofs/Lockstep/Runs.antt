-- While the ideal machine goes on, the machine goes in step with it, or stops for want of cells.
use mathlib.Core.Path.{◌≡◌, sym, subst}
use mathlib.Core.Bool.{true≢false}
use mathlib.Core.Logic.{◌⊎◌, inl, inr}
use mathlib.Core.List.{List, ◌++◌}
use Prim.Native.Nat.{ℕ, zero, suc, ◌+◌, ◌≤◌, ◌<◌}
use native.Mathlib.Nat.{zero-add, suc-add}
use native.Mathlib.Decide.{dec_lt}
use native.Mathlib.Omega.{arith}
use lib.IntN.{ℤ}
use lib.ListN.{length}
use Rattle.host.specs.Meaning.{Meaning}
use Rattle.model.specs.declared.faults.RunFault.TheVariants.{CellsFull}
use Rattle.model.specs.declared.table.Entry.{Entry}
use Rattle.model.specs.declared.faults.RunFault.{RunFault}
use Rattle.model.specs.Person.{Event}
use Rattle.model.specs.Machine.{halts, goes, Machine, Went, stops, step}
use Rattle.model.specs.Promise.{Led, Each}
use Rattle.runs.specs.Runs.{Steps, still, moves}
use Rattle.faithful.proofs.Ideal.Runs.{Goes, no_step, step_then}
use Rattle.faithful.proofs.Ideal.Machine.{Ideal, at_of, crash, ideal_step, io_of, next, state, table}
use Rattle.faithful.proofs.Lockstep.Steps.{InStep, crash_outside, real, step_in_step}
use Rattle.faithful.proofs.Lockstep.Memory.{LaidOut, fill_of}
use Rattle.faithful.proofs.Placed.Entries.{SoundEntry}
use Rattle.faithful.proofs.Ideal.Events.{goes_later, step_later}

-- ── runs ────────────────────────────────────────────────────────────────────────────────────

pub steps_trans : {E : List Entry} {n k : ℕ} {a b c : Machine} {f g h : Meaning} → Steps E n a f b g →
    Steps E k b g c h → Steps E (n + k) a f c h
steps_trans {k} still s = rw zero-add s
steps_trans {k} (moves e r) s = rw suc-add (moves e (steps_trans r s))

-- the machine goes to one state at most, and where it stops or halts to none
pub same_next : {r : Went} {m m1 : Machine} {h h1 : Meaning} → r ≡ goes m h → r ≡ goes m1 h1 → (m ≡ m1) × (h ≡ h1)
same_next e w = (cc, cc)

pub no_next : {r : Went} {m : Machine} {h : Meaning} {k : RunFault} → r ≡ stops k → r ≡ goes m h → ⊥
no_next e w = true≢false cc

pub no_next_halted : {r : Went} {m : Machine} {h : Meaning} → r ≡ halts → r ≡ goes m h → ⊥
no_next_halted e w = true≢false cc

-- the rest of a run whose first step is known
pub run_on : {E : List Entry} {r : Went} {n : ℕ} {m1 m2 mx : Machine} {h1 h2 hx : Meaning} → r ≡ goes m1 h1 →
    r ≡ goes mx hx → Steps E n mx hx m2 h2 → Steps E n m1 h1 m2 h2
run_on {E} {n} {m1} {m2} {mx} {h1} {h2} e w g =
    let q = same_next w e in
    subst (λ v. Steps E n v h1 m2 h2) q.0 (subst (λ v. Steps E n mx v m2 h2) q.1 g)

-- ── where the machine stands when the ideal one stands so ───────────────────────────────────

abbrev pub machine_at : ℕ → Ideal → List ℤ → Machine
machine_at V (state i l h w) mem = real V i h mem

abbrev pub filled_at : ℕ → Ideal → ℕ
filled_at V (state i l h w) = fill_of V h

abbrev pub LaidAt : ℕ → ℕ → Ideal → List ℤ → Type 0
LaidAt V K (state i l h w) mem = LaidOut V K l h mem

laid_long : (V K : ℕ) (a : Ideal) (mem : List ℤ) → LaidAt V K a mem → length (machine_at V a mem).memory ≡ K
laid_long V K (state i l h w) mem m = m.long

-- ── the way to an outcome ───────────────────────────────────────────────────────────────────

-- the machine goes on from here; or it stops for want of cells, and has fewer than D of them
abbrev pub GoesOn : List Entry → ℕ → ℕ → Machine → Meaning → Type 0
GoesOn E K D m h =
    ((m1 : Machine) × (h1 : Meaning) × (step E m h ≡ goes m1 h1)) ⊎ ((step E m h ≡ stops CellsFull) × (K < D))

-- a state on the way, with K cells: what was taken and written since is a front of these events
pub record UnderWay (E : List Entry) (first : Meaning) (events : List Event) (K D : ℕ) (m : Machine)
    (h : Meaning) : Type 0 where
  pub long : length m.memory ≡ K
  pub front : (es : List Event) × (rest : List Event) × (events ≡ es ++ rest) × Led first es h
  pub goes_on : GoesOn E K D m h

-- a run of j steps that has passed z, where the ideal machine is after n; V cells more are within the bound even there
pub record Passed (E : List Entry) (V K D : ℕ) (first : Meaning) (z : Ideal) (n j : ℕ) (m : Machine)
    (h : Meaning) : Type 0 where
  pub memory : List ℤ
  pub more : ℕ
  pub count : j ≡ n + more
  pub laid : LaidAt V K z memory
  pub filled : filled_at V z + V ≤ D
  pub led : Led first (io_of z).events (io_of z).host
  pub path : Steps E more (machine_at V z memory) (io_of z).host m h

-- n times V: a step fills V cells at most
abbrev pub times : ℕ → ℕ → ℕ
times V zero = 0
times V (suc n) = times V n + V

module _ (E : List Entry) (V K : ℕ) (V1 : 1 ≤ V) (good : Each (SoundEntry V) E) (first : Meaning) (D : ℕ) where
  -- whence the ideal machine goes on, stops or halts, is an entry of the table
  pub within : (a : Ideal) → (ideal_step (table E) a ≡ crash → ⊥) → at_of a < length E
  within (state i l h w) f = at (dec_lt i (length E))
    where
      at : Dec (i < length E) → i < length E
      at (yes x) = x
      at (no x) = absurd (f (crash_outside E V K V1 good i l h w (omega arith)))

  goes_within : (a b : Ideal) → ideal_step (table E) a ≡ next b → at_of a < length E
  goes_within a b e = within a (λ w. true≢false cc)

  -- one ideal step is one step of the machine, or the cells do not suffice
  abbrev OneStep : Ideal → Ideal → List ℤ → Type 0
  OneStep a b mem =
      ((mem1 : List ℤ) × (step E (machine_at V a mem) (io_of a).host ≡ goes (machine_at V b mem1) (io_of b).host)
      × LaidAt V K b mem1 × (filled_at V b ≤ filled_at V a + V))
      ⊎ ((step E (machine_at V a mem) (io_of a).host ≡ stops CellsFull) × (K < filled_at V a + V))

  one_step : (a b : Ideal) (mem : List ℤ) → ideal_step (table E) a ≡ next b → at_of b < length E →
      LaidAt V K a mem → OneStep a b mem
  one_step (state i l h w) (state i1 l1 h1 w1) mem e lt m =
      subst (λ x. InStep (length E) V K (fill_of V h) x (step E (real V i h mem) w.host)) e
      (step_in_step E V K V1 good i l h w mem (goes_within (state i l h w) (state i1 l1 h1 w1) e) m) lt

  first_within : (k : ℕ) (b z : Ideal) → Goes (table E) k b z → at_of z < length E → at_of b < length E
  first_within k b z no_step ok = ok
  first_within k b z (step_then {b = c} e g) ok = goes_within b c e

  -- a run of the machine from a, where the ideal machine comes to z in n steps: it is on the way there, or has passed z
  pub along : (z : Ideal) (n : ℕ) (a : Ideal) → Goes (table E) n a z → at_of z < length E →
      filled_at V a + times V n + V ≤ D → Led first (io_of a).events (io_of a).host →
      (mem : List ℤ) (j : ℕ) (m1 : Machine) (h1 : Meaning) → LaidAt V K a mem →
      Steps E j (machine_at V a mem) (io_of a).host m1 h1 →
      ((j < n) × UnderWay E first (io_of z).events K D m1 h1) ⊎ Passed E V K D first z n j m1 h1
  along z n a no_step ok dep led mem j m1 h1 mm r = inr (record {
    memory = mem;
    more = j;
    count = sym (zero-add j);
    laid = mm;
    filled = omega arith;
    led = led;
    path = r;
  })
  along z n a (step_then {n = k} {b = b} e g) ok dep led mem j m1 h1 mm r =
      at j m1 h1 r (one_step a b mem e (first_within k b z g ok) mm)
      (λ db. along z k b g ok (omega arith) ((step_later first (table E) a b e).led led))
    where
      On : ℕ → ℕ → Machine → Meaning → Type 0
      On n j m1 h1 = ((j < n) × UnderWay E first (io_of z).events K D m1 h1) ⊎ Passed E V K D first z n j m1 h1

      goes_there : OneStep a b mem → GoesOn E K D (machine_at V a mem) (io_of a).host
      goes_there (inl y) = inl (machine_at V b y.0, (io_of b).host, y.1)
      goes_there (inr y) = inr (y.0, let v = y.1 in omega arith)

      one_more : (j1 : ℕ) (m1 : Machine) (h1 : Meaning) → On k j1 m1 h1 → On (suc k) (suc j1) m1 h1
      one_more j1 m1 h1 (inl x) = inl (let v = x.0 in omega arith, x.1)
      one_more j1 m1 h1 (inr x) = inr (record {
        memory = x.memory;
        more = x.more;
        count = omega (arith, x.count);
        laid = x.laid;
        filled = x.filled;
        led = x.led;
        path = x.path;
      })

      at : (j : ℕ) (m1 : Machine) (h1 : Meaning) → Steps E j (machine_at V a mem) (io_of a).host m1 h1 →
          OneStep a b mem →
          (filled_at V b ≤ filled_at V a + V → (mem1 : List ℤ) (j1 : ℕ) (m2 : Machine) (h2 : Meaning) →
          LaidAt V K b mem1 → Steps E j1 (machine_at V b mem1) (io_of b).host m2 h2 → On k j1 m2 h2) →
          On (suc k) j m1 h1
      at j m1 h1 still x ih =
          let w = goes_later first {a = a} (step_then e g) in
          inl (
            omega arith,
            record {
              long = laid_long V K a mem mm;
              front = ((io_of a).events, w.more.0, w.more.1, led);
              goes_on = goes_there x;
            },
          )
      at j m1 h1 (moves {k = j1} e1 r1) (inl y) ih =
          one_more j1 m1 h1 (ih y.3 y.0 j1 m1 h1 y.2 (run_on y.1 e1 r1))
      at j m1 h1 (moves e1 r1) (inr y) ih = absurd (no_next y.0 e1)
