-- What a run comes to, in terms of its steps. Assumes nothing.
use Rattle.std.specs.Prelude.{List, ◌++◌, ◌≡◌, ℕ, zero, suc, ◌+◌, ◌<◌, ℤ, length, get_or}
use Rattle.host.specs.Meaning.{Meaning}
use Rattle.model.specs.declared.table.Entry.{Entry}
use Rattle.model.specs.declared.told.Told.{Told}
use Rattle.model.specs.declared.told.Told.TheVariants.{Ended, Stopped, Running}
use Rattle.model.specs.Machine.{Machine, goes, halts, stops, step, After, advanced, no_entry}

-- ── what a run tells ────────────────────────────────────────────────────────────────────────

-- from m and h, k steps are carried out, each of them goes on, and the last leaves n and g
pub data Steps (es : List Entry) : ℕ → Machine → Meaning → Machine → Meaning → Type 0 where
  still : {m : Machine} {h : Meaning} → Steps es zero m h m h
  moves : {k : ℕ} {m l n : Machine} {h i g : Meaning} → step es m h ≡ goes l i → Steps es k l i n g → Steps es (suc k) m h n g

-- running: all of the budget b went on; ended: the last step of those told halts; stopped: behind those told, one
-- cannot be carried out, the fault, the entry and its place are its own
abbrev pub Tells : ℕ → List Entry → Machine → Meaning → Told → Machine → Meaning → Type 0
Tells b es m h (Running k) n g = (k ≡ b) × Steps es b m h n g
Tells b es m h (Ended k) n g = (j : ℕ) × (k ≡ suc j) × (j < b) × Steps es j m h n g × (step es n g ≡ halts)
Tells b es m h (Stopped f i p k) n g =
    (k < b) × Steps es k m h n g × (step es n g ≡ stops f) × (i ≡ n.at) × (p ≡ (get_or es n.at no_entry).place)

-- what a run tells and leaves is what its steps come to, and nothing else is
abbrev pub ToldExactly : Type 0
ToldExactly =
    (b : ℕ) (es : List Entry) (m : Machine) (h : Meaning) (t : Told) (n : Machine) (g : Meaning)
    → (advanced b es m h ≡ record { told = t; machine = n; host = g } → Tells b es m h t n g)
    × (Tells b es m h t n g → advanced b es m h ≡ record { told = t; machine = n; host = g })

-- ── a run in two parts ──────────────────────────────────────────────────────────────────────

-- what is told after k steps that were told before
abbrev pub later : ℕ → Told → Told
later k (Running n) = Running (k + n)
later k (Ended n) = Ended (k + n)
later k (Stopped f i p n) = Stopped f i p (k + n)

-- a run that is still running goes on with a budget b; one that is not stays as it is
abbrev pub resumed : List Entry → ℕ → Told → After → After
resumed es b (Running k) a =
    let then = advanced b es a.machine a.host in
    record { told = later k then.told; machine = then.machine; host = then.host }
resumed es b (Ended k) a = a
resumed es b (Stopped f i p k) a = a

abbrev pub Joined : Type 0
Joined =
    (a b : ℕ) (es : List Entry) (m : Machine) (h : Meaning)
    → advanced (a + b) es m h ≡ resumed es b (advanced a es m h).told (advanced a es m h)

-- ── what a run does to its host ─────────────────────────────────────────────────────────────

-- from h to g some values are taken from the front, and some are added at the end, for which there was room
abbrev pub Passed : Meaning → Meaning → Type 0
Passed h g =
    (taken : List ℤ) × (added : List ℤ)
    × (h.waiting ≡ taken ++ g.waiting) × (g.written ≡ h.written ++ added) × (h.room ≡ length added + g.room)

abbrev pub PassedOn : Type 0
PassedOn = (b : ℕ) (es : List Entry) (m : Machine) (h : Meaning) → Passed h (advanced b es m h).host
