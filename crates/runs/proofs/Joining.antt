-- A run with two budgets, one after the other, is the run with their sum.
use mathlib.Core.List.{List}
use mathlib.Core.Path.{◌≡◌, refl, sym, ◌∙◌, ap}
use native.Mathlib.Nat.{zero-add, suc-add, add-zero, add-suc}
use Prim.Native.Nat.{ℕ, zero, suc, ◌+◌}
use Rattle.host.specs.Meaning.{Meaning}
use Rattle.model.specs.declared.table.Entry.{Entry}
use Rattle.model.specs.declared.told.Told.{Told}
use Rattle.model.specs.declared.told.Told.TheVariants.{Ended, Stopped, Running}
use Rattle.model.specs.Machine.{Machine, Went, goes, halts, stops, step, After, settle, run, advanced}
use Rattle.runs.specs.Runs.{later, resumed, Joined}

-- ── steps that were made before are only counted ────────────────────────────────────────────

abbrev counted : ℕ → After → After
counted k a = record { told = later k a.told; machine = a.machine; host = a.host }

settle_counted : (k s b : ℕ) (es : List Entry) (m : Machine) (h : Meaning) (w : Went) → ((l : Machine) (i : Meaning) → run b es (k + suc s) l i ≡ counted k (run b es (suc s) l i)) → settle (run b es) es (k + s) m h w ≡ counted k (settle (run b es) es s m h w)
settle_counted k s b es m h (goes l i) after = ap (λ n. run b es n l i) (sym (add-suc k s)) ∙ after l i
settle_counted k s b es m h halts after = ap (λ n. record { told = Ended n; machine = m; host = h }) (sym (add-suc k s))
settle_counted k s b es m h (stops f) after = refl

run_counted : (b k s : ℕ) (es : List Entry) (m : Machine) (h : Meaning) → run b es (k + s) m h ≡ counted k (run b es s m h)
run_counted zero k s es m h = refl
run_counted (suc b) k s es m h = settle_counted k s b es m h (step es m h) (run_counted b k (suc s) es)

-- ── the two parts ───────────────────────────────────────────────────────────────────────────

-- the second part, as the first tells
abbrev second : List Entry → ℕ → Told → After → After
second es b (Running k) a = run b es k a.machine a.host
second es b (Ended k) a = a
second es b (Stopped f i p k) a = a

settle_split : (a b s : ℕ) (es : List Entry) (m : Machine) (h : Meaning) (w : Went) → ((l : Machine) (i : Meaning) → run (a + b) es (suc s) l i ≡ second es b (run a es (suc s) l i).told (run a es (suc s) l i)) → settle (run (a + b) es) es s m h w ≡ second es b (settle (run a es) es s m h w).told (settle (run a es) es s m h w)
settle_split a b s es m h (goes l i) after = after l i
settle_split a b s es m h halts after = refl
settle_split a b s es m h (stops f) after = refl

run_split : (a b s : ℕ) (es : List Entry) (m : Machine) (h : Meaning) → run (a + b) es s m h ≡ second es b (run a es s m h).told (run a es s m h)
run_split zero b s es m h = ap (λ n. run n es s m h) (zero-add b)
run_split (suc a) b s es m h =
    ap (λ n. run n es s m h) (suc-add a b) ∙ settle_split a b s es m h (step es m h) (run_split a b (suc s) es)

second_resumes : (es : List Entry) (b : ℕ) (t : Told) (a : After) → second es b t a ≡ resumed es b t a
second_resumes es b (Running k) a =
    ap (λ n. run b es n a.machine a.host) (sym (add-zero k)) ∙ run_counted b k 0 es a.machine a.host
second_resumes es b (Ended k) a = refl
second_resumes es b (Stopped f i p k) a = refl

pub joined : Joined
joined a b es m h = run_split a b 0 es m h ∙ second_resumes es b (advanced a es m h).told (advanced a es m h)
