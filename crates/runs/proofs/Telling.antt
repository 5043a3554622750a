-- What a run tells and leaves is what its steps come to, and nothing else is.
use mathlib.Core.List.{List}
use mathlib.Core.Path.{◌≡◌, refl, sym, ◌∙◌, ap, subst}
use Prim.Native.Nat.{ℕ, zero, suc, ◌+◌, ◌-◌, ◌<◌}
use native.Mathlib.Nat.{zero-add, suc-add, add-zero}
use native.Mathlib.Omega.{arith}
use lib.ListN.{get_or}
use Rattle.host.specs.Meaning.{Meaning}
use Rattle.model.specs.declared.table.Entry.{Entry}
use Rattle.model.specs.declared.told.Told.{Told}
use Rattle.model.specs.declared.told.Told.TheVariants.{Ended, Stopped, Running}
use Rattle.model.specs.Machine.{Machine, Went, goes, halts, stops, step, After, settle, run, advanced, no_entry}
use Rattle.runs.specs.Runs.{Steps, still, moves, Tells, ToldExactly}

-- ── from the run to its steps ───────────────────────────────────────────────────────────────

-- what is told at m, with a budget of n, after k steps and then j more
abbrev pub Telling : List Entry → ℕ → ℕ → ℕ → Machine → Meaning → Told → Type 0
Telling E n k j m h (Running i) = (j ≡ n) × (i ≡ k + j)
Telling E n k j m h (Ended i) = (j < n) × (step E m h ≡ halts) × (i ≡ k + suc j)
Telling E n k j m h (Stopped f e p i) =
    (j < n) × (step E m h ≡ stops f) × (e ≡ m.at) × (p ≡ (get_or E m.at no_entry).place) × (i ≡ k + j)

-- what is told of the state m, whatever the budget: the step that follows, and for a stop the entry and its place
abbrev pub ToldAt : List Entry → Machine → Meaning → Told → Type 0
ToldAt E m h (Running i) = Unit {0}
ToldAt E m h (Ended i) = step E m h ≡ halts
ToldAt E m h (Stopped f e p i) = (step E m h ≡ stops f) × (e ≡ m.at) × (p ≡ (get_or E m.at no_entry).place)

pub told_at : (E : List Entry) (n k j : ℕ) (m : Machine) (h : Meaning) (t : Told) → Telling E n k j m h t →
    ToldAt E m h t
told_at E n k j m h (Running i) x = tt
told_at E n k j m h (Ended i) x = x.1
told_at E n k j m h (Stopped f e p i) x = (x.1, x.2, x.3)

-- a run with a budget of n, which k steps precede
pub record Ran (E : List Entry) (n k : ℕ) (m : Machine) (h : Meaning) (a : After) : Type 0 where
  pub count : ℕ
  pub path : Steps E count m h a.machine a.host
  pub telling : Telling E n k count a.machine a.host a.told

one_later : (E : List Entry) (n k j : ℕ) (m : Machine) (h : Meaning) (t : Told) → Telling E n (suc k) j m h t →
    Telling E (suc n) k (suc j) m h t
one_later E n k j m h (Running i) e = let x = e.1 in (ap suc e.0, omega arith)
one_later E n k j m h (Ended i) e = let x = e.2 in let y = e.0 in (omega arith, e.1, omega arith)
one_later E n k j m h (Stopped f i p s) e = let x = e.4 in let y = e.0 in (omega arith, e.1, e.2, e.3, omega arith)

ran_after : (n : ℕ) (E : List Entry) (k : ℕ) (m : Machine) (h : Meaning) → Ran E n k m h (run n E k m h)
ran_after zero E k m h = record { count = 0; path = still; telling = (refl, omega arith) }
ran_after (suc n) E k m h = at (step E m h) refl (ran_after n E)
  where
    at : (w : Went) → step E m h ≡ w → ((k : ℕ) (m : Machine) (h : Meaning) → Ran E n k m h (run n E k m h)) →
        Ran E (suc n) k m h (settle (run n E) E k m h w)
    at (goes m1 h1) e ih =
        let x = ih (suc k) m1 h1 in
        let a : After = run n E (suc k) m1 h1 in
        record {
          count = suc x.count;
          path = moves e x.path;
          telling = one_later E n k x.count a.machine a.host a.told x.telling;
        }
    at halts e ih = record { count = 0; path = still; telling = (omega arith, e, omega arith) }
    at (stops f) e ih = record { count = 0; path = still; telling = (omega arith, e, refl, refl, omega arith) }

pub ran : (n : ℕ) (E : List Entry) (m : Machine) (h : Meaning) → Ran E n 0 m h (advanced n E m h)
ran n E m h = ran_after n E 0 m h

-- ── from the steps to the run ───────────────────────────────────────────────────────────────

-- a run whose first step is known
first : (b s : ℕ) (es : List Entry) (m : Machine) (h : Meaning) (w : Went) → step es m h ≡ w → run (suc b) es s m h ≡ settle (run b es) es s m h w
first b s es m h w e = ap (settle (run b es) es s m h) e

-- a run that has the budget for some steps goes through them
through : {es : List Entry} {j : ℕ} {m n : Machine} {h g : Meaning} → Steps es j m h n g → (b s : ℕ) → run (j + b) es s m h ≡ run b es (j + s) n g
through {es} {m} {h} still b s = ap (λ k. run k es s m h) (zero-add b) ∙ ap (λ k. run b es k m h) (sym (zero-add s))
through {es} {n} {g} (moves {k} {m} {l} {h} {i} e on) b s =
    let counted : k + suc s ≡ suc k + s = omega arith in
    ap (λ x. run x es s m h) (suc-add k b) ∙ first (k + b) s es m h (goes l i) e ∙ through on b (suc s) ∙ ap (λ x. run b es x n g) counted

-- what one step more is tried behind
through_to : {es : List Entry} {j : ℕ} {m n : Machine} {h g : Meaning} (b : ℕ) (w : Went) → Steps es j m h n g → j < b → step es n g ≡ w → run b es 0 m h ≡ settle (run (b - suc j) es) es (j + 0) n g w
through_to {es} {j} {m} {n} {h} {g} b w on lt e =
    let long : b ≡ j + suc (b - suc j) = omega (arith, lt) in
    ap (λ x. run x es 0 m h) long ∙ through on (suc (b - suc j)) 0 ∙ first (b - suc j) (j + 0) es n g w e

steps_told : (b : ℕ) (es : List Entry) (m : Machine) (h : Meaning) (t : Told) (n : Machine) (g : Meaning) → Tells b es m h t n g → run b es 0 m h ≡ record { told = t; machine = n; host = g }
steps_told b es m h (Running k) n g (c, on) =
    let all : b + 0 ≡ k = omega (arith, c) in
    ap (λ x. run x es 0 m h) (sym (add-zero b)) ∙ through on 0 0 ∙ ap (λ x. record { told = Running x; machine = n; host = g }) all
steps_told b es m h (Ended k) n g (j, c, lt, on, end) =
    let all : suc (j + 0) ≡ k = omega (arith, c) in
    through_to b halts on lt end ∙ ap (λ x. record { told = Ended x; machine = n; host = g }) all
steps_told b es m h (Stopped f i p k) n g (lt, on, end, is, place) =
    through_to b (stops f) on lt end ∙ ap (λ x. record { told = Stopped f n.at (get_or es n.at no_entry).place x; machine = n; host = g }) (add-zero k)
    ∙ (rw (is, place) refl)

-- ── both ways ───────────────────────────────────────────────────────────────────────────────

told_steps : (b : ℕ) (es : List Entry) (m : Machine) (h : Meaning) (t : Told) (n : Machine) (g : Meaning) (j : ℕ) → Steps es j m h n g → Telling es b 0 j n g t → Tells b es m h t n g
told_steps b es m h (Running k) n g j on (all, c) = (omega (arith, all, c), subst (λ x. Steps es x m h n g) all on)
told_steps b es m h (Ended k) n g j on (lt, end, c) = (j, omega (arith, c), lt, on, end)
told_steps b es m h (Stopped f i p k) n g j on (lt, end, is, place, c) =
    let e : k ≡ j = omega (arith, c) in
    rw e (lt, on, end, is, place)

run_told : (b : ℕ) (es : List Entry) (m : Machine) (h : Meaning) (a : After) → Ran es b 0 m h a → Tells b es m h a.told a.machine a.host
run_told b es m h a r = told_steps b es m h a.told a.machine a.host r.count r.path r.telling

pub told_exactly : ToldExactly
told_exactly b es m h t n g =
    (λ e. run_told b es m h (record { told = t; machine = n; host = g }) (subst (Ran es b 0 m h) e (ran b es m h)), steps_told b es m h t n g)
