-- Runs of the ideal machine.
use mathlib.Core.Path.{◌≡◌, ap}
use mathlib.Core.List.{List}
use Prim.Native.Nat.{ℕ, zero, suc, ◌+◌}
use native.Mathlib.Nat.{zero-add, suc-add}
use lib.IntN.{ℤ}
use Rattle.model.specs.declared.table.Entry.{Entry}
use Rattle.faithful.proofs.Ideal.Machine.{Table, Cells, Io, Ideal, state, next, ideal_step, perform}

pub data Goes (T : Table) : ℕ → Ideal → Ideal → Type 0 where
  no_step : {a : Ideal} → Goes T zero a a
  step_then : {n : ℕ} {a b c : Ideal} → ideal_step T a ≡ next b → Goes T n b c → Goes T (suc n) a c

pub goes_trans : {T : Table} {n m : ℕ} {a b c : Ideal} → Goes T n a b → Goes T m b c → Goes T (n + m) a c
goes_trans {m} no_step s = rw zero-add s
goes_trans {m} (step_then {n} e r) s = rw suc-add (step_then e (goes_trans r s))

pub goes_one : {T : Table} {a b : Ideal} → ideal_step T a ≡ next b → Goes T 1 a b
goes_one e = step_then e no_step

-- an entry at hand is executed
pub step_at : (T : Table) {e : Entry} (q : ℕ) (l : Cells) (h : List ℤ) (o : Io) → T q ≡ e →
    ideal_step T (state q l h o) ≡ perform e (state q l h o)
step_at T q l h o eq = ap (λ e. perform e (state q l h o)) eq
