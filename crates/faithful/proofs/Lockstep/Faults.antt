-- The faults that person and machine have in common.
use mathlib.Core.Bool.{Bool, false, true}
use Prim.Native.Nat.{◌≤◌}
use native.Mathlib.Omega.{arith}
use lib.IntN.{ℤ, pos, ◌+ℤ◌, ◌-ℤ◌, ◌*ℤ◌}
use lib.Signed.{quot_z}
use Rattle.model.specs.declared.script.Operator.{Operator}
use Rattle.model.specs.declared.faults.RunFault.TheVariants.{ZeroDivisor, NoValue}
use Rattle.model.specs.declared.script.Operator.TheVariants as Operators
use Rattle.model.specs.Values.{Result, value, fails, combine, eqZ, held, truth, quotient, is_value}
use Rattle.model.specs.Numbers.{run_number}

-- a value, or a fault that the person can come to as well
abbrev pub Shared : Result → Type 0
Shared (value v) = Unit {0}
Shared (fails k) = run_number k ≤ 63

pub shared_held : (z : ℤ) → Shared (held z)
shared_held z = at (is_value z)
  where
    at : (b : Bool) → Shared (elim b [ true ↦ value z | false ↦ fails NoValue ])
    at true = tt
    at false = omega arith

shared_truth : (b : Bool) → Shared (truth b)
shared_truth true = tt
shared_truth false = tt

shared_quotient : (x y : ℤ) → Shared (quotient x y)
shared_quotient x y = at (eqZ y (pos 0))
  where
    at : (b : Bool) → Shared (elim b [ true ↦ fails ZeroDivisor | false ↦ held (quot_z x y) ])
    at true = omega arith
    at false = shared_held (quot_z x y)

shared_unequal : (b : Bool) → Shared (elim b [ true ↦ value (pos 0) | false ↦ value (pos 1) ])
shared_unequal true = tt
shared_unequal false = tt

-- every operator
pub shared : (o : Operator) (x y : ℤ) → Shared (combine o x y)
shared Operators.Add x y = shared_held (x +ℤ y)
shared Operators.Sub x y = shared_held (x -ℤ y)
shared Operators.Mult x y = shared_held (x *ℤ y)
shared Operators.Divi x y = shared_quotient x y
shared Operators.And x y = shared_truth _
shared Operators.Or x y = shared_truth _
shared Operators.Less x y = shared_truth _
shared Operators.Greater x y = shared_truth _
shared Operators.Equal x y = shared_truth _
shared Operators.Unequal x y = shared_unequal (eqZ x y)
shared Operators.AtMost x y = shared_truth _
shared Operators.AtLeast x y = shared_truth _
