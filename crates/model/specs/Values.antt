-- Values, and what operators do to them. Assumes nothing.
use Rattle.std.specs.Prelude.{Bool, true, false, ◌&&◌, ◌||◌, ℤ, pos, negsuc, neg_ℤ, ◌+ℤ◌, ◌-ℤ◌, ◌*ℤ◌}
use Rattle.std.specs.Int.Signed.{lt_z, le_z, quot_z}
use Rattle.model.specs.declared.script.Operator.{Operator}
use Rattle.model.specs.declared.script.Operator.TheVariants as Operators
use Rattle.model.specs.declared.faults.RunFault.{RunFault}
use Rattle.model.specs.declared.faults.RunFault.TheVariants.{ZeroDivisor, NoValue}

-- a value, or the fault in its place
pub data Result : Type 0 where
  value : ℤ → Result
  fails : RunFault → Result

-- from −2,147,483,648 to 2,147,483,647
abbrev pub is_value : ℤ → Bool
is_value z = le_z (negsuc 2147483647) z && le_z z (pos 2147483647)

abbrev pub held : ℤ → Result
held z = elim (is_value z) [ true ↦ value z | false ↦ fails NoValue ]

-- falso is 0, verdadeiro 1
abbrev pub truth : Bool → Result
truth true = value (pos 1)
truth false = value (pos 0)

abbrev pub eqZ : ℤ → ℤ → Bool
eqZ x y = le_z x y && le_z y x

-- the fraction is dropped
abbrev pub quotient : ℤ → ℤ → Result
quotient x y = elim (eqZ y (pos 0)) [ true ↦ fails ZeroDivisor | false ↦ held (quot_z x y) ]

-- an operator on its left and its right operand
abbrev pub combine : Operator → ℤ → ℤ → Result
combine Operators.Add x y = held (x +ℤ y)
combine Operators.Sub x y = held (x -ℤ y)
combine Operators.Mult x y = held (x *ℤ y)
combine Operators.Divi x y = quotient x y
combine Operators.And x y = truth (eqZ x (pos 1) && eqZ y (pos 1))
combine Operators.Or x y = truth (eqZ x (pos 1) || eqZ y (pos 1))
combine Operators.Less x y = truth (lt_z x y)
combine Operators.Greater x y = truth (lt_z y x)
combine Operators.Equal x y = truth (eqZ x y)
combine Operators.Unequal x y = elim (eqZ x y) [ true ↦ value (pos 0) | false ↦ value (pos 1) ]
combine Operators.AtMost x y = truth (le_z x y)
combine Operators.AtLeast x y = truth (le_z y x)

-- a minus sign
abbrev pub invert : ℤ → Result
invert x = held (neg_ℤ x)

-- `nao`
abbrev pub deny : ℤ → Result
deny x = held (pos 1 -ℤ x)
