-- The types of operators and their operands. Assumes nothing.
use Rattle.std.specs.Prelude.{Bool, true, false, ◌&&◌, not}
use Rattle.model.specs.declared.script.Operator.{Operator}
use Rattle.model.specs.declared.script.Operator.TheVariants as Operators
use Rattle.model.specs.declared.script.Ty.{Ty}
use Rattle.model.specs.declared.script.Ty.TheVariants.{Inteiro, Booleano}

abbrev pub is_inteiro : Ty → Bool
is_inteiro Inteiro = true
is_inteiro Booleano = false

abbrev pub same_type : Ty → Ty → Bool
same_type Inteiro t = is_inteiro t
same_type Booleano t = not (is_inteiro t)

-- what an operator takes: two of inteiro, two of booleano, or two of one type
pub data Takes : Type 0 where
  numbers truths alike : Takes

abbrev pub takes : Operator → Takes
takes Operators.Add = numbers
takes Operators.Sub = numbers
takes Operators.Mult = numbers
takes Operators.Divi = numbers
takes Operators.And = truths
takes Operators.Or = truths
takes Operators.Less = alike
takes Operators.Greater = alike
takes Operators.Equal = alike
takes Operators.Unequal = alike
takes Operators.AtMost = alike
takes Operators.AtLeast = alike

-- whether the types of its left and right operands fit
abbrev pub fitting : Takes → Ty → Ty → Bool
fitting numbers t u = is_inteiro t && is_inteiro u
fitting truths t u = not (is_inteiro t) && not (is_inteiro u)
fitting alike t u = same_type t u

-- what it yields
abbrev pub giving : Takes → Ty
giving numbers = Inteiro
giving truths = Booleano
giving alike = Booleano
