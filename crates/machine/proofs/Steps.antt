-- An instruction that was carried out on the cells is a step of the machine.
use Rattle.std.proofs.Common.{◌≡◌, ℕ, ℤ, Ok, Err, Result, refl}
use Rattle.host.specs.Meaning.{Meaning}
use Rattle.pile.specs.declared.Pile.{Pile}
use Rattle.model.specs.declared.script.Operator.{Operator}
use Rattle.model.specs.declared.script.Operator.TheVariants as Operators
use Rattle.model.specs.declared.table.Entry.{Entry}
use Rattle.model.specs.declared.faults.RunFault.{RunFault}
use Rattle.model.specs.Machine.{Now, Went, two}
use Rattle.machine.specs.declared.run.Flow.{Flow}
use Rattle.machine.specs.Carried.{seen, Done, onward, Stepped}
use Rattle.model.specs.Code.{op_code}
use Rattle.machine.specs.Ops.{instruction}

-- the codes of two operands
pub instruction_two : (o : Operator) → instruction (op_code o) ≡ two o
instruction_two Operators.Add = refl
instruction_two Operators.Sub = refl
instruction_two Operators.Mult = refl
instruction_two Operators.Divi = refl
instruction_two Operators.And = refl
instruction_two Operators.Or = refl
instruction_two Operators.Less = refl
instruction_two Operators.Greater = refl
instruction_two Operators.Equal = refl
instruction_two Operators.Unequal = refl
instruction_two Operators.AtMost = refl
instruction_two Operators.AtLeast = refl

-- what goes on to the next entry, or stops
pub done_steps : (f : Now → Went) (p q : Pile ℤ) (at k : ℕ) (h : Meaning) (e : Entry) (d : Result (Unit {0}) RunFault) (r : Result Flow RunFault) → Done f p e d q → r ≡ onward at d → Stepped (f (seen p at h e k)) p h r q h
done_steps f p q at k h e (Ok _) r does on = rw on (does.0 at k h, does.1)
done_steps f p q at k h e (Err x) r does on = rw on (does.0 at k h, does.1, refl)
