-- One digit more is ten times the worth and the digit; more digits never make it less.
use Rattle.std.proofs.Common.{arith}
use Rattle.reader.proofs.Fronts.{worth_past}
use Rattle.reader.proofs.numbers.worth_of.Goals as goal

pub returns-then-value-gt-GREATEST : goal.returns-then-value-gt-GREATEST
returns-then-value-gt-GREATEST c = omega (arith, c.loop-d.invariant.0, worth_past c.args.digits.now c.loop-d.d-index c.loop-d.value (omega arith))
