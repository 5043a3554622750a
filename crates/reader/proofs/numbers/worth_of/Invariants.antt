-- The digits to come, behind the worth so far, are worth what all digits are.
use Rattle.std.proofs.Common.{◌≡◌, ◌≤◌, drop}
use Rattle.model.specs.Reading.{worth}
use Rattle.reader.proofs.numbers.worth_of.Given as goal

abbrev pub invariant-loop-d : goal.invariant-loop-d
invariant-loop-d l = (worth 0 l.digits ≡ worth l.value (drop l.d-index l.digits)) × (l.value ≤ 2147483647)
