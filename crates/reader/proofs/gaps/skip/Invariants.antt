-- From where the loop is, the gap ends where it does from its start.
use Rattle.std.proofs.Common.{◌≡◌, ◌-◌, ◌≤◌, length, drop}
use Rattle.model.specs.Reading.{skip}
use Rattle.reader.proofs.gaps.skip.Given as goal

abbrev pub invariant-loop-at : goal.invariant-loop-at
invariant-loop-at l = (skip l.from (drop l.from l.text) ≡ skip l.at (drop l.at l.text)) × (l.from ≤ l.at) × (l.at ≤ length l.text)

abbrev pub decreases-loop-at : goal.decreases-loop-at
decreases-loop-at l = length l.text - l.at
