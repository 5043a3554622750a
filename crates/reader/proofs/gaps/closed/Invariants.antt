-- From where the loop is, the comment ends where it does from its start.
use Rattle.std.proofs.Common.{◌≡◌, ℕ, drop}
use Rattle.model.specs.Reading.{comment}
use Rattle.reader.proofs.gaps.closed.Given as goal

abbrev pub invariant-loop-at : goal.invariant-loop-at
invariant-loop-at l = (o : ℕ) → comment o l.from (drop l.from l.text) ≡ comment o l.at (drop l.at l.text)
