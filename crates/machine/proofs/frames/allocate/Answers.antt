-- Cells on top of the filled ones are blanked, and those that are saved are copied there.
use Rattle.std.proofs.Common.{rules}
use Rattle.machine.proofs.Spans.{write_blanks, write_saves}
use Rattle.machine.proofs.frames.allocate.Goals as goal

pub returns-then-from-fill : goal.returns-then-from-fill
returns-then-from-fill c = search (rules, write_blanks)

pub returns-else-from-fill : goal.returns-else-from-fill
returns-else-from-fill c = search (rules, write_saves)
