-- The values on top are copied back.
use Rattle.std.proofs.Common.{rules}
use Rattle.machine.proofs.Spans.{write_copies}
use Rattle.machine.proofs.frames.release.Goals as goal

pub returns-else-to-left : goal.returns-else-to-left
returns-else-to-left c = search (rules, write_copies)
