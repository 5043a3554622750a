-- On a tape of the values written, the bytes handed out are read as these values.
use Rattle.std.proofs.Common.{sym, ap, ◌∙◌}
use Rattle.host.specs.Tapes.{tape_meaning, fives_of, values_of}
use Rattle.host.proofs.Fives.{tape_values}
use Rattle.host.proofs.tapes.TapeHost.written.Goals as goal

pub returns-clause-means : goal.returns-clause-means
returns-clause-means c m = ap values_of m ∙ tape_values (tape_meaning c.args.self.now).written ∙ ap fives_of (sym m)
