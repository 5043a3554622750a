use Rattle.std.proofs.Common.{arith}
use Rattle.commands.specs.Runs.{wanted}
use Rattle.commands.proofs.Reading.{stands_of, runs_apart}
use Rattle.commands.proofs.apart.named.Goals as goal

pub returns-clause-says : goal.returns-clause-says
returns-clause-says c is os es s =
    runs_apart _ c.named.new.translation c.args.depth os es wanted _ _ _ (grind arith) (grind arith) ((c.named.ensures.translates is).says os es (stands_of _ c.named.new.translation c.args.depth os es s))
