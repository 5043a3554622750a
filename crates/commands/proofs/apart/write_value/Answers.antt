use Rattle.std.proofs.Common.{arith}
use Rattle.commands.specs.Runs.{wanted}
use Rattle.commands.proofs.Reading.{stands_of, runs_apart}
use Rattle.commands.proofs.apart.write_value.Goals as goal

pub returns-clause-says : goal.returns-clause-says
returns-clause-says c is os es s =
    runs_apart _ c.write_value.new.translation c.args.depth os es wanted _ _ _ (grind arith) (grind arith) ((c.write_value.ensures.translates is c.args.depth).says os es (stands_of _ c.write_value.new.translation c.args.depth os es s))

pub returns-clause-went : goal.returns-clause-went
returns-clause-went c is =
    let w = (c.write_value.ensures.translates is c.args.depth).went in
    grind arith
