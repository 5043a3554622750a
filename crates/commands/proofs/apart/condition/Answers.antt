use Rattle.std.proofs.Common.{arith}
use Rattle.commands.proofs.Reading.{stands_of, tests_apart}
use Rattle.commands.proofs.apart.condition.Goals as goal

pub returns-clause-says : goal.returns-clause-says
returns-clause-says c w p n os es word inside s =
    tests_apart _ c.condition.new.translation n os es w p _ _ _ (grind arith) (grind arith) (c.condition.ensures.says w p n os es word inside (stands_of _ c.condition.new.translation n os es s))
