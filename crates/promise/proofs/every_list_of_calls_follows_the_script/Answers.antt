-- The promise.
use Rattle.promise.proofs.every_list_of_calls_follows_the_script.Goals as goal
use Rattle.promise.proofs.Promised.{promised}

pub returns : goal.returns
returns c = promised
