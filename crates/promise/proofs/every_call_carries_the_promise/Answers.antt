-- The promise, on each call.
use Rattle.promise.proofs.every_call_carries_the_promise.Goals as goal
use Rattle.promise.proofs.Carrying.{carried}

pub returns : goal.returns
returns c = carried
