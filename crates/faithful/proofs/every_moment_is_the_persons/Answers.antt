-- Every moment of a run, beside the person.
use Rattle.faithful.proofs.every_moment_is_the_persons.Goals as goal
use Rattle.faithful.proofs.Alike.{every_moment}

pub returns : goal.returns
returns c = every_moment
