-- The law of faithful translation.
use Rattle.faithful.proofs.table_does_what_the_person_does.Goals as goal
use Rattle.faithful.proofs.Alike.{faithful}

pub returns : goal.returns
returns c = faithful
