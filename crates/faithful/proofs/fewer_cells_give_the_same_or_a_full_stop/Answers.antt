-- The law of faithful translation, with limited cells.
use Rattle.faithful.proofs.fewer_cells_give_the_same_or_a_full_stop.Goals as goal
use Rattle.faithful.proofs.Alike.{same_or_full}

pub returns : goal.returns
returns c = same_or_full
