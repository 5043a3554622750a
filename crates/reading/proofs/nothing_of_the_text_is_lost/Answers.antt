-- The parts that the rules find.
use Rattle.reading.proofs.nothing_of_the_text_is_lost.Goals as goal
use Rattle.reading.proofs.Parts.{nothing_lost}

pub returns : goal.returns
returns c = nothing_lost
