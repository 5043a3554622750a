-- By what they spell.
use Rattle.reading.proofs.words_are_reserved_exactly_when_listed.Goals as goal
use Rattle.reading.proofs.Spellings.{reserved_exactly_when_listed}

pub returns : goal.returns
returns c = reserved_exactly_when_listed
