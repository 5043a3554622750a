-- They are read as one.
use Rattle.reading.proofs.bytes_spell_one_token.Goals as goal
use Rattle.reading.proofs.Spellings.{one_token, spelled_looks}

pub returns : goal.returns
returns c = (one_token, λ s t. spelled_looks)
