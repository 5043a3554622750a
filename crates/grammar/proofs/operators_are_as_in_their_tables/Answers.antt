-- Question by question, operator by operator.
use Rattle.grammar.proofs.operators_are_as_in_their_tables.Goals as goal
use Rattle.grammar.proofs.Questions.{tokens_told}
use Rattle.grammar.proofs.OneType.{types_told}

pub returns : goal.returns
returns c = (tokens_told, types_told)
