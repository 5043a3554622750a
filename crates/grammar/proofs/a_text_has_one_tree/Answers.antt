-- The judge answers once.
use Rattle.grammar.proofs.a_text_has_one_tree.Goals as goal
use Rattle.grammar.proofs.OneTree.{one_tree}

pub returns : goal.returns
returns c = one_tree
