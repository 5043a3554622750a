-- Block by block.
use Rattle.grammar.proofs.names_find_their_innermost_declaration.Goals as goal
use Rattle.grammar.proofs.Finding.{found_by_rules, declared_by_rules}

pub returns : goal.returns
returns c = (found_by_rules, declared_by_rules)
