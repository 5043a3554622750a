-- Rule by rule.
use Rattle.grammar.proofs.a_script_fits_the_cells.Goals as goal
use Rattle.grammar.proofs.Cells.{cells_suffice}

pub returns : goal.returns
returns c = cells_suffice
