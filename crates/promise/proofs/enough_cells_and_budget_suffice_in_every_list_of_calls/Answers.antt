-- Enough cells and budget, in every list of calls.
use Rattle.promise.proofs.enough_cells_and_budget_suffice_in_every_list_of_calls.Goals as goal
use Rattle.promise.proofs.Plenty.{enough_in_every_list}

pub returns : goal.returns
returns c = enough_in_every_list
