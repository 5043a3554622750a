-- Enough cells and budget, from the start.
use Rattle.promise.proofs.enough_cells_and_budget_suffice.Goals as goal
use Rattle.promise.proofs.Plenty.{enough}

pub returns : goal.returns
returns c = enough
