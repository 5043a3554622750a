-- By induction on the budget, and on the steps.
use Rattle.runs.proofs.Telling.{told_exactly}
use Rattle.runs.proofs.a_run_tells_what_its_steps_came_to.Goals as goal

pub returns : goal.returns
returns c = told_exactly
