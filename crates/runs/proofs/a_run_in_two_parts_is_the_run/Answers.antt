-- By induction on the first budget.
use Rattle.runs.proofs.Joining.{joined}
use Rattle.runs.proofs.a_run_in_two_parts_is_the_run.Goals as goal

pub returns : goal.returns
returns c = joined
