-- By induction on the budget; each instruction does.
use Rattle.runs.proofs.Passing.{passed_on}
use Rattle.runs.proofs.a_run_takes_in_order_and_adds_at_the_end.Goals as goal

pub returns : goal.returns
returns c = passed_on
