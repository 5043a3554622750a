-- No run stops by a fault of the table's.
use Rattle.faithful.proofs.no_run_meets_an_unsound_table.Goals as goal
use Rattle.faithful.proofs.Alike.{never_unsound}

pub returns : goal.returns
returns c = never_unsound
