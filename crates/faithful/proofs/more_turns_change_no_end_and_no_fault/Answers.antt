-- More turns.
use Rattle.faithful.proofs.more_turns_change_no_end_and_no_fault.Goals as goal
use Rattle.faithful.proofs.Following.MoreTurns.{more_turns}

pub returns : goal.returns
returns c = more_turns
