-- Rule by rule.
use Rattle.grammar.proofs.more_room_keeps_the_tree.Goals as goal
use Rattle.grammar.proofs.MoreRoom.{more_room_suffices}

pub returns : goal.returns
returns c = more_room_suffices
