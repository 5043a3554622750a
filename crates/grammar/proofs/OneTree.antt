-- The judge answers once, so what the grammar admits is one tree.
use Rattle.std.proofs.Common.{◌+◌, sym, ◌∙◌, arith}
use Rattle.grammar.specs.Trees.{OneTree}
use Rattle.grammar.proofs.Streams.{accepted_is_one}
use Rattle.grammar.proofs.Complete.Texts.{admitted_is_accepted}
use Rattle.grammar.proofs.MoreRoom.{more_room_suffices}

pub one_tree : OneTree
one_tree room other text a b h i =
    accepted_is_one (
    sym (admitted_is_accepted (room + other) text a (more_room_suffices room (room + other) text a (omega arith) h))
    ∙ admitted_is_accepted (room + other) text b (more_room_suffices other (room + other) text b (omega arith) i)
    )
