-- A text is one script, however many names there may be: the grammar gives it one tree.
use Rattle.grammar.proofs.OneTree.{one_tree}
use Rattle.grammar.proofs.Sound.Texts.{accepted_is_admitted}
use Rattle.faithful.specs.Faithful.{OneScript}

pub one_script : OneScript
one_script text a b (room, accepted) (other, again) =
    one_tree room other text a b (accepted_is_admitted room text a accepted) (accepted_is_admitted other text b again)
