-- Both directions.
use Rattle.grammar.proofs.judge_accepts_exactly_the_grammar.Goals as goal
use Rattle.grammar.proofs.Complete.Texts.{admitted_is_accepted}
use Rattle.grammar.proofs.Sound.Texts.{accepted_is_admitted}

pub returns : goal.returns
returns c = λ room text b. (accepted_is_admitted room text b, admitted_is_accepted room text b)
