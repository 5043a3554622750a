-- A text is one script.
use Rattle.faithful.proofs.a_text_is_one_script.Goals as goal
use Rattle.faithful.proofs.Scoped.OneScript.{one_script}

pub returns : goal.returns
returns c = one_script
