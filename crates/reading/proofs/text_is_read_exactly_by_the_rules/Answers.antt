-- Both directions.
use Rattle.std.proofs.Common.{subst}
use Rattle.reading.proofs.text_is_read_exactly_by_the_rules.Goals as goal
use Rattle.reading.specs.Rules.{ReadAs}
use Rattle.reading.proofs.FromReader.Texts.{every_text_is_read_by_the_rules}
use Rattle.reading.proofs.FromRules.Texts.{what_the_rules_say_is_read}

pub returns : goal.returns
returns c = λ text s. (
  λ e. subst (λ z. ReadAs 0 text z) e (every_text_is_read_by_the_rules text),
  what_the_rules_say_is_read text s,
)
