-- Where the rules find each token.
use Rattle.reading.proofs.every_token_is_the_longest.Goals as goal
use Rattle.reading.proofs.Standing.{every_token_is_longest}

pub returns : goal.returns
returns c = every_token_is_longest
