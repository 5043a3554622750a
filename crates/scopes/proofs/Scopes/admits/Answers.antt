-- What the judge says, and the fault at its place.
use Rattle.std.proofs.Common.{◌∙◌, rules}
use Rattle.scopes.proofs.Scopes.admits.Goals as goal

pub returns-clause-declares : goal.returns-clause-declares
returns-clause-declares c = λ over o os x e j. c.admitted.ensures over o os x e j ∙ search rules
