-- The newest record is that of the innermost declaration.
use Rattle.std.proofs.Common.{sym, subst}
use Rattle.model.specs.Names.{visible}
use Rattle.scopes.specs.Levels.{scopes_of, laid_of_all, Matches}
use Rattle.scopes.proofs.Seeing.{visible_matches}
use Rattle.scopes.proofs.Scopes.look_up.Goals as goal

pub returns-clause-matches : goal.returns-clause-matches
returns-clause-matches c =
    λ over os x calm. subst (λ m. Matches (laid_of_all os) over m (visible c.args.name.now (scopes_of os))) (sym c.newest.ensures) (visible_matches c.args.self.now.text.now c.args.name.now over os _ x calm)
