-- The newest records get the type.
use Rattle.std.proofs.Common.{◌≡◌, ◌∷◌, ◌++◌, length, refl, arith, rules}
use mathlib.Core.Option.{none}
use Rattle.pile.specs.Piles.{Updated}
use Rattle.scopes.specs.Records.{text_of, records_of, with_type}
use Rattle.scopes.specs.Levels.{grouped}
use Rattle.scopes.proofs.Counting.{settled_length}
use Rattle.scopes.proofs.Declaring.{carried, group_typed}
use Rattle.scopes.proofs.Typing.{same_room, newest_made}
use Rattle.scopes.proofs.Scopes.give_type.Goals as goal

typed : (c : goal.After-update) → Updated c.args.self.now.records c.args.from (with_type c.args.ty) c.update.new.self
typed c = c.update.ensures.updated (with_type c.args.ty) (λ known made k. search (rules, k))

pub returns-clause-gives : goal.returns-clause-gives
returns-clause-gives c = λ over o os x e.
    let text = text_of c.args.self.now in
    let records = records_of c.args.self.now in
    let l : c.args.from ≡ length (x.own ++ x.outer) = omega (arith, settled_length text over o os records none 0 x, e) in
    carried text _ over none 0 (grouped o c.args.ty ∷ os) _ _ refl (newest_made c.args.self.now.records c.update.new.self c.args.from (with_type c.args.ty) (typed c) x.top (x.own ++ x.outer) x.parts l)
    (group_typed text over c.args.ty o os records x)

pub returns-clause-keeps : goal.returns-clause-keeps
returns-clause-keeps c = (refl, same_room c.args.self.now.records c.update.new.self c.args.from (with_type c.args.ty) (typed c), (typed c).3)
