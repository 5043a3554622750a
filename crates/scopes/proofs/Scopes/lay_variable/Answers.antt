-- The record stands for a variable that waits.
use Rattle.std.proofs.Common.{◌∷◌}
use Rattle.scopes.specs.Records.{text_of, records_of}
use Rattle.scopes.specs.Levels.{waited}
use Rattle.scopes.proofs.Declaring.{one_more, as_spelled, one_waits}
use Rattle.scopes.proofs.Scopes.lay_variable.Goals as goal

pub returns-clause-waits : goal.returns-clause-waits
returns-clause-waits c =
    let s = c.args.self.now in
    λ over o os x sp room cell.
    one_more s c.lay.new.self _ over o os (waited o c.args.name.now ∷ os) x room c.lay.ensures.lays c.lay.ensures.keeps (
    one_waits (text_of s) over o os (records_of s) c.args.name.now _ x (as_spelled (text_of s) _ _ _ sp c.length_of.ensures) cell)
