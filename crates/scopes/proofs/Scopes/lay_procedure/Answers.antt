-- The record stands for a procedure, seen from inside its block.
use Rattle.std.proofs.Common.{◌+◌, true, ◌∷◌, refl}
use Rattle.scopes.specs.declared.names.Name.{Name}
use Rattle.model.specs.declared.names.NameKind.TheVariants.{Procedure}
use Rattle.model.specs.Names.{a_procedure}
use Rattle.model.specs.Tree.{procedure}
use Rattle.scopes.specs.Records.{text_of, records_of}
use Rattle.scopes.specs.Levels.{entered, named}
use Rattle.scopes.proofs.Declaring.{one_more, as_spelled, routine_opens, procedure_stands}
use Rattle.scopes.proofs.Scopes.lay_procedure.Goals as goal

pub returns-clause-opens : goal.returns-clause-opens
returns-clause-opens c =
    let s = c.args.self.now in
    let n : Name = record { place = c.args.place; length = c.length_of.result; kind = Procedure; cell = 0; entry = c.args.entry; inside = true } in
    λ over o os p e x sp room calm entry.
    one_more s c.lay.new.self _ over o os (entered o p procedure 0 ∷ named o c.args.name.now (a_procedure o.scope.count) e ∷ os) x room c.lay.ensures.lays c.lay.ensures.keeps (
    routine_opens (text_of s) over o os (records_of s) c.args.name.now n (a_procedure o.scope.count) p procedure 0 e x (as_spelled (text_of s) _ _ _ sp c.length_of.ensures) calm refl (
    procedure_stands (text_of s) over n o.scope.first o.scope.count e (o.scope.first + o.scope.cells) o.begins x.begun refl entry))
