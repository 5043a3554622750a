-- Behind a name, before `:=`.
use Rattle.std.proofs.Common.{◌≡◌, pred, Some, sym, refl, ap, ◌∙◌}
use Rattle.model.specs.Tree
use Rattle.model.specs.Names.{a_variable, a_function, Seen}
use Rattle.model.specs.Contexts.{past_name, to_assign}
use Rattle.model.specs.Settling.{at, settle}
use Rattle.cursor.specs.Rests.{ahead_of}
use Rattle.expressions.specs.Says.{here, laid_at}
use Rattle.expressions.proofs.Uses.{variable_seen, function_seen}
use Rattle.commands.proofs.Coming.{from_start}
use Rattle.commands.proofs.Setting.{sets_variable, sets_result}
use Rattle.commands.proofs.leading.set.Goals as goal

pub returns-in-Variable-clause-says : goal.returns-in-Variable-clause-says
returns-in-Variable-clause-says c =
    let b = c.args.translation.now in
    let p = c.args.place in
    let y = c.in-Variable.ty in
    λ os es d st m.
    let a = here b c.args.depth os es in
    let v = variable_seen (laid_at a) b.listing.now.over c.args.known (Some c.args.known) _ m refl y c.in-Variable.is in
    let f : Tree.Found = record { hops = v.hops; index = v.index } in
    let r : Seen = record { kind = a_variable y v.index; hops = v.hops; inside = v.inside } in
    let e : d ≡ r = cc in
    from_start (λ k t. settle t (past_name p d.kind d.hops d.inside k)) (λ k t. at (to_assign p f y k)) a (λ k. ap (λ s. settle (ahead_of b.cursor.now) (past_name p s.kind s.hops s.inside k)) e ∙ sets_variable (ahead_of b.cursor.now) p k c.requires y v.index v.hops v.inside) _ c.assign.result (c.assign.ensures.says f os es st v.cell)

pub returns-in-Function-clause-says : goal.returns-in-Function-clause-says
returns-in-Function-clause-says c =
    let b = c.args.translation.now in
    let p = c.args.place in
    let y = c.in-Function.ty in
    λ os es d st m.
    let a = here b c.args.depth os es in
    let v = function_seen (laid_at a) b.listing.now.over c.args.known (Some c.args.known) _ m refl y c.in-Function.is in
    let f : Tree.Found = record { hops = pred v.hops; index = 0 } in
    let r : Seen = record { kind = a_function y v.index; hops = v.hops; inside = v.inside } in
    let e : d ≡ r = cc in
    let i = sym v.within ∙ c.if-known.true in
    from_start (λ k t. settle t (past_name p d.kind d.hops d.inside k)) (λ k t. at (to_assign p f y k)) a (λ k. ap (λ s. settle (ahead_of b.cursor.now) (past_name p s.kind s.hops s.inside k)) e ∙ sets_result (ahead_of b.cursor.now) p k c.requires y v.index v.hops v.inside i) _ c.assign-in-Function.result (c.assign-in-Function.ensures.says f os es st (v.cell i))
