-- Behind a name, before any other token than `:=`.
use Rattle.std.proofs.Common.{◌≡◌, [], ◌∷◌, ◌++◌, Some, sym, refl, ap, ◌∙◌, subst, length-append}
use Rattle.model.specs.declared.table.Entry.{Entry}
use Rattle.model.specs.Tree
use Rattle.model.specs.Names.{a_procedure, Seen}
use Rattle.model.specs.Contexts.{past_name}
use Rattle.model.specs.Settling.{settle, settle_command}
use Rattle.model.specs.Code.{entry, begin_of}
use Rattle.model.specs.Codes.{CALL}
use Rattle.cursor.specs.Rests.{ahead_of}
use Rattle.expressions.specs.Says.{here, laid_at}
use Rattle.expressions.proofs.Single.{relisted}
use Rattle.expressions.proofs.Uses.{procedure_seen}
use Rattle.commands.specs.Runs.{Comes}
use Rattle.commands.proofs.Coming.{begun, then_same}
use Rattle.commands.proofs.Setting.{calls}
use Rattle.commands.proofs.leading.invoke.Goals as goal

pub returns-clause-says : goal.returns-clause-says
returns-clause-says c =
    let b = c.args.translation.now in
    let p = c.args.place in
    λ n os es d st m.
    let a = here b n os es in
    let v = procedure_seen (laid_at a) b.listing.now.over c.args.known (Some c.args.known) _ m refl c.in-Procedure.is in
    let f : Tree.Found = record { hops = v.hops; index = v.index } in
    let r : Seen = record { kind = a_procedure v.index; hops = v.hops; inside = v.inside } in
    let e : d ≡ r = cc in
    let x = entry CALL c.args.known.entry 0 p in
    let call : Entry = entry CALL (begin_of (laid_at a) f) 0 p in
    record {
      cmd = Tree.invoke p f;
      lists = relisted c.lay.new.self.listing.now (es ++ (x ∷ [])) (es ++ (call ∷ [])) (length-append es (x ∷ []) ∙ sym (length-append es (call ∷ []))) (
          λ o. ap (λ i. es ++ (entry CALL i 0 p ∷ [])) (v.entry (c.lay.ensures.kept.table.2 o))) (c.lay.ensures.lists es st.lists);
      comes = subst (Comes (λ k t. settle t (past_name p d.kind d.hops d.inside k)) a (λ k t. settle_command t (Tree.invoke p f) k)) (sym c.lay.ensures.still) (then_same (begun (λ k t. settle t (past_name p d.kind d.hops d.inside k)) a) (λ k t. settle_command t (Tree.invoke p f) k) (λ k. ap (λ s. settle (ahead_of b.cursor.now) (past_name p s.kind s.hops s.inside k)) e ∙ calls (ahead_of b.cursor.now) p k c.requires v.index v.hops v.inside));
    }
