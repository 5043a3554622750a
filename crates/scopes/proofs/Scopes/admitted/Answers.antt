-- A name that the block has, no record left, no cell left, in this order.
use Rattle.std.proofs.Common.{is_some, sym, ap, ◌∙◌, arith, length-take}
use Rattle.std.proofs.lemmas.Bool.{leb-true, leb-false}
use Rattle.model.specs.Judged.{refuses}
use Rattle.pile.specs.Piles.{front}
use Rattle.scopes.proofs.Counting.{twice, full, many, admitted}
use Rattle.scopes.proofs.Scopes.admitted.Goals as goal

pub returns-then-is_some : goal.returns-then-is_some
returns-then-is_some c =
    λ over o os x e j. twice _ _ over _ _ o os (front c.args.self.now.records) _ x e j (c.if-is_some.ensures ∙ ap is_some c.newest.ensures) ∙ ap refuses (sym c.from.ensures)

pub returns-then-is_full : goal.returns-then-is_full
returns-then-is_full c =
    let p = c.args.self.now.records in
    λ over o os x e j.
    full _ _ over _ _ o os (front p) _ x e j (c.if-is_some.ensures ∙ ap is_some c.newest.ensures) (omega (arith, length-take p.fill p.cells.now, leb-true _ _ (sym c.if-is_full.ensures)))
    ∙ ap refuses (sym c.from-then-is_full.ensures)

pub returns-then-cell-gt-CELLS : goal.returns-then-cell-gt-CELLS
returns-then-cell-gt-CELLS c =
    let p = c.args.self.now.records in
    λ over o os x e j.
    many _ _ over _ _ o os (front p) _ x e j (c.if-is_some.ensures ∙ ap is_some c.newest.ensures) (omega (arith, length-take p.fill p.cells.now, leb-false _ _ (sym c.if-is_full.ensures))) c.if-cell-gt-CELLS.true
    ∙ ap refuses (sym c.from-then-cell-gt-CELLS.ensures)

pub returns : goal.returns
returns c =
    let p = c.args.self.now.records in
    λ over o os x e j.
    admitted _ _ over _ _ o os (front p) _ x e j (c.if-is_some.ensures ∙ ap is_some c.newest.ensures) (omega (arith, length-take p.fill p.cells.now, leb-false _ _ (sym c.if-is_full.ensures))) c.if-cell-gt-CELLS.false
