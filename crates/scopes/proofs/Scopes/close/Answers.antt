-- The block's names are cut back, and its routine is left.
use Rattle.std.proofs.Common.{◌≡◌, ◌∷◌, ◌++◌, length, sym, ◌∙◌, append_assoc, arith}
use mathlib.Core.Option.{none, some}
use Rattle.pile.specs.Piles.{front}
use Rattle.scopes.specs.Records.{text_of, records_of}
use Rattle.scopes.specs.Levels.{ended}
use Rattle.scopes.proofs.Counting.{counted, older_part}
use Rattle.scopes.proofs.Turning.{cut_back}
use Rattle.scopes.proofs.Declaring.{carried, routine_closes}
use Rattle.scopes.proofs.Scopes.close.Goals as goal

pub returns-clause-closes : goal.returns-clause-closes
returns-clause-closes c =
    let s = c.args.self.now in
    let level = c.args.block.level in
    λ over i o os b x e.
    let n : level ≡ length x.outer = e ∙ sym (counted (text_of s) over (o ∷ os) x.outer (some i.scope.which) i.scope.first x.below) in
    let back = cut_back s.records c.cut.new.self level c.cut.result c.cut.ensures (omega (arith, n, counted (text_of s) over (i ∷ o ∷ os) (records_of s) none 0 x, e))
    ∙ older_part (front s.records) (x.top ++ x.own) x.outer level (x.parts ∙ sym (append_assoc x.top x.own x.outer)) n in
    let left = routine_closes (text_of s) over o os b x.outer i.scope.which i.scope.first x.below in
    carried (text_of s) _ over none 0 (ended o b ∷ os) _ _ c.leave.ensures.keeps.0 (c.leave.ensures.leaves left.head left.tail (back ∙ left.whole)) left.knows
