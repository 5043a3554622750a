-- Each turn blanks one place more.
use Rattle.std.proofs.Common.{◌≡◌, ℕ, ◌+◌, ◌<◌, List, length, set, sym, ap, ◌∙◌, arith}
use Rattle.std.proofs.lemmas.List.Edits.{fill_from_more}
use Rattle.pile.specs.Piles.{blanked}
use Rattle.pile.proofs.spans.blank.Goals as goal

blank_more : {A : Type 0} (xs : List A) (k : ℕ) (x : A) → k < length xs → set (blanked xs 0 k x) k x ≡ blanked xs 0 (k + 1) x
blank_more xs k x h =
    let e : 0 + k ≡ k = omega arith in
    ap (λ i. set (blanked xs 0 k x) i x) (sym e) ∙ fill_from_more xs 0 k x (omega arith)

pub loop-cell-preserved : goal.loop-cell-preserved
loop-cell-preserved g c = rw c.loop-cell.invariant (blank_more _ c.loop-cell.cell-index c.args.x (omega arith))
