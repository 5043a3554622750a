-- After k turns the first k places of the span hold what the closure may make of what stood; the rest is as it was.
use Rattle.std.proofs.Common.{◌≡◌, take, drop}
use Rattle.std.specs.List.{AllZip}
use Rattle.pile.proofs.Pile.update.Given as goal

abbrev pub invariant-loop-cell : goal.invariant-loop-cell
invariant-loop-cell g l =
    AllZip (goal.F-post g l.f) (take l.cell-index l.initial.span) (take l.cell-index l.span)
    × (drop l.cell-index l.span ≡ drop l.cell-index l.initial.span)
