-- After k turns the first k places of the span hold x.
use Rattle.std.proofs.Common.{◌≡◌}
use Rattle.pile.specs.Piles.{blanked}
use Rattle.pile.proofs.spans.blank.Given as goal

abbrev pub invariant-loop-cell : goal.invariant-loop-cell
invariant-loop-cell g l = l.span ≡ blanked l.initial.span 0 l.cell-index l.x
