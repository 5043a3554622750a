-- What falls from call to call: the tokens that are left, then how narrow the part is. What the loop keeps.
use Rattle.std.proofs.Common.{ℕ, ◌+◌, ◌*◌, Ok}
use Rattle.cursor.specs.Rests.{left}
use Rattle.expressions.specs.declared.operators.Row.{Row}
use Rattle.expressions.specs.declared.operators.Row.TheVariants.{Terms, Factors}
use Rattle.expressions.specs.Parts.{growing}
use Rattle.expressions.specs.Rows.{row_of}
use Rattle.expressions.specs.Says.{Translates}
use Rattle.expressions.proofs.Translation.+descent.Given as goal

-- how wide a row is
abbrev pub width : Row → ℕ
width Terms = 9
width Factors = 5

abbrev pub decreases-expression : goal.decreases-expression
decreases-expression l = 12 * left l.self.now.cursor.now + 11

abbrev pub decreases-row : goal.decreases-row
decreases-row l = 12 * left l.self.now.cursor.now + (width l.row + 1)

abbrev pub decreases-first : goal.decreases-first
decreases-first l = 12 * left l.self.now.cursor.now + width l.row

abbrev pub decreases-part : goal.decreases-part
decreases-part l = 12 * left l.self.now.cursor.now + width l.row

abbrev pub decreases-lead : goal.decreases-lead
decreases-lead l = 12 * left l.self.now.cursor.now + 8

abbrev pub decreases-signed : goal.decreases-signed
decreases-signed l = 12 * left l.self.now.cursor.now + 7

abbrev pub decreases-factor : goal.decreases-factor
decreases-factor l = 12 * left l.self.now.cursor.now + 4

abbrev pub decreases-bracket : goal.decreases-bracket
decreases-bracket l = 12 * left l.self.now.cursor.now + 2

abbrev pub decreases-denial : goal.decreases-denial
decreases-denial l = 12 * left l.self.now.cursor.now + 2

-- the row so far is one that may go on
abbrev pub invariant-row-loop-operator : goal.invariant-row-loop-operator
invariant-row-loop-operator l = Translates (row_of l.row) (growing (row_of l.row)) l.fn.self l.depth l.self (Ok l.left)

abbrev pub decreases-row-loop-operator : goal.decreases-row-loop-operator
decreases-row-loop-operator l = left l.self.cursor.now
