-- Rows of parts with operators between them. Assumes nothing.
use Rattle.std.proofs.Math.Option.{Option}
use Rattle.model.specs.declared.script.Operator.{Operator}
use Rattle.model.specs.Ahead.{Next, multiplying, adding}
use Rattle.expressions.specs.declared.operators.Row.{Row}
use Rattle.expressions.specs.declared.operators.Row.TheVariants.{Terms, Factors}
use Rattle.expressions.specs.Parts.{Part, simple, term, factor}

-- the part that the row is
abbrev pub row_of : Row → Part
row_of Terms = simple
row_of Factors = term

-- the parts that it is made of
abbrev pub part_of : Row → Part
part_of Terms = term
part_of Factors = factor

-- the operators between them
abbrev pub between : Row → Next → Option Operator
between Terms = adding
between Factors = multiplying
