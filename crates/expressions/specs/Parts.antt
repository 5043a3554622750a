-- The four kinds of parts of an expression: where they stand, what is wanted before one, and what the judge makes of one
-- that may go on and of one that is whole. Assumes nothing.
use Rattle.std.specs.Prelude.{ℕ, true, false, Some, None, Option as Maybe}
use Rattle.model.specs.declared.script.Ty.{Ty}
use Rattle.model.specs.declared.script.Operator.{Operator}
use Rattle.model.specs.declared.faults.MeaningFault.TheVariants.{WrongType}
use Rattle.model.specs.Tree.{Exp, joined}
use Rattle.model.specs.Ahead.{Next, present}
use Rattle.model.specs.Ahead.{comparing}
use Rattle.model.specs.Types.{takes, fitting, giving}
use Rattle.model.specs.Contexts.{ExpressionIn, SimpleIn, left_of, right_of, TermIn, FactorIn, first_factor, Focus, want_simple, want_factor, past_simple, levels_of_expression, levels_of_simple, levels_of_term, levels_of_factor}
use Rattle.model.specs.Settling.{Settled, at, wrong, settle_expression, settle_simple, end_term, settle_term, settle_factor}

pub data Part : Type 0 where
  expression simple term factor : Part

-- where a part stands
abbrev pub In : Part → Type 0
In expression = ExpressionIn
In simple = SimpleIn
In term = TermIn
In factor = FactorIn

abbrev pub levels_in : (p : Part) → In p → ℕ
levels_in expression k = levels_of_expression k
levels_in simple k = levels_of_simple k
levels_in term k = levels_of_term k
levels_in factor k = levels_of_factor k

abbrev pub wants : (p : Part) → In p → Focus
wants expression k = want_simple (left_of k)
wants simple k = want_simple k
wants term k = want_factor (first_factor k)
wants factor k = want_factor k

-- a simple expression that no further term follows
abbrev pub end_simple : Next → Exp → Ty → SimpleIn → Settled
end_simple t x y (left_of k) =
    elim (present (comparing t)) [ true ↦ at (past_simple x y (left_of k)) | false ↦ settle_expression t x y k ]
end_simple t x y (right_of l z o p k) =
    elim (fitting (takes o) z y) [ true ↦ settle_expression t (joined o p l x) (giving (takes o)) k | false ↦ wrong WrongType ]

-- a part that may go on
abbrev pub growing : (p : Part) → Exp → Ty → In p → Next → Settled
growing expression x y k t = end_simple t x y (left_of k)
growing simple x y k t = settle_simple t x y k
growing term x y k t = settle_term t x y k
growing factor x y k t = settle_factor t x y k

-- a part that is whole
abbrev pub whole : (p : Part) → Exp → Ty → In p → Next → Settled
whole expression x y k t = settle_expression t x y k
whole simple x y k t = end_simple t x y k
whole term x y k t = end_term t x y k
whole factor x y k t = settle_factor t x y k

-- what an operator yields between operands of these types, if they fit
abbrev pub yields : Operator → Ty → Ty → Maybe Ty
yields o y z = elim (fitting (takes o) y z) [ true ↦ Some (giving (takes o)) | false ↦ None ]
