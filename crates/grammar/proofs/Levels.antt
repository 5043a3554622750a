-- How many levels are open in all at each place, counted so that they compute, and that the judge counts the same.
use Rattle.std.proofs.Common.{◌≡◌, ℕ, suc, pred, ◌+◌, List, length, arith, le-leb}
use Rattle.model.specs.declared.faults.GrammarFault.TheVariants.{TooDeep}
use Rattle.model.specs.declared.faults.Cause.TheVariants as Causes
use Rattle.model.specs.Names.{Scope}
use Rattle.model.specs.Contexts.{CommandIn, in_body, in_then, in_else, in_loop, BodyIn, own, inner, ExpressionIn}
use Rattle.model.specs.Contexts.{bracketed, assigned, chosen, repeated, SimpleIn, left_of, right_of, TermIn, first_term}
use Rattle.model.specs.Contexts.{plus_term, minus_term, next_term, FactorIn, first_factor, next_factor, denied_factor}
use Rattle.model.specs.Contexts.{levels_of_command, levels_of_body, levels_of_expression, levels_of_simple}
use Rattle.model.specs.Contexts.{levels_of_term, levels_of_factor}
use Rattle.model.specs.Judged.{Judged, deeper, refuses}
use Rattle.model.specs.Grammar.{Deep}
use Rattle.grammar.proofs.Choosing.{choose_true}

-- how many levels the open blocks are: each but the program's
abbrev pub around : List Scope → ℕ
around cs = pred (length cs)

-- where m levels are open around the block's body
abbrev mutual
  pub command_depth : ℕ → CommandIn → ℕ
  command_depth m (in_body c k) = suc (body_depth m k)
  command_depth m (in_then p x k) = suc (command_depth m k)
  command_depth m (in_else p x c q k) = suc (command_depth m k)
  command_depth m (in_loop p x k) = suc (command_depth m k)

  pub body_depth : ℕ → BodyIn → ℕ
  body_depth m own = m
  body_depth m (inner k) = command_depth m k

abbrev mutual
  pub expression_depth : ℕ → ExpressionIn → ℕ
  expression_depth m (bracketed k) = suc (factor_depth m k)
  expression_depth m (assigned p f t k) = command_depth m k
  expression_depth m (chosen p k) = suc (command_depth m k)
  expression_depth m (repeated p k) = suc (command_depth m k)

  pub simple_depth : ℕ → SimpleIn → ℕ
  simple_depth m (left_of k) = expression_depth m k
  simple_depth m (right_of x t o p k) = expression_depth m k

  pub term_depth : ℕ → TermIn → ℕ
  term_depth m (first_term k) = simple_depth m k
  term_depth m (plus_term k) = simple_depth m k
  term_depth m (minus_term p k) = simple_depth m k
  term_depth m (next_term x t o p k) = simple_depth m k

  pub factor_depth : ℕ → FactorIn → ℕ
  factor_depth m (first_factor k) = term_depth m k
  factor_depth m (next_factor x t o p k) = term_depth m k
  factor_depth m (denied_factor p k) = suc (factor_depth m k)

-- ── as the judge counts ─────────────────────────────────────────────────────────────────────

mutual
  pub command_depth_is : (m : ℕ) (k : CommandIn) → command_depth m k ≡ m + levels_of_command k
  command_depth_is m (in_body c k) = omega (arith, body_depth_is m k)
  command_depth_is m (in_then p x k) = omega (arith, command_depth_is m k)
  command_depth_is m (in_else p x c q k) = omega (arith, command_depth_is m k)
  command_depth_is m (in_loop p x k) = omega (arith, command_depth_is m k)

  pub body_depth_is : (m : ℕ) (k : BodyIn) → body_depth m k ≡ m + levels_of_body k
  body_depth_is m own = omega arith
  body_depth_is m (inner k) = command_depth_is m k

mutual
  pub expression_depth_is : (m : ℕ) (k : ExpressionIn) → expression_depth m k ≡ m + levels_of_expression k
  expression_depth_is m (bracketed k) = omega (arith, factor_depth_is m k)
  expression_depth_is m (assigned p f t k) = command_depth_is m k
  expression_depth_is m (chosen p k) = omega (arith, command_depth_is m k)
  expression_depth_is m (repeated p k) = omega (arith, command_depth_is m k)

  pub simple_depth_is : (m : ℕ) (k : SimpleIn) → simple_depth m k ≡ m + levels_of_simple k
  simple_depth_is m (left_of k) = expression_depth_is m k
  simple_depth_is m (right_of x t o p k) = expression_depth_is m k

  pub term_depth_is : (m : ℕ) (k : TermIn) → term_depth m k ≡ m + levels_of_term k
  term_depth_is m (first_term k) = simple_depth_is m k
  term_depth_is m (plus_term k) = simple_depth_is m k
  term_depth_is m (minus_term p k) = simple_depth_is m k
  term_depth_is m (next_term x t o p k) = simple_depth_is m k

  pub factor_depth_is : (m : ℕ) (k : FactorIn) → factor_depth m k ≡ m + levels_of_factor k
  factor_depth_is m (first_factor k) = term_depth_is m k
  factor_depth_is m (next_factor x t o p k) = term_depth_is m k
  factor_depth_is m (denied_factor p k) = omega (arith, factor_depth_is m k)

pub deeper_admits :
    (cs : List Scope) (n l : ℕ) (j : Judged) → l ≡ around cs + n → Deep l → deeper cs n j ≡ j
deeper_admits cs n l j e h =
    choose_true j (refuses (Causes.Grammar TooDeep)) (le-leb (suc (around cs + n)) 64 (omega arith))
