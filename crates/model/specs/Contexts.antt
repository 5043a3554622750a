-- What is still open inside a block while its tokens are judged: the commands and expressions around the next token.
-- Assumes nothing.
use Rattle.std.specs.Prelude.{Bool, List, ℕ, suc}
use Rattle.std.proofs.Math.Option.{Option}
use Rattle.model.specs.declared.script.Ty.{Ty}
use Rattle.model.specs.declared.script.Operator.{Operator}
use Rattle.model.specs.Tree.{Found, Exp, Cmd}
use Rattle.model.specs.Names.{Kind, Scope}

-- where a command stands: in a body, behind the commands before it; in a `se`, with its condition and, behind `senao`,
-- its first command; or in a loop. Numbers are places
mutual
  pub data CommandIn : Type 0 where
    in_body : Option Cmd → BodyIn → CommandIn
    in_then : ℕ → Exp → CommandIn → CommandIn
    in_else : ℕ → Exp → Cmd → ℕ → CommandIn → CommandIn
    in_loop : ℕ → Exp → CommandIn → CommandIn

  pub data BodyIn : Type 0 where
    own : BodyIn
    inner : CommandIn → BodyIn

-- where an expression, a simple expression, a term and a factor stand; what is left of an operator comes with its type
mutual
  pub data ExpressionIn : Type 0 where
    bracketed : FactorIn → ExpressionIn
    assigned : ℕ → Found → Ty → CommandIn → ExpressionIn
    chosen : ℕ → CommandIn → ExpressionIn
    repeated : ℕ → CommandIn → ExpressionIn

  pub data SimpleIn : Type 0 where
    left_of : ExpressionIn → SimpleIn
    right_of : Exp → Ty → Operator → ℕ → ExpressionIn → SimpleIn

  pub data TermIn : Type 0 where
    first_term : SimpleIn → TermIn
    plus_term : SimpleIn → TermIn
    minus_term : ℕ → SimpleIn → TermIn
    next_term : Exp → Ty → Operator → ℕ → SimpleIn → TermIn

  pub data FactorIn : Type 0 where
    first_factor : TermIn → FactorIn
    next_factor : Exp → Ty → Operator → ℕ → TermIn → FactorIn
    denied_factor : ℕ → FactorIn → FactorIn

-- how many levels are open inside the block
abbrev mutual
  pub levels_of_command : CommandIn → ℕ
  levels_of_command (in_body c k) = suc (levels_of_body k)
  levels_of_command (in_then p x k) = suc (levels_of_command k)
  levels_of_command (in_else p x c q k) = suc (levels_of_command k)
  levels_of_command (in_loop p x k) = suc (levels_of_command k)

  pub levels_of_body : BodyIn → ℕ
  levels_of_body own = 0
  levels_of_body (inner k) = levels_of_command k

abbrev mutual
  pub levels_of_expression : ExpressionIn → ℕ
  levels_of_expression (bracketed k) = suc (levels_of_factor k)
  levels_of_expression (assigned p f t k) = levels_of_command k
  levels_of_expression (chosen p k) = suc (levels_of_command k)
  levels_of_expression (repeated p k) = suc (levels_of_command k)

  pub levels_of_simple : SimpleIn → ℕ
  levels_of_simple (left_of k) = levels_of_expression k
  levels_of_simple (right_of x t o p k) = levels_of_expression k

  pub levels_of_term : TermIn → ℕ
  levels_of_term (first_term k) = levels_of_simple k
  levels_of_term (plus_term k) = levels_of_simple k
  levels_of_term (minus_term p k) = levels_of_simple k
  levels_of_term (next_term x t o p k) = levels_of_simple k

  pub levels_of_factor : FactorIn → ℕ
  levels_of_factor (first_factor k) = levels_of_term k
  levels_of_factor (next_factor x t o p k) = levels_of_term k
  levels_of_factor (denied_factor p k) = suc (levels_of_factor k)

-- what the next token has to bring
pub data Focus : Type 0 where
  -- the program's head, and past its end
  want_programa : Focus
  want_title : Focus
  want_title_end : Focus
  want_period : Cmd → Focus
  -- declarations
  block_start : Focus
  want_variable : Focus
  past_variable : Focus
  want_variable_type : Focus
  want_group_end : Focus
  past_group : Focus
  past_routine : Focus
  want_procedure_name : ℕ → Focus
  want_function_name : ℕ → Focus
  want_function_colon : ℕ → List ℕ → Focus
  want_function_type : ℕ → List ℕ → Focus
  want_head_end : Focus
  want_routine_end : Cmd → Focus
  -- commands
  want_command : CommandIn → Focus
  past_name : ℕ → Kind → ℕ → Bool → CommandIn → Focus
  to_assign : ℕ → Found → Ty → CommandIn → Focus
  leia_open escreva_open : ℕ → CommandIn → Focus
  leia_name escreva_name : ℕ → CommandIn → Focus
  leia_close escreva_close : ℕ → ℕ → Found → CommandIn → Focus
  past_command : Cmd → CommandIn → Focus
  past_then : ℕ → Exp → Cmd → CommandIn → Focus
  past_commands : Cmd → BodyIn → Focus
  past_semicolon : Cmd → BodyIn → Focus
  -- expressions
  want_simple : SimpleIn → Focus
  want_factor : FactorIn → Focus
  past_factor : Exp → Ty → FactorIn → Focus
  past_term : Exp → Ty → TermIn → Focus
  past_simple : Exp → Ty → SimpleIn → Focus
  past_expression : Exp → Ty → ExpressionIn → Focus

pub record State : Type 0 where
  -- the open blocks, innermost first
  pub scopes : List Scope
  pub focus : Focus
