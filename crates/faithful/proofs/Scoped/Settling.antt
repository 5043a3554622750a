-- What is open around the next token is well scoped, and stays so as parts end before the token.
use mathlib.Core.Path.{refl}
use mathlib.Core.Bool.{Bool, true, false, ◌||◌}
use mathlib.Core.List.{List}
use mathlib.Core.Option.{Option, none, some}
use Prim.Native.Nat.{ℕ}
use Rattle.model.specs.declared.faults.MeaningFault.TheVariants.{WrongType}
use Rattle.model.specs.declared.script.Ty.{Ty}
use Rattle.model.specs.declared.tokens.Word.TheVariants as Words
use Rattle.model.specs.declared.tokens.Sign.TheVariants as Signs
use Rattle.model.specs.Tree.{Exp, Cmd, negated, denied, joined, assign, invoke, se_senao}
use Rattle.model.specs.Names.{Kind, a_variable, a_procedure, a_function}
use Rattle.model.specs.Contexts.{Focus, CommandIn, in_body, in_then, in_else, in_loop, BodyIn, own, inner, ExpressionIn, bracketed, assigned, chosen, repeated, SimpleIn, left_of, right_of, TermIn, first_term, plus_term, minus_term, next_term, FactorIn, first_factor, next_factor, denied_factor, want_programa, want_title, want_title_end, want_period, block_start, want_variable, past_variable, want_variable_type, want_group_end, past_group, past_routine, want_procedure_name, want_function_name, want_function_colon, want_function_type, want_head_end, want_routine_end, want_command, past_name, to_assign, leia_open, escreva_open, leia_name, escreva_name, leia_close, escreva_close, past_command, past_then, past_commands, past_semicolon, want_simple, want_factor, past_factor, past_term, past_simple, past_expression}
use Rattle.model.specs.Ahead.{Next, is_word, is_sign, present}
use Rattle.model.specs.Ahead.{multiplying, adding, comparing}
use Rattle.model.specs.Types.{is_inteiro, same_type, takes, fitting, giving}
use Rattle.model.specs.Settling.{Settled, wrong, settle_command, settle_expression, settle_simple, end_term, settle_term, settle_factor, to_set, to_call, at, settle}
use Rattle.model.specs.Tree
use Rattle.faithful.proofs.Scoped.Trees.{Declared, VariableKnown, ExpScoped, CmdScoped}
use Rattle.faithful.proofs.Scoped.OpenBlocks.{KindSeen, Inside}

-- ── what is open ────────────────────────────────────────────────────────────────────────────

abbrev pub SomeCmdScoped : List Declared → Option Cmd → Type 0
SomeCmdScoped Δ none = Unit {0}
SomeCmdScoped Δ (some c) = CmdScoped Δ c

abbrev mutual
  pub CommandInScoped : List Declared → CommandIn → Type 0
  CommandInScoped Δ (in_body c k) = SomeCmdScoped Δ c × BodyInScoped Δ k
  CommandInScoped Δ (in_then p x k) = ExpScoped Δ x × CommandInScoped Δ k
  CommandInScoped Δ (in_else p x c q k) = ExpScoped Δ x × CmdScoped Δ c × CommandInScoped Δ k
  CommandInScoped Δ (in_loop p x k) = ExpScoped Δ x × CommandInScoped Δ k

  pub BodyInScoped : List Declared → BodyIn → Type 0
  BodyInScoped Δ own = Unit {0}
  BodyInScoped Δ (inner k) = CommandInScoped Δ k

abbrev mutual
  pub ExpressionInScoped : List Declared → ExpressionIn → Type 0
  ExpressionInScoped Δ (bracketed k) = FactorInScoped Δ k
  ExpressionInScoped Δ (assigned p f t k) = VariableKnown Δ f.hops f.index × CommandInScoped Δ k
  ExpressionInScoped Δ (chosen p k) = CommandInScoped Δ k
  ExpressionInScoped Δ (repeated p k) = CommandInScoped Δ k

  pub SimpleInScoped : List Declared → SimpleIn → Type 0
  SimpleInScoped Δ (left_of k) = ExpressionInScoped Δ k
  SimpleInScoped Δ (right_of x t o p k) = ExpScoped Δ x × ExpressionInScoped Δ k

  pub TermInScoped : List Declared → TermIn → Type 0
  TermInScoped Δ (first_term k) = SimpleInScoped Δ k
  TermInScoped Δ (plus_term k) = SimpleInScoped Δ k
  TermInScoped Δ (minus_term p k) = SimpleInScoped Δ k
  TermInScoped Δ (next_term x t o p k) = ExpScoped Δ x × SimpleInScoped Δ k

  pub FactorInScoped : List Declared → FactorIn → Type 0
  FactorInScoped Δ (first_factor k) = TermInScoped Δ k
  FactorInScoped Δ (next_factor x t o p k) = ExpScoped Δ x × TermInScoped Δ k
  FactorInScoped Δ (denied_factor p k) = FactorInScoped Δ k

-- what the judge holds for the next token is well scoped; nr: the innermost block has no routine yet; one: it is the
-- program's
abbrev pub FocusScoped : List Declared → Type 0 → Type 0 → Focus → Type 0
FocusScoped Δ nr one want_programa = Unit {0}
FocusScoped Δ nr one want_title = nr
FocusScoped Δ nr one want_title_end = nr
FocusScoped Δ nr one (want_period c) = CmdScoped Δ c × one
FocusScoped Δ nr one block_start = nr
FocusScoped Δ nr one want_variable = nr
FocusScoped Δ nr one past_variable = nr
FocusScoped Δ nr one want_variable_type = nr
FocusScoped Δ nr one want_group_end = nr
FocusScoped Δ nr one past_group = nr
FocusScoped Δ nr one past_routine = Unit {0}
FocusScoped Δ nr one (want_procedure_name p) = Unit {0}
FocusScoped Δ nr one (want_function_name p) = Unit {0}
FocusScoped Δ nr one (want_function_colon p s) = Unit {0}
FocusScoped Δ nr one (want_function_type p s) = Unit {0}
FocusScoped Δ nr one want_head_end = nr
FocusScoped Δ nr one (want_routine_end c) = CmdScoped Δ c
FocusScoped Δ nr one (want_command k) = CommandInScoped Δ k
FocusScoped Δ nr one (past_name p d h i k) = KindSeen Δ h d × Inside Δ h d i × CommandInScoped Δ k
FocusScoped Δ nr one (to_assign p f y k) = VariableKnown Δ f.hops f.index × CommandInScoped Δ k
FocusScoped Δ nr one (leia_open p k) = CommandInScoped Δ k
FocusScoped Δ nr one (escreva_open p k) = CommandInScoped Δ k
FocusScoped Δ nr one (leia_name p k) = CommandInScoped Δ k
FocusScoped Δ nr one (escreva_name p k) = CommandInScoped Δ k
FocusScoped Δ nr one (leia_close p q f k) = VariableKnown Δ f.hops f.index × CommandInScoped Δ k
FocusScoped Δ nr one (escreva_close p q f k) = VariableKnown Δ f.hops f.index × CommandInScoped Δ k
FocusScoped Δ nr one (past_command c k) = CmdScoped Δ c × CommandInScoped Δ k
FocusScoped Δ nr one (past_then p x c k) = ExpScoped Δ x × CmdScoped Δ c × CommandInScoped Δ k
FocusScoped Δ nr one (past_commands c k) = CmdScoped Δ c × BodyInScoped Δ k
FocusScoped Δ nr one (past_semicolon c k) = CmdScoped Δ c × BodyInScoped Δ k
FocusScoped Δ nr one (want_simple k) = SimpleInScoped Δ k
FocusScoped Δ nr one (want_factor k) = FactorInScoped Δ k
FocusScoped Δ nr one (past_factor x y k) = ExpScoped Δ x × FactorInScoped Δ k
FocusScoped Δ nr one (past_term x y k) = ExpScoped Δ x × TermInScoped Δ k
FocusScoped Δ nr one (past_simple x y k) = ExpScoped Δ x × SimpleInScoped Δ k
FocusScoped Δ nr one (past_expression x y k) = ExpScoped Δ x × ExpressionInScoped Δ k

pub either_way : {A : Type 0} (Q : A → Type 0) (b : Bool) (x y : A) → Q x → Q y → Q (elim b [ true ↦ x | false ↦ y ])
either_way Q true x y f g = f
either_way Q false x y f g = g

-- ── settling ────────────────────────────────────────────────────────────────────────────────

module _ (Δ : List Declared) (nr one : Type 0) where
  abbrev pub SettledScoped : Settled → Type 0
  SettledScoped (at f) = FocusScoped Δ nr one f
  SettledScoped (wrong n) = Unit {0}

  settle_command_scoped : (t : Next) (c : Cmd) (k : CommandIn) → CmdScoped Δ c → CommandInScoped Δ k →
      SettledScoped (settle_command t c k)
  settle_command_scoped t c (in_body none k) oc ok = (oc, ok.1)
  settle_command_scoped t c (in_body (some d) k) oc ok = ((ok.0, oc), ok.1)
  settle_command_scoped t c (in_then p x k) oc ok =
      either_way SettledScoped (is_word Words.Senao t) (at (past_then p x c k)) (settle_command t (Tree.se p x c) k)
      (ok.0, oc, ok.1) (settle_command_scoped t (Tree.se p x c) k (ok.0, oc) ok.1)
  settle_command_scoped t c (in_else p x d q k) oc ok =
      settle_command_scoped t (se_senao p x d q c) k (ok.0, ok.1, oc) ok.2
  settle_command_scoped t c (in_loop p x k) oc ok = settle_command_scoped t (Tree.enquanto p x c) k (ok.0, oc) ok.1

  settle_expression_scoped : (t : Next) (x : Exp) (y : Ty) (k : ExpressionIn) → ExpScoped Δ x →
      ExpressionInScoped Δ k → SettledScoped (settle_expression t x y k)
  settle_expression_scoped t x y (bracketed k) ox ok = (ox, ok)
  settle_expression_scoped t x y (assigned p f z k) ox ok =
      either_way SettledScoped (same_type y z) (settle_command t (assign p f x) k) (wrong WrongType)
      (settle_command_scoped t (assign p f x) k (ox, ok.0) ok.1) tt
  settle_expression_scoped t x y (chosen p k) ox ok =
      either_way SettledScoped (is_inteiro y) (wrong WrongType) (at (past_expression x y (chosen p k))) tt (ox, ok)
  settle_expression_scoped t x y (repeated p k) ox ok =
      either_way SettledScoped (is_inteiro y) (wrong WrongType) (at (past_expression x y (repeated p k))) tt (ox, ok)

  settle_simple_scoped : (t : Next) (x : Exp) (y : Ty) (k : SimpleIn) → ExpScoped Δ x → SimpleInScoped Δ k →
      SettledScoped (settle_simple t x y k)
  settle_simple_scoped t x y (left_of k) ox ok =
      either_way SettledScoped (present (adding t) || present (comparing t)) (at (past_simple x y (left_of k)))
      (settle_expression t x y k) (ox, ok) (settle_expression_scoped t x y k ox ok)
  settle_simple_scoped t x y (right_of l z o p k) ox ok =
      either_way SettledScoped (present (adding t)) (at (past_simple x y (right_of l z o p k)))
      (elim (fitting (takes o) z y) [
        | true ↦ settle_expression t (joined o p l x) (giving (takes o)) k
        | false ↦ wrong WrongType
      ]) (ox, ok)
      (either_way SettledScoped (fitting (takes o) z y) (settle_expression t (joined o p l x) (giving (takes o)) k)
      (wrong WrongType) (settle_expression_scoped t (joined o p l x) (giving (takes o)) k (ok.0, ox) ok.1) tt)

  end_term_scoped : (t : Next) (x : Exp) (y : Ty) (k : TermIn) → ExpScoped Δ x → TermInScoped Δ k →
      SettledScoped (end_term t x y k)
  end_term_scoped t x y (first_term k) ox ok = settle_simple_scoped t x y k ox ok
  end_term_scoped t x y (plus_term k) ox ok =
      either_way SettledScoped (is_inteiro y) (settle_simple t x y k) (wrong WrongType)
      (settle_simple_scoped t x y k ox ok) tt
  end_term_scoped t x y (minus_term p k) ox ok =
      either_way SettledScoped (is_inteiro y) (settle_simple t (negated p x) y k) (wrong WrongType)
      (settle_simple_scoped t (negated p x) y k ox ok) tt
  end_term_scoped t x y (next_term l z o p k) ox ok =
      either_way SettledScoped (fitting (takes o) z y) (settle_simple t (joined o p l x) (giving (takes o)) k)
      (wrong WrongType) (settle_simple_scoped t (joined o p l x) (giving (takes o)) k (ok.0, ox) ok.1) tt

  settle_term_scoped : (t : Next) (x : Exp) (y : Ty) (k : TermIn) → ExpScoped Δ x → TermInScoped Δ k →
      SettledScoped (settle_term t x y k)
  settle_term_scoped t x y k ox ok =
      either_way SettledScoped (present (multiplying t)) (at (past_term x y k)) (end_term t x y k) (ox, ok)
      (end_term_scoped t x y k ox ok)

  settle_factor_scoped : (t : Next) (x : Exp) (y : Ty) (k : FactorIn) → ExpScoped Δ x → FactorInScoped Δ k →
      SettledScoped (settle_factor t x y k)
  settle_factor_scoped t x y (first_factor k) ox ok = settle_term_scoped t x y k ox ok
  settle_factor_scoped t x y (next_factor l z o p k) ox ok =
      either_way SettledScoped (fitting (takes o) z y) (settle_term t (joined o p l x) (giving (takes o)) k)
      (wrong WrongType) (settle_term_scoped t (joined o p l x) (giving (takes o)) k (ok.0, ox) ok.1) tt
  settle_factor_scoped t x y (denied_factor p k) ox ok =
      either_way SettledScoped (is_inteiro y) (wrong WrongType) (settle_factor t (denied p x) y k) tt
      (settle_factor_scoped t (denied p x) y k ox ok)

  to_set_scoped : (p : ℕ) (d : Kind) (h : ℕ) (i : Bool) (k : CommandIn) → KindSeen Δ h d → Inside Δ h d i →
      CommandInScoped Δ k → SettledScoped (to_set p d h i k)
  to_set_scoped p (a_variable y i) h inside k a b ok = (a, ok)
  to_set_scoped p (a_function y w) h true k a b ok = (b refl, ok)
  to_set_scoped p (a_function y w) h false k a b ok = tt
  to_set_scoped p (a_procedure w) h inside k a b ok = tt

  to_call_scoped : (t : Next) (p : ℕ) (d : Kind) (h : ℕ) (k : CommandIn) → KindSeen Δ h d → CommandInScoped Δ k →
      SettledScoped (to_call t p d h k)
  to_call_scoped t p (a_procedure w) h k a ok =
      settle_command_scoped t (invoke p (record { hops = h; index = w })) k a ok
  to_call_scoped t p (a_variable y i) h k a ok = tt
  to_call_scoped t p (a_function y w) h k a ok = tt

  pub settle_scoped : (t : Next) (f : Focus) → FocusScoped Δ nr one f → SettledScoped (settle t f)
  settle_scoped t (past_factor x y k) o = settle_factor_scoped t x y k o.0 o.1
  settle_scoped t (past_command c k) o = settle_command_scoped t c k o.0 o.1
  settle_scoped t (past_name p d h i k) o =
      either_way SettledScoped (is_sign Signs.Becomes t) (to_set p d h i k) (to_call t p d h k)
      (to_set_scoped p d h i k o.0 o.1 o.2) (to_call_scoped t p d h k o.0 o.2)
  settle_scoped t want_programa o = o
  settle_scoped t want_title o = o
  settle_scoped t want_title_end o = o
  settle_scoped t (want_period c) o = o
  settle_scoped t block_start o = o
  settle_scoped t want_variable o = o
  settle_scoped t past_variable o = o
  settle_scoped t want_variable_type o = o
  settle_scoped t want_group_end o = o
  settle_scoped t past_group o = o
  settle_scoped t past_routine o = o
  settle_scoped t (want_procedure_name p) o = o
  settle_scoped t (want_function_name p) o = o
  settle_scoped t (want_function_colon p s) o = o
  settle_scoped t (want_function_type p s) o = o
  settle_scoped t want_head_end o = o
  settle_scoped t (want_routine_end c) o = o
  settle_scoped t (want_command k) o = o
  settle_scoped t (to_assign p f y k) o = o
  settle_scoped t (leia_open p k) o = o
  settle_scoped t (escreva_open p k) o = o
  settle_scoped t (leia_name p k) o = o
  settle_scoped t (escreva_name p k) o = o
  settle_scoped t (leia_close p q f k) o = o
  settle_scoped t (escreva_close p q f k) o = o
  settle_scoped t (past_then p x c k) o = o
  settle_scoped t (past_commands c k) o = o
  settle_scoped t (past_semicolon c k) o = o
  settle_scoped t (want_simple k) o = o
  settle_scoped t (want_factor k) o = o
  settle_scoped t (past_term x y k) o = o
  settle_scoped t (past_simple x y k) o = o
  settle_scoped t (past_expression x y k) o = o
