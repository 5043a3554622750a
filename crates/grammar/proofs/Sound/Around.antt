-- What the tokens read so far have made of the commands and expressions around a place in a body.
use Rattle.std.proofs.Common.{◌≡◌, ℕ, suc, false, List, ◌∷◌, ◌++◌}
use mathlib.Core.Option.{none, some}
use Rattle.model.specs.declared.script.Ty.{Ty}
use Rattle.model.specs.declared.script.Operator.{Operator}
use Rattle.model.specs.declared.tokens.Word.TheVariants as Words
use Rattle.model.specs.declared.tokens.Sign.TheVariants as Signs
use Rattle.model.specs.declared.script.Ty.TheVariants.{Booleano}
use Rattle.model.specs.Tokens.{Lexeme, Token}
use Rattle.model.specs.Tree.{Cmd, Exp, Found}
use Rattle.model.specs.Ahead.{comparing, adding, multiplying}
use Rattle.model.specs.Names.{Scope, Seen, visible}
use Rattle.model.specs.Contexts.{CommandIn, BodyIn, in_body, in_then, in_else, in_loop, own, inner, ExpressionIn}
use Rattle.model.specs.Contexts.{FactorIn, bracketed, assigned, chosen, repeated, SimpleIn, left_of, right_of, TermIn}
use Rattle.model.specs.Contexts.{first_term, plus_term, minus_term, next_term, first_factor, next_factor, denied_factor}
use Rattle.model.specs.Grammar.{Deep, Commands, Expression, Command, w, g, Settable, Simple, Term, name_at, at}
use Rattle.grammar.proofs.Levels.{around, body_depth, command_depth, factor_depth, expression_depth, simple_depth}
use Rattle.grammar.proofs.Levels.{term_depth}

-- Each type says what was read around an open part: which rules were begun, and what was derived of their parts. Each
-- function gives the tokens that were read, in front of a list.

-- ── around a command ────────────────────────────────────────────────────────────────────────

mutual
  pub data CommandRead (cs : List Scope) : CommandIn → Type 0 where
    first_in : (p : ℕ) {k : BodyIn} → BodyRead cs k → Deep (body_depth (around cs) k) → CommandRead cs (in_body none k)
    next_in :
        (p q : ℕ) (ts : List Lexeme) {c : Cmd} {k : BodyIn} →
        BodyRead cs k → Deep (body_depth (around cs) k) → Commands cs (suc (body_depth (around cs) k)) ts c →
        CommandRead cs (in_body (some c) k)
    then_in :
        (p q : ℕ) (ts : List Lexeme) {x : Exp} {k : CommandIn} →
        CommandRead cs k → Deep (command_depth (around cs) k) →
        Expression cs (suc (command_depth (around cs) k)) ts x Booleano →
        CommandRead cs (in_then p x k)
    else_in :
        (p q o : ℕ) (ts us : List Lexeme) {x : Exp} {c : Cmd} {k : CommandIn} →
        CommandRead cs k → Deep (command_depth (around cs) k) →
        Expression cs (suc (command_depth (around cs) k)) ts x Booleano →
        Command cs (suc (command_depth (around cs) k)) us c false →
        CommandRead cs (in_else p x c o k)
    loop_in :
        (p q : ℕ) (ts : List Lexeme) {x : Exp} {k : CommandIn} →
        CommandRead cs k → Deep (command_depth (around cs) k) →
        Expression cs (suc (command_depth (around cs) k)) ts x Booleano →
        CommandRead cs (in_loop p x k)

  pub data BodyRead (cs : List Scope) : BodyIn → Type 0 where
    own_in : BodyRead cs own
    inner_in : {k : CommandIn} → CommandRead cs k → BodyRead cs (inner k)

abbrev mutual
  pub before_command : {cs : List Scope} {k : CommandIn} → CommandRead cs k → List Lexeme → List Lexeme
  before_command (first_in p r d) l = before_body r (w Words.Inicio p ∷ l)
  before_command (next_in p q ts r d e) l = before_body r (w Words.Inicio p ∷ (ts ++ (g Signs.Semicolon q ∷ l)))
  before_command (then_in p q ts r d e) l = before_command r (w Words.Se p ∷ (ts ++ (w Words.Entao q ∷ l)))
  before_command (else_in p q o ts us r d e f) l =
      before_command r (w Words.Se p ∷ (ts ++ (w Words.Entao q ∷ (us ++ (w Words.Senao o ∷ l)))))
  before_command (loop_in p q ts r d e) l = before_command r (w Words.Enquanto p ∷ (ts ++ (w Words.Faca q ∷ l)))

  pub before_body : {cs : List Scope} {k : BodyIn} → BodyRead cs k → List Lexeme → List Lexeme
  before_body own_in l = l
  before_body (inner_in r) l = before_command r l

-- ── around an expression and its parts ──────────────────────────────────────────────────────

mutual
  pub data ExpressionRead (cs : List Scope) : ExpressionIn → Type 0 where
    in_brackets :
        (p : ℕ) {k : FactorIn} →
        FactorRead cs k → Deep (factor_depth (around cs) k) →
        ExpressionRead cs (bracketed k)
    to_set :
        (p q : ℕ) (n : List ℕ) (d : Seen) (y : Ty) (f : Found) {k : CommandIn} →
        visible n cs ≡ some d → Settable d y f → CommandRead cs k →
        ExpressionRead cs (assigned p f y k)
    to_choose :
        (p : ℕ) {k : CommandIn} →
        CommandRead cs k → Deep (command_depth (around cs) k) →
        ExpressionRead cs (chosen p k)
    to_repeat :
        (p : ℕ) {k : CommandIn} →
        CommandRead cs k → Deep (command_depth (around cs) k) →
        ExpressionRead cs (repeated p k)

  pub data SimpleRead (cs : List Scope) : SimpleIn → Type 0 where
    on_left : {k : ExpressionIn} → ExpressionRead cs k → SimpleRead cs (left_of k)
    on_right :
        (ts : List Lexeme) (t : Token) (p : ℕ) {x : Exp} {y : Ty} {o : Operator} {k : ExpressionIn} →
        ExpressionRead cs k → Simple cs (expression_depth (around cs) k) ts x y → comparing (some t) ≡ some o →
        SimpleRead cs (right_of x y o p k)

  pub data TermRead (cs : List Scope) : TermIn → Type 0 where
    as_first : {k : SimpleIn} → SimpleRead cs k → TermRead cs (first_term k)
    as_plus : (p : ℕ) {k : SimpleIn} → SimpleRead cs k → TermRead cs (plus_term k)
    as_minus : (p : ℕ) {k : SimpleIn} → SimpleRead cs k → TermRead cs (minus_term p k)
    as_next :
        (ts : List Lexeme) (t : Token) (p : ℕ) {x : Exp} {y : Ty} {o : Operator} {k : SimpleIn} →
        SimpleRead cs k → Simple cs (simple_depth (around cs) k) ts x y → adding (some t) ≡ some o →
        TermRead cs (next_term x y o p k)

  pub data FactorRead (cs : List Scope) : FactorIn → Type 0 where
    the_first : {k : TermIn} → TermRead cs k → FactorRead cs (first_factor k)
    the_next :
        (ts : List Lexeme) (t : Token) (p : ℕ) {x : Exp} {y : Ty} {o : Operator} {k : TermIn} →
        TermRead cs k → Term cs (term_depth (around cs) k) ts x y → multiplying (some t) ≡ some o →
        FactorRead cs (next_factor x y o p k)
    the_denied :
        (p : ℕ) {k : FactorIn} →
        FactorRead cs k → Deep (factor_depth (around cs) k) →
        FactorRead cs (denied_factor p k)

abbrev mutual
  pub before_expression : {cs : List Scope} {k : ExpressionIn} → ExpressionRead cs k → List Lexeme → List Lexeme
  before_expression (in_brackets p r d) l = before_factor r (g Signs.OpenBracket p ∷ l)
  before_expression (to_set p q n d y f e h r) l = before_command r (name_at n p ∷ g Signs.Becomes q ∷ l)
  before_expression (to_choose p r d) l = before_command r (w Words.Se p ∷ l)
  before_expression (to_repeat p r d) l = before_command r (w Words.Enquanto p ∷ l)

  pub before_simple : {cs : List Scope} {k : SimpleIn} → SimpleRead cs k → List Lexeme → List Lexeme
  before_simple (on_left r) l = before_expression r l
  before_simple (on_right ts t p r e h) l = before_expression r (ts ++ (at t p ∷ l))

  pub before_term : {cs : List Scope} {k : TermIn} → TermRead cs k → List Lexeme → List Lexeme
  before_term (as_first r) l = before_simple r l
  before_term (as_plus p r) l = before_simple r (g Signs.Plus p ∷ l)
  before_term (as_minus p r) l = before_simple r (g Signs.Minus p ∷ l)
  before_term (as_next ts t p r e h) l = before_simple r (ts ++ (at t p ∷ l))

  pub before_factor : {cs : List Scope} {k : FactorIn} → FactorRead cs k → List Lexeme → List Lexeme
  before_factor (the_first r) l = before_term r l
  before_factor (the_next ts t p r e h) l = before_term r (ts ++ (at t p ∷ l))
  before_factor (the_denied p r d) l = before_factor r (w Words.Nao p ∷ l)
