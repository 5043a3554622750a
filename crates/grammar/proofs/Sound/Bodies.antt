-- Each token that the judge lets into a body is read by a rule.
use Rattle.std.proofs.Common.{◌≡◌, ℕ, suc, List, [], ◌∷◌, ◌++◌, length, refl, ap, subst, append_assoc}
use mathlib.Core.Option.{some}
use Rattle.model.specs.declared.script.Ty.{Ty}
use Rattle.model.specs.declared.tokens.Word.TheVariants as Words
use Rattle.model.specs.declared.tokens.Sign.TheVariants as Signs
use Rattle.model.specs.Tokens.{Token, Lexeme, name, number, word, sign}
use Rattle.model.specs.Tree.{Exp, Cmd}
use Rattle.model.specs.Ahead.{adding, comparing}
use Rattle.model.specs.Names.{Scope, visible, Seen, Kind, a_variable, a_function, a_procedure}
use Rattle.model.specs.Contexts.{FactorIn, SimpleIn, ExpressionIn, CommandIn, BodyIn}
use Rattle.model.specs.Bodies.{bracket_or_not, shift_factor, use_of, shift_simple, shift_past_simple}
use Rattle.model.specs.Bodies.{shift_past_expression, shift_command, body_ended}
use Rattle.model.specs.Grammar.{at, w, verdadeiro, falso, name_at, variable_use, function_use, a_number, Simple}
use Rattle.model.specs.Grammar.{Expression, g, bracketed, Body, grouped}
use Rattle.grammar.proofs.Levels.{factor_depth_is, simple_depth, expression_depth, command_depth, command_depth_is}
use Rattle.grammar.proofs.Levels.{body_depth}
use Rattle.grammar.proofs.Sound.Around.{FactorRead, before_factor, on_left, in_brackets, the_denied, SimpleRead}
use Rattle.grammar.proofs.Sound.Around.{before_simple, the_first, as_plus, as_minus, as_first, as_next, on_right}
use Rattle.grammar.proofs.Sound.Around.{ExpressionRead, before_expression, to_set, to_choose, before_command, then_in}
use Rattle.grammar.proofs.Sound.Around.{to_repeat, loop_in, CommandRead, first_in, inner_in, BodyRead, before_body}
use Rattle.grammar.proofs.Sound.Around.{own_in}
use Rattle.grammar.proofs.Sound.SoFar.{Declaring, Goes, before_block, goes_as, at_simple, at_factor, at_past_factor}
use Rattle.grammar.proofs.Sound.SoFar.{is_refused, Suits, goes_to, at_command, at_name, at_leia_open, at_escreva_open}
use Rattle.grammar.proofs.Sound.SoFar.{at_period, at_routine_end, at_past_command}
use Rattle.grammar.proofs.Sound.Tests.{if_sign_keeps, deeper_keeps, if_word_keeps, only_word_keeps, with_seen_keeps}
use Rattle.grammar.proofs.Sound.Tests.{operator_or_keeps, with_operator_keeps, only_sign_keeps}

module _ {room : ℕ} {cs : List Scope} {s : Scope} (here : Declaring room cs s) where
  -- ── expressions ───────────────────────────────────────────────────────────────────────────

  bracket_or_not_keeps :
      {k : FactorIn} (r : FactorRead (s ∷ cs) k) (t : Token) (p : ℕ) →
      Goes room (λ l. before_block here (before_factor r (at t p ∷ l))) (bracket_or_not (s ∷ cs) (some t) p k)
  bracket_or_not_keeps {k} r t p =
      if_sign_keeps Y Signs.OpenBracket t
      (deeper_keeps (s ∷ cs) _ _ (factor_depth_is (length cs) k)
      (λ h. goes_as (at_simple s here (on_left (in_brackets p r h)))))
      (if_word_keeps Y Words.Nao t
      (deeper_keeps (s ∷ cs) _ _ (factor_depth_is (length cs) k) (λ h. goes_as (at_factor s here (the_denied p r h))))
      (if_word_keeps Y Words.Verdadeiro t
      (goes_as (at_past_factor (w Words.Verdadeiro p ∷ []) s here r (verdadeiro p)))
      (only_word_keeps Y Words.Falso t
      (goes_as (at_past_factor (w Words.Falso p ∷ []) s here r (falso p))))))
    where
      Y : Token → List Lexeme → List Lexeme
      Y u l = before_block here (before_factor r (at u p ∷ l))

  pub shift_factor_keeps :
      {k : FactorIn} (r : FactorRead (s ∷ cs) k) (t : Token) (p : ℕ) →
      Goes room (λ l. before_block here (before_factor r (at t p ∷ l))) (shift_factor (s ∷ cs) t p k)
  shift_factor_keeps {k} r (name n) p =
      with_seen_keeps (visible n (s ∷ cs)) (λ d e. use_keeps d e d.kind refl)
    where
      use_keeps :
          (d : Seen) → visible n (s ∷ cs) ≡ some d → (a : Kind) → d.kind ≡ a →
          Goes room (λ l. before_block here (before_factor r (name_at n p ∷ l))) (use_of (s ∷ cs) p k a d.hops)
      use_keeps d e (a_variable y i) h =
          goes_as (at_past_factor (name_at n p ∷ []) s here r (variable_use p i n d y e h))
      use_keeps d e (a_function y i) h =
          goes_as (at_past_factor (name_at n p ∷ []) s here r (function_use p i n d y e h))
      use_keeps d e (a_procedure i) h = is_refused
  shift_factor_keeps r (number v) p = goes_as (at_past_factor (at (number v) p ∷ []) s here r (a_number p v))
  shift_factor_keeps r (word v) p = bracket_or_not_keeps r (word v) p
  shift_factor_keeps r (sign v) p = bracket_or_not_keeps r (sign v) p

  pub shift_simple_keeps :
      {k : SimpleIn} (r : SimpleRead (s ∷ cs) k) (t : Token) (p : ℕ) →
      Goes room (λ l. before_block here (before_simple r (at t p ∷ l))) (shift_simple (s ∷ cs) t p k)
  shift_simple_keeps r t p =
      if_sign_keeps Y Signs.Plus t (goes_as (at_factor s here (the_first (as_plus p r))))
      (if_sign_keeps Y Signs.Minus t (goes_as (at_factor s here (the_first (as_minus p r))))
      (shift_factor_keeps (the_first (as_first r)) t p))
    where
      Y : Token → List Lexeme → List Lexeme
      Y u l = before_block here (before_simple r (at u p ∷ l))

  pub shift_past_simple_keeps :
      (ts : List Lexeme) {x : Exp} {y : Ty} {k : SimpleIn} (r : SimpleRead (s ∷ cs) k) →
      Simple (s ∷ cs) (simple_depth (length cs) k) ts x y → (t : Token) (p : ℕ) →
      Goes room (λ l. before_block here (before_simple r (ts ++ (at t p ∷ l))))
      (shift_past_simple (s ∷ cs) (some t) p x y k)
  shift_past_simple_keeps ts (on_left r) e t p =
      operator_or_keeps (adding (some t)) (λ o h. goes_as
      (at_factor s here (the_first (as_next ts t p (on_left r) e h))))
      (with_operator_keeps (comparing (some t)) (λ o h. goes_as (at_simple s here (on_right ts t p r e h))))
  shift_past_simple_keeps ts (on_right us a q r f h) e t p =
      with_operator_keeps (adding (some t))
      (λ c i. goes_as (at_factor s here (the_first (as_next ts t p (on_right us a q r f h) e i))))

  pub shift_past_expression_keeps :
      (ts : List Lexeme) {x : Exp} {y : Ty} {k : ExpressionIn} (r : ExpressionRead (s ∷ cs) k) →
      Expression (s ∷ cs) (expression_depth (length cs) k) ts x y → Suits y k → (t : Token) (p : ℕ) →
      Goes room (λ l. before_block here (before_expression r (ts ++ (at t p ∷ l))))
      (shift_past_expression (s ∷ cs) (some t) x y k)
  shift_past_expression_keeps ts {y} (in_brackets q r d) e i t p =
      only_sign_keeps (λ u l. before_block here (before_factor r (g Signs.OpenBracket q ∷ (ts ++ (at u p ∷ l)))))
      Signs.CloseBracket t
      (goes_to
      (at_past_factor (g Signs.OpenBracket q ∷ ts ++ g Signs.CloseBracket p ∷ []) s here r (bracketed q p ts y d e))
      (λ l. ap (λ z. before_block here (before_factor r (g Signs.OpenBracket q ∷ z)))
      (append_assoc ts (g Signs.CloseBracket p ∷ []) l)))
  shift_past_expression_keeps ts (to_set q o n d z f v h r) e i t p = is_refused
  shift_past_expression_keeps ts {x} (to_choose q {k} r d) e i t p =
      only_word_keeps (λ u l. before_block here (before_command r (w Words.Se q ∷ (ts ++ (at u p ∷ l))))) Words.Entao t
      (goes_as (at_command s here
      (then_in q p ts r d (subst (Expression (s ∷ cs) (suc (command_depth (length cs) k)) ts x) i e))))
  shift_past_expression_keeps ts {x} (to_repeat q {k} r d) e i t p =
      only_word_keeps (λ u l. before_block here (before_command r (w Words.Enquanto q ∷ (ts ++ (at u p ∷ l)))))
      Words.Faca t
      (goes_as (at_command s here
      (loop_in q p ts r d (subst (Expression (s ∷ cs) (suc (command_depth (length cs) k)) ts x) i e))))

  -- ── commands ──────────────────────────────────────────────────────────────────────────────

  pub shift_command_keeps :
      {k : CommandIn} (r : CommandRead (s ∷ cs) k) (t : Token) (p : ℕ) →
      Goes room (λ l. before_block here (before_command r (at t p ∷ l))) (shift_command (s ∷ cs) t p k)
  shift_command_keeps r (name n) p = with_seen_keeps (visible n (s ∷ cs)) (λ d e. goes_as (at_name p n d s here r e))
  shift_command_keeps r (number v) p = is_refused
  shift_command_keeps r (sign v) p = is_refused
  shift_command_keeps {k} r (word v) p =
      if_word_keeps Y Words.Se (word v)
      (deeper_keeps (s ∷ cs) _ _ (command_depth_is (length cs) k)
      (λ h. goes_as (at_simple s here (on_left (to_choose p r h)))))
      (if_word_keeps Y Words.Enquanto (word v)
      (deeper_keeps (s ∷ cs) _ _ (command_depth_is (length cs) k)
      (λ h. goes_as (at_simple s here (on_left (to_repeat p r h)))))
      (if_word_keeps Y Words.Inicio (word v)
      (deeper_keeps (s ∷ cs) _ _ (command_depth_is (length cs) k)
      (λ h. goes_as (at_command s here (first_in p (inner_in r) h))))
      (if_word_keeps Y Words.Leia (word v)
      (goes_as (at_leia_open p s here r))
      (only_word_keeps Y Words.Escreva (word v)
      (goes_as (at_escreva_open p s here r))))))
    where
      Y : Token → List Lexeme → List Lexeme
      Y u l = before_block here (before_command r (at u p ∷ l))

-- a body has ended: the command that it is, or the block's own
pub body_ended_keeps :
    {room : ℕ} (cs : List Scope) {s : Scope} (here : Declaring room cs s) {k : BodyIn} (r : BodyRead (s ∷ cs) k) →
    (vs : List Lexeme) {c : Cmd} → Body (s ∷ cs) (body_depth (length cs) k) vs c →
    Goes room (λ l. before_block here (before_body r (vs ++ l))) (body_ended (s ∷ cs) c k)
body_ended_keeps [] {s} here own_in vs e = goes_as (at_period vs s here e)
body_ended_keeps (u ∷ cs) {s} here own_in vs e = goes_as (at_routine_end vs s u here e)
body_ended_keeps [] {s} here (inner_in r) vs e = goes_as (at_past_command vs s here r (grouped vs e))
body_ended_keeps (u ∷ cs) {s} here (inner_in r) vs e = goes_as (at_past_command vs s here r (grouped vs e))
