-- Whatever the state, each token that the judge lets in is read by a rule.
use Rattle.std.proofs.Common.{ℕ, List, [], ◌∷◌, ◌++◌, ap, ◌∙◌, append_assoc}
use mathlib.Core.Option.{some}
use Rattle.model.specs.declared.tokens.Word.TheVariants as Words
use Rattle.model.specs.declared.tokens.Sign.TheVariants as Signs
use Rattle.model.specs.Tokens.{Token, Lexeme, name, number, word, sign}
use Rattle.model.specs.Ahead.{Next}
use Rattle.model.specs.Ahead.{type_named, multiplying}
use Rattle.model.specs.Names.{Scope, visible}
use Rattle.model.specs.Blocks.{program_opened, wait, typed}
use Rattle.model.specs.Contexts.{Focus, leia_close, escreva_close}
use Rattle.model.specs.Settling.{settle, Settled}
use Rattle.model.specs.Judged.{on}
use Rattle.model.specs.Judge.{settled, shift, judge}
use Rattle.model.specs.Grammar.{at, w, name_at, g, none_declared, no_routine, no_group, first_name, next_name, group}
use Rattle.model.specs.Grammar.{reading, writing, closed, trailing}
use Rattle.grammar.proofs.Streams.{state}
use Rattle.grammar.proofs.Sound.Around.{before_command, on_left, to_set, else_in, before_body, next_in, the_next}
use Rattle.grammar.proofs.Sound.SoFar.{SoFar, Goes, all_read, at_programa, goes_as, at_title, at_title_end}
use Rattle.grammar.proofs.Sound.SoFar.{at_block_start, program_head, at_head_end, before_head, at_first_variable}
use Rattle.grammar.proofs.Sound.SoFar.{declaring, at_past_variable, at_next_variable, goes_to, at_variable_type}
use Rattle.grammar.proofs.Sound.SoFar.{at_group_end, at_past_group, is_refused, at_past_routine, at_procedure_name}
use Rattle.grammar.proofs.Sound.SoFar.{before_block, procedure_head, at_function_name, at_function_colon}
use Rattle.grammar.proofs.Sound.SoFar.{at_function_type, function_head, at_routine_end, at_period, at_command, at_name}
use Rattle.grammar.proofs.Sound.SoFar.{at_to_assign, at_simple, at_leia_open, at_leia_name, at_escreva_open}
use Rattle.grammar.proofs.Sound.SoFar.{at_escreva_name, at_leia_close, at_escreva_close, at_past_command, at_past_then}
use Rattle.grammar.proofs.Sound.SoFar.{at_past_commands, at_past_semicolon, at_factor, at_past_factor, at_past_term}
use Rattle.grammar.proofs.Sound.SoFar.{at_past_simple, at_past_expression, Stays, stays_as, stays_at, is_wrong}
use Rattle.grammar.proofs.Sound.Settling.{leading_name_keeps, command_ended_keeps, settle_factor_keeps}
use Rattle.grammar.proofs.Sound.Tests.{only_word_keeps, with_name_keeps, only_sign_keeps, if_word_keeps, declares_keeps}
use Rattle.grammar.proofs.Sound.Tests.{if_sign_keeps, with_type_keeps, with_seen_keeps, number_variable_keeps}
use Rattle.grammar.proofs.Sound.Tests.{same_tokens, with_operator_keeps}
use Rattle.grammar.proofs.Sound.Bodies.{shift_command_keeps, body_ended_keeps, shift_simple_keeps, shift_factor_keeps}
use Rattle.grammar.proofs.Sound.Bodies.{shift_past_simple_keeps, shift_past_expression_keeps}
use Rattle.grammar.proofs.Sound.Blocks.{routine_or_body_keeps, a_group_is_not_empty, variables_of, routine_ended_keeps}
use Rattle.grammar.proofs.Sound.Blocks.{program_ended_keeps}

module _ {room : ℕ} where
  -- ── the token, once the parts before it are settled ───────────────────────────────────────

  shift_keeps :
      {cs : List Scope} {f : Focus} (r : SoFar room cs f) (t : Token) (p : ℕ) →
      Goes room (λ l. all_read r (at t p ∷ l)) (shift room cs t p f)
  shift_keeps at_programa t p = only_word_keeps (λ u l. at u p ∷ l) Words.Programa t (goes_as (at_title p))
  shift_keeps (at_title q) t p =
      with_name_keeps (λ u l. w Words.Programa q ∷ at u p ∷ l) t (λ n. goes_as (at_title_end q p n))
  shift_keeps (at_title_end a q n) t p =
      only_sign_keeps (λ u l. w Words.Programa a ∷ name_at n q ∷ at u p ∷ l) Signs.Semicolon t
      (goes_as (at_block_start p (program_opened a) (program_head a q n)))
  shift_keeps (at_head_end s h) t p =
      only_sign_keeps (λ u l. before_head h (at u p ∷ l)) Signs.Semicolon t (goes_as (at_block_start p s h))
  shift_keeps (at_block_start r s h) t p =
      if_word_keeps (λ u l. before_head h (g Signs.Semicolon r ∷ at u p ∷ l)) Words.Var t
      (goes_as (at_first_variable r p s h))
      (routine_or_body_keeps (declaring r [] [] s s s h (none_declared s) (no_routine s)) t p)
  -- variables
  shift_keeps (at_first_variable r q {cs} s h) t p =
      with_name_keeps (λ u l. before_head h (g Signs.Semicolon r ∷ w Words.Var q ∷ at u p ∷ l)) t
      (λ n. declares_keeps cs s n _ (λ a b c.
      goes_as (at_past_variable r q [] (name_at n p ∷ []) s s (wait s n) h (no_group s)
      (first_name p n s (a, b, c)))))
  shift_keeps (at_next_variable r q i ts us {cs} s u v h e f) t p =
      with_name_keeps
      (λ x l. before_head h (g Signs.Semicolon r ∷ w Words.Var q ∷ (ts ++ (us ++ (g Signs.Comma i ∷ at x p ∷ l))))) t
      (λ n. declares_keeps cs v n _ (λ a b c. goes_to
      (at_past_variable r q ts (us ++ g Signs.Comma i ∷ name_at n p ∷ []) s u (wait v n) h e
      (next_name p i n us u v f (a, b, c)))
      (λ l. ap (λ z. before_head h (g Signs.Semicolon r ∷ w Words.Var q ∷ (ts ++ z)))
      (append_assoc us (g Signs.Comma i ∷ name_at n p ∷ []) l))))
  shift_keeps (at_past_variable r q ts us s u v h e f) t p =
      let Y : Token → List Lexeme → List Lexeme =
      λ x l. before_head h (g Signs.Semicolon r ∷ w Words.Var q ∷ (ts ++ (us ++ (at x p ∷ l)))) in
      if_sign_keeps Y Signs.Comma t (goes_as (at_next_variable r q p ts us s u v h e f))
      (only_sign_keeps Y Signs.Colon t (goes_as (at_variable_type r q p ts us s u v h e f)))
  shift_keeps (at_variable_type r q i ts us s u v h e f) t p =
      with_type_keeps (type_named (some t)) (λ y d. goes_as (at_group_end r q i p ts us t y s u v h e f d))
  shift_keeps (at_group_end r q i j ts us a y s u v h e f d) t p =
      only_sign_keeps
      (λ x l. before_head h (g Signs.Semicolon r ∷ w Words.Var q ∷
      (ts ++ (us ++ (g Signs.Colon i ∷ at a j ∷ at x p ∷ l)))))
      Signs.Semicolon t
      (goes_to
      (at_past_group r q (ts ++ us ++ g Signs.Colon i ∷ at a j ∷ g Signs.Semicolon p ∷ []) s (typed v y) h
      (group i j p ts us a y s u v e f d)
      (a_group_is_not_empty (ts ++ us) (g Signs.Colon i) (at a j ∷ g Signs.Semicolon p ∷ [])))
      (λ l. ap (λ z. before_head h (g Signs.Semicolon r ∷ w Words.Var q ∷ z)) (
      append_assoc (ts ++ us) (g Signs.Colon i ∷ at a j ∷ g Signs.Semicolon p ∷ []) l
      ∙ append_assoc ts us (g Signs.Colon i ∷ at a j ∷ g Signs.Semicolon p ∷ l)
      )))
  shift_keeps (at_past_group r q ts {cs} s u h e n) (name i) p =
      declares_keeps cs u i _ (λ a b c.
      goes_as (at_past_variable r q ts (name_at i p ∷ []) s u (wait u i) h e (first_name p i u (a, b, c))))
  shift_keeps (at_past_group r q ts s u h e n) (number i) p = is_refused
  shift_keeps (at_past_group r q ts s u h e n) (word i) p =
      routine_or_body_keeps (declaring r (w Words.Var q ∷ ts) [] s u u h (variables_of q e n) (no_routine u)) (word i) p
  shift_keeps (at_past_group r q ts s u h e n) (sign i) p = is_refused
  -- routines
  shift_keeps (at_past_routine s b) t p = routine_or_body_keeps b t p
  shift_keeps (at_procedure_name q {cs} s b d) t p =
      with_name_keeps (λ u l. before_block b (w Words.Procedimento q ∷ at u p ∷ l)) t
      (λ n. declares_keeps cs s n 0 (λ x y z. goes_as (at_head_end _ (procedure_head q p n b d (x, y)))))
  shift_keeps (at_function_name q {cs} s b d) t p =
      with_name_keeps (λ u l. before_block b (w Words.Funcao q ∷ at u p ∷ l)) t
      (λ n. declares_keeps cs s n _ (λ x y z. goes_as (at_function_colon q p n s b d (x, y, z))))
  shift_keeps (at_function_colon q i n s b d f) t p =
      only_sign_keeps (λ u l. before_block b (w Words.Funcao q ∷ name_at n i ∷ at u p ∷ l)) Signs.Colon t
      (goes_as (at_function_type q i p n s b d f))
  shift_keeps (at_function_type q i h n s b d f) t p =
      with_type_keeps (type_named (some t)) (λ y e. goes_as (at_head_end _ (function_head q i h p n t y b d f e)))
  shift_keeps (at_routine_end vs s u b e) t p =
      only_sign_keeps (λ x l. before_block b (vs ++ (at x p ∷ l))) Signs.Semicolon t (routine_ended_keeps vs s u b e p)
  shift_keeps (at_period vs s b e) t p =
      only_sign_keeps (λ x l. before_block b (vs ++ (at x p ∷ l))) Signs.Period t (program_ended_keeps vs s b e p)
  -- commands
  shift_keeps (at_command s b r) t p = shift_command_keeps b r t p
  shift_keeps (at_name q n d s b r e) t p = is_refused
  shift_keeps (at_to_assign q n d y f s b r e h) t p =
      only_sign_keeps (λ x l. before_block b (before_command r (name_at n q ∷ at x p ∷ l))) Signs.Becomes t
      (goes_as (at_simple s b (on_left (to_set q p n d y f e h r))))
  shift_keeps (at_leia_open q s b r) t p =
      only_sign_keeps (λ x l. before_block b (before_command r (w Words.Leia q ∷ at x p ∷ l))) Signs.OpenBracket t
      (goes_as (at_leia_name q p s b r))
  shift_keeps (at_escreva_open q s b r) t p =
      only_sign_keeps (λ x l. before_block b (before_command r (w Words.Escreva q ∷ at x p ∷ l))) Signs.OpenBracket t
      (goes_as (at_escreva_name q p s b r))
  shift_keeps (at_leia_name q o {cs} s {k} b r) t p =
      with_name_keeps (λ x l. before_block b (before_command r (w Words.Leia q ∷ g Signs.OpenBracket o ∷ at x p ∷ l))) t
      (λ n. with_seen_keeps (visible n (s ∷ cs)) (λ d e.
      number_variable_keeps d.kind d.hops (λ f. on (s ∷ cs) (leia_close q p f k))
      (λ i h. goes_as (at_leia_close q p o i n d s b r e h))))
  shift_keeps (at_escreva_name q o {cs} s {k} b r) t p =
      with_name_keeps (λ x l. before_block b (before_command r
      (w Words.Escreva q ∷ g Signs.OpenBracket o ∷ at x p ∷ l))) t
      (λ n. with_seen_keeps (visible n (s ∷ cs)) (λ d e.
      number_variable_keeps d.kind d.hops (λ f. on (s ∷ cs) (escreva_close q p f k))
      (λ i h. goes_as (at_escreva_close q p o i n d s b r e h))))
  shift_keeps (at_leia_close q i o j n d s b r e h) t p =
      only_sign_keeps
      (λ x l. before_block b (before_command r (w Words.Leia q ∷ g Signs.OpenBracket o ∷ name_at n i ∷ at x p ∷ l)))
      Signs.CloseBracket t
      (goes_as (at_past_command (w Words.Leia q ∷ g Signs.OpenBracket o ∷ name_at n i ∷ g Signs.CloseBracket p ∷ [])
      s b r (reading q i p o j n d e h)))
  shift_keeps (at_escreva_close q i o j n d s b r e h) t p =
      only_sign_keeps
      (λ x l. before_block b (before_command r (w Words.Escreva q ∷ g Signs.OpenBracket o ∷ name_at n i ∷ at x p ∷ l)))
      Signs.CloseBracket t
      (goes_as (at_past_command (w Words.Escreva q ∷ g Signs.OpenBracket o ∷ name_at n i ∷ g Signs.CloseBracket p ∷ [])
      s b r (writing q i p o j n d e h)))
  shift_keeps (at_past_command ts s b r e) t p = is_refused
  shift_keeps (at_past_then q i ts us s b r d e f) t p =
      only_word_keeps
      (λ u l. before_block b (before_command r (w Words.Se q ∷ (ts ++ (w Words.Entao i ∷ (us ++ (at u p ∷ l)))))))
      Words.Senao t
      (goes_as (at_command s b (else_in q i p ts us r d e f)))
  shift_keeps (at_past_commands q ts {cs} s b r d e) t p =
      let Y : Token → List Lexeme → List Lexeme =
      λ u l. before_block b (before_body r (w Words.Inicio q ∷ (ts ++ (at u p ∷ l)))) in
      if_sign_keeps Y Signs.Semicolon t (goes_as (at_past_semicolon q p ts s b r d e))
      (only_word_keeps Y Words.Fim t
      (same_tokens
      (λ l. ap (λ z. before_block b (before_body r (w Words.Inicio q ∷ z))) (append_assoc ts (w Words.Fim p ∷ []) l))
      (body_ended_keeps cs b r (w Words.Inicio q ∷ ts ++ w Words.Fim p ∷ []) (closed q p ts d e))))
  shift_keeps (at_past_semicolon q i ts {cs} s b r d e) t p =
      if_word_keeps (λ u l. before_block b (before_body r
      (w Words.Inicio q ∷ (ts ++ (g Signs.Semicolon i ∷ at u p ∷ l)))))
      Words.Fim t
      (same_tokens
      (λ l. ap (λ z. before_block b (before_body r (w Words.Inicio q ∷ z)))
      (append_assoc ts (g Signs.Semicolon i ∷ w Words.Fim p ∷ []) l))
      (body_ended_keeps cs b r (w Words.Inicio q ∷ ts ++ g Signs.Semicolon i ∷ w Words.Fim p ∷ [])
      (trailing q i p ts d e)))
      (shift_command_keeps b (next_in q i ts r d e) t p)
  -- expressions
  shift_keeps (at_simple s b r) t p = shift_simple_keeps b r t p
  shift_keeps (at_factor s b r) t p = shift_factor_keeps b r t p
  shift_keeps (at_past_factor ts s b r e) t p = is_refused
  shift_keeps (at_past_term ts s b r e) t p =
      with_operator_keeps (multiplying (some t)) (λ o h. goes_as (at_factor s b (the_next ts t p r e h)))
  shift_keeps (at_past_simple ts s b r e) t p = shift_past_simple_keeps b ts r e t p
  shift_keeps (at_past_expression ts s b r e h) t p = shift_past_expression_keeps b ts r e h t p

  -- ── the parts before it ───────────────────────────────────────────────────────────────────

  -- only behind a factor, a command and a command's leading name does anything end
  settle_keeps : {cs : List Scope} {f : Focus} (r : SoFar room cs f) (t : Next) →
      Stays room cs (all_read r) (settle t f)
  settle_keeps at_programa t = stays_as at_programa
  settle_keeps (at_title p) t = stays_as (at_title p)
  settle_keeps (at_title_end p q n) t = stays_as (at_title_end p q n)
  settle_keeps (at_head_end s h) t = stays_as (at_head_end s h)
  settle_keeps (at_block_start r s h) t = stays_as (at_block_start r s h)
  settle_keeps (at_first_variable r p s h) t = stays_as (at_first_variable r p s h)
  settle_keeps (at_next_variable r p q ts us s u v h e f) t = stays_as (at_next_variable r p q ts us s u v h e f)
  settle_keeps (at_past_variable r p ts us s u v h e f) t = stays_as (at_past_variable r p ts us s u v h e f)
  settle_keeps (at_variable_type r p q ts us s u v h e f) t = stays_as (at_variable_type r p q ts us s u v h e f)
  settle_keeps (at_group_end r p q i ts us a y s u v h e f d) t =
      stays_as (at_group_end r p q i ts us a y s u v h e f d)
  settle_keeps (at_past_group r p ts s u h e n) t = stays_as (at_past_group r p ts s u h e n)
  settle_keeps (at_past_routine s b) t = stays_as (at_past_routine s b)
  settle_keeps (at_procedure_name p s b d) t = stays_as (at_procedure_name p s b d)
  settle_keeps (at_function_name p s b d) t = stays_as (at_function_name p s b d)
  settle_keeps (at_function_colon p q n s b d f) t = stays_as (at_function_colon p q n s b d f)
  settle_keeps (at_function_type p q h n s b d f) t = stays_as (at_function_type p q h n s b d f)
  settle_keeps (at_routine_end vs s u b e) t = stays_as (at_routine_end vs s u b e)
  settle_keeps (at_period vs s b e) t = stays_as (at_period vs s b e)
  settle_keeps (at_command s b r) t = stays_as (at_command s b r)
  settle_keeps (at_name p n d {cs} s b r e) t = leading_name_keeps room cs s b p n d r e t
  settle_keeps (at_to_assign p n d y f s b r e h) t = stays_as (at_to_assign p n d y f s b r e h)
  settle_keeps (at_leia_open p s b r) t = stays_as (at_leia_open p s b r)
  settle_keeps (at_leia_name p o s b r) t = stays_as (at_leia_name p o s b r)
  settle_keeps (at_leia_close p q o i n d s b r e h) t = stays_as (at_leia_close p q o i n d s b r e h)
  settle_keeps (at_escreva_open p s b r) t = stays_as (at_escreva_open p s b r)
  settle_keeps (at_escreva_name p o s b r) t = stays_as (at_escreva_name p o s b r)
  settle_keeps (at_escreva_close p q o i n d s b r e h) t = stays_as (at_escreva_close p q o i n d s b r e h)
  settle_keeps (at_past_command ts {cs} s b r e) t = command_ended_keeps room cs s b ts r e t
  settle_keeps (at_past_then p q ts us s b r d e f) t = stays_as (at_past_then p q ts us s b r d e f)
  settle_keeps (at_past_commands p ts s b r d e) t = stays_as (at_past_commands p ts s b r d e)
  settle_keeps (at_past_semicolon p q ts s b r d e) t = stays_as (at_past_semicolon p q ts s b r d e)
  settle_keeps (at_simple s b r) t = stays_as (at_simple s b r)
  settle_keeps (at_factor s b r) t = stays_as (at_factor s b r)
  settle_keeps (at_past_factor ts {cs} s {y = y} b r e) t = settle_factor_keeps room cs s b r ts y e t
  settle_keeps (at_past_term ts s b r e) t = stays_as (at_past_term ts s b r e)
  settle_keeps (at_past_simple ts s b r e) t = stays_as (at_past_simple ts s b r e)
  settle_keeps (at_past_expression ts s b r e h) t = stays_as (at_past_expression ts s b r e h)

  -- ── one token ─────────────────────────────────────────────────────────────────────────────

  settled_keeps :
      (cs : List Scope) {Y : List Lexeme → List Lexeme} (t : Token) (p : ℕ) {sd : Settled} → Stays room cs Y sd →
      Goes room (λ l. Y (at t p ∷ l)) (settled room cs t p sd)
  settled_keeps cs t p (stays_at r e) = same_tokens (λ l. e (at t p ∷ l)) (shift_keeps r t p)
  settled_keeps cs t p is_wrong = is_refused

  pub judge_keeps :
      {cs : List Scope} {f : Focus} (r : SoFar room cs f) (t : Token) (p : ℕ) →
      Goes room (λ l. all_read r (at t p ∷ l)) (judge room (state cs f) t p)
  judge_keeps {cs} r t p = settled_keeps cs t p (settle_keeps r (some t))
