-- Closing the parts that end before a token keeps what was read.
use Rattle.std.proofs.Common.{◌≡◌, ℕ, suc, pred, Bool, true, false, ◌||◌, List, [], ◌∷◌, ◌++◌, length, sym, refl, ap, ◌∙◌, subst, true≢false, append_assoc}
use mathlib.Core.Option.{some}
use Rattle.model.specs.declared.script.Ty.{Ty}
use Rattle.model.specs.declared.tokens.Word.TheVariants as Words
use Rattle.model.specs.declared.tokens.Sign.TheVariants as Signs
use Rattle.model.specs.declared.script.Ty.TheVariants.{Inteiro, Booleano}
use Rattle.model.specs.declared.faults.MeaningFault.TheVariants.{WrongType}
use Rattle.model.specs.Tokens.{Lexeme}
use Rattle.model.specs.Tree.{Exp, Cmd, joined}
use Rattle.model.specs.Ahead.{Next, is_word, present, is_sign}
use Rattle.model.specs.Ahead.{adding, comparing, multiplying}
use Rattle.model.specs.Types.{same_type, fitting, takes, giving}
use Rattle.model.specs.Names.{Scope, Seen, visible, Kind, a_variable, a_function, a_procedure}
use Rattle.model.specs.Contexts.{CommandIn, past_then, ExpressionIn, SimpleIn, TermIn, FactorIn, past_name}
use Rattle.model.specs.Settling.{Settled, wrong, at as stays, settle_command, settle_expression, settle_simple}
use Rattle.model.specs.Settling.{end_term, settle_term, settle_factor, to_set as sets_to, to_call, settle}
use Rattle.model.specs.Grammar.{one, Deep, Expression, Command, w, g, more, choosing, choosing_either, looping, name_at}
use Rattle.model.specs.Grammar.{assigning, Simple, alone, at, compared, Term, unsigned, positive, negative, summed}
use Rattle.model.specs.Grammar.{Factor, single, multiplied, denying, calling}
use Rattle.grammar.proofs.Choosing.{choose}
use Rattle.grammar.proofs.Questions.{compares}
use Rattle.grammar.proofs.OneType.{found_same, compared_are_one_type, comparing_gives_booleano}
use Rattle.grammar.proofs.Levels.{command_depth, expression_depth, simple_depth, term_depth, factor_depth}
use Rattle.grammar.proofs.Sound.Around.{CommandRead, before_command, first_in, next_in, before_body, then_in, else_in}
use Rattle.grammar.proofs.Sound.Around.{loop_in, ExpressionRead, before_expression, in_brackets, to_set, to_choose}
use Rattle.grammar.proofs.Sound.Around.{to_repeat, SimpleRead, before_simple, on_left, on_right, TermRead, before_term}
use Rattle.grammar.proofs.Sound.Around.{as_first, as_plus, as_minus, as_next, FactorRead, before_factor, the_first}
use Rattle.grammar.proofs.Sound.Around.{the_next, the_denied}
use Rattle.grammar.proofs.Sound.SoFar.{Declaring, Stays, before_block, stays_at, is_wrong, stays_as, at_past_then}
use Rattle.grammar.proofs.Sound.SoFar.{at_past_commands, at_past_expression, at_past_simple, at_past_term, at_to_assign}

module _ (room : ℕ) (outer : List Scope) (block : Scope) (here : Declaring room outer block) where
  abbrev cs : List Scope
  cs = block ∷ outer

  -- levels around the block's body
  abbrev m : ℕ
  m = length outer

  -- the tokens Y behind the block's declarations are what was read
  abbrev Keeps : (List Lexeme → List Lexeme) → Settled → Type 0
  Keeps Y sd = Stays room cs (λ l. before_block here (Y l)) sd

  same_tokens :
      {Y Z : List Lexeme → List Lexeme} → ((l : List Lexeme) → Y l ≡ Z l) → {sd : Settled} →
      Stays room cs Y sd → Stays room cs Z sd
  same_tokens h (stays_at r e) = stays_at r (λ l. e l ∙ h l)
  same_tokens h is_wrong = is_wrong

  -- tokens may be grouped otherwise
  regrouped :
      (Y : List Lexeme → List Lexeme) (ts us : List Lexeme) {sd : Settled} →
      Keeps (λ l. Y ((ts ++ us) ++ l)) sd → Keeps (λ l. Y (ts ++ (us ++ l))) sd
  regrouped Y ts us = same_tokens (λ l. ap (λ z. before_block here (Y z)) (append_assoc ts us l))

  choose_keeps :
      {Y : List Lexeme → List Lexeme} (b : Bool) {x y : Settled} →
      (b ≡ true → Stays room cs Y x) → (b ≡ false → Stays room cs Y y) → Stays room cs Y (choose b x y)
  choose_keeps true f h = f refl
  choose_keeps false f h = h refl

  -- where a test decides between going on and a fault
  only_if_keeps :
      {Y : List Lexeme → List Lexeme} (b : Bool) {x : Settled} →
      (b ≡ true → Stays room cs Y x) → Stays room cs Y (choose b x (wrong WrongType))
  only_if_keeps b f = choose_keeps b f (λ s. is_wrong)

  -- ── commands ──────────────────────────────────────────────────────────────────────────────

  -- a command ends before `senao` only if no `se` inside it waits for one
  abbrev NoSenaoIf : Bool → Next → Type 0
  NoSenaoIf b t = b ≡ true → is_word Words.Senao t ≡ false

  nothing_waits : (t : Next) → NoSenaoIf false t
  nothing_waits t e = absurd (true≢false (sym e))

  then_part_ends :
      (p q : ℕ) (ts us : List Lexeme) {x : Exp} {c : Cmd} {k : CommandIn} (r : CommandRead cs k) →
      Deep (command_depth m k) → Expression cs (suc (command_depth m k)) ts x Booleano →
      (b : Bool) → Command cs (suc (command_depth m k)) us c b →
      (t : Next) → NoSenaoIf b t → is_word Words.Senao t ≡ true →
      Keeps (λ l. before_command r (w Words.Se p ∷ (ts ++ (w Words.Entao q ∷ (us ++ l))))) (stays (past_then p x c k))
  then_part_ends p q ts us r d e true f t n s = absurd (true≢false (sym s ∙ n refl))
  then_part_ends p q ts us r d e false f t n s = (stays_as (at_past_then p q ts us block here r d e f))

  settle_command_keeps :
      {k : CommandIn} (r : CommandRead cs k) (us : List Lexeme) {c : Cmd} (b : Bool) →
      Command cs (command_depth m k) us c b → (t : Next) → NoSenaoIf b t →
      Keeps (λ l. before_command r (us ++ l)) (settle_command t c k)
  settle_command_keeps (first_in p r d) us b f t n = stays_as (at_past_commands p us block here r d (one us f))
  settle_command_keeps (next_in p q ts r d e) us b f t n =
      regrouped (λ z. before_body r (w Words.Inicio p ∷ z)) ts (g Signs.Semicolon q ∷ us)
      (stays_as (at_past_commands p (ts ++ g Signs.Semicolon q ∷ us) block here r d (more q ts us e f)))
  settle_command_keeps (then_in p q ts r d e) us b f t n =
      choose_keeps (is_word Words.Senao t)
      (λ s. then_part_ends p q ts us r d e b f t n s)
      (λ s. regrouped (λ z. before_command r (w Words.Se p ∷ z)) ts (w Words.Entao q ∷ us)
      (settle_command_keeps r (w Words.Se p ∷ ts ++ w Words.Entao q ∷ us) true (choosing p q ts us d e f) t (λ z. s)))
  settle_command_keeps (else_in p q o ts vs r d e h) us b f t n =
      same_tokens (λ l. ap (λ z. before_block here (before_command r (w Words.Se p ∷ z))) (
      append_assoc (ts ++ w Words.Entao q ∷ vs) (w Words.Senao o ∷ us) l
      ∙ append_assoc ts (w Words.Entao q ∷ vs) (w Words.Senao o ∷ (us ++ l))
      ))
      (settle_command_keeps r (w Words.Se p ∷ ts ++ w Words.Entao q ∷ vs ++ w Words.Senao o ∷ us) b
      (choosing_either p q o ts vs us d e h f) t n)
  settle_command_keeps (loop_in p q ts r d e) us b f t n =
      regrouped (λ z. before_command r (w Words.Enquanto p ∷ z)) ts (w Words.Faca q ∷ us)
      (settle_command_keeps r (w Words.Enquanto p ∷ ts ++ w Words.Faca q ∷ us) b (looping p q ts us d e f) t n)

  -- a command in which no `se` waits has ended
  pub command_ended_keeps :
      (us : List Lexeme) {c : Cmd} {k : CommandIn} (r : CommandRead cs k) →
      Command cs (command_depth m k) us c false → (t : Next) →
      Keeps (λ l. before_command r (us ++ l)) (settle_command t c k)
  command_ended_keeps us r e t = settle_command_keeps r us false e t (nothing_waits t)

  -- ── expressions ───────────────────────────────────────────────────────────────────────────

  settle_expression_keeps :
      {k : ExpressionIn} (r : ExpressionRead cs k) (us : List Lexeme) {x : Exp} (y : Ty) →
      Expression cs (expression_depth m k) us x y → (t : Next) →
      Keeps (λ l. before_expression r (us ++ l)) (settle_expression t x y k)
  settle_expression_keeps (in_brackets p r d) us y e t =
      (stays_as (at_past_expression us block here (in_brackets p r d) e tt))
  settle_expression_keeps (to_set p q n d z f {k} v h r) us {x} y e t =
      only_if_keeps (same_type y z) (λ s.
      let as_wanted = subst (λ (a : Ty). Expression cs (command_depth m k) us x a) (found_same y z s) e in
      command_ended_keeps (name_at n p ∷ g Signs.Becomes q ∷ us) r (assigning p q n d us z f v h as_wanted) t)
  settle_expression_keeps (to_choose p r d) us Inteiro e t = is_wrong
  settle_expression_keeps (to_choose p r d) us Booleano e t =
      (stays_as (at_past_expression us block here (to_choose p r d) e refl))
  settle_expression_keeps (to_repeat p r d) us Inteiro e t = is_wrong
  settle_expression_keeps (to_repeat p r d) us Booleano e t =
      (stays_as (at_past_expression us block here (to_repeat p r d) e refl))

  settle_simple_keeps :
      {k : SimpleIn} (r : SimpleRead cs k) (us : List Lexeme) {x : Exp} (y : Ty) →
      Simple cs (simple_depth m k) us x y → (t : Next) →
      Keeps (λ l. before_simple r (us ++ l)) (settle_simple t x y k)
  settle_simple_keeps (on_left r) us y e t =
      choose_keeps (present (adding t) || present (comparing t))
      (λ s. (stays_as (at_past_simple us block here (on_left r) e)))
      (λ s. settle_expression_keeps r us y (alone us y e) t)
  settle_simple_keeps (on_right ts a p {x = z} {y = v} {o} {k} r f h) us {x} y e t =
      choose_keeps (present (adding t))
      (λ s. (stays_as (at_past_simple us block here (on_right ts a p r f h) e)))
      (λ s. only_if_keeps (fitting (takes o) v y) (λ i. side_by_side (compared_are_one_type (compares a o h) v y i)))
    where
      side_by_side :
          v ≡ y →
          Keeps (λ l. before_expression r (ts ++ (at a p ∷ (us ++ l))))
          (settle_expression t (joined o p z x) (giving (takes o)) k)
      side_by_side i =
          let right = subst (λ (b : Ty). Simple cs (expression_depth m k) us x b) (sym i) e in
          let both = subst (λ (b : Ty). Expression cs (expression_depth m k) (ts ++ at a p ∷ us) (joined o p z x) b)
          (sym (comparing_gives_booleano (compares a o h))) (compared ts us v a o p f h right) in
          regrouped (before_expression r) ts (at a p ∷ us)
          (settle_expression_keeps r (ts ++ at a p ∷ us) (giving (takes o)) both t)

  end_term_keeps :
      {k : TermIn} (r : TermRead cs k) (us : List Lexeme) {x : Exp} (y : Ty) →
      Term cs (term_depth m k) us x y → (t : Next) →
      Keeps (λ l. before_term r (us ++ l)) (end_term t x y k)
  end_term_keeps (as_first r) us y e t = settle_simple_keeps r us y (unsigned us y e) t
  end_term_keeps (as_plus p r) us Inteiro e t = settle_simple_keeps r (g Signs.Plus p ∷ us) Inteiro (positive us p e) t
  end_term_keeps (as_plus p r) us Booleano e t = is_wrong
  end_term_keeps (as_minus p r) us Inteiro e t =
      settle_simple_keeps r (g Signs.Minus p ∷ us) Inteiro (negative us p e) t
  end_term_keeps (as_minus p r) us Booleano e t = is_wrong
  end_term_keeps (as_next ts a p {y = v} {o} r f h) us y e t =
      only_if_keeps (fitting (takes o) v y) (λ s.
      regrouped (before_simple r) ts (at a p ∷ us)
      (settle_simple_keeps r (ts ++ at a p ∷ us) (giving (takes o)) (summed ts us v y a o p f h e s) t))

  settle_term_keeps :
      {k : TermIn} (r : TermRead cs k) (us : List Lexeme) {x : Exp} (y : Ty) →
      Term cs (term_depth m k) us x y → (t : Next) →
      Keeps (λ l. before_term r (us ++ l)) (settle_term t x y k)
  settle_term_keeps r us y e t =
      choose_keeps (present (multiplying t))
      (λ s. (stays_as (at_past_term us block here r e))) (λ s. end_term_keeps r us y e t)

  pub settle_factor_keeps :
      {k : FactorIn} (r : FactorRead cs k) (us : List Lexeme) {x : Exp} (y : Ty) →
      Factor cs (factor_depth m k) us x y → (t : Next) →
      Keeps (λ l. before_factor r (us ++ l)) (settle_factor t x y k)
  settle_factor_keeps (the_first r) us y e t = settle_term_keeps r us y (single us y e) t
  settle_factor_keeps (the_next ts a p {y = v} {o} r f h) us y e t =
      only_if_keeps (fitting (takes o) v y) (λ s.
      regrouped (before_term r) ts (at a p ∷ us)
      (settle_term_keeps r (ts ++ at a p ∷ us) (giving (takes o)) (multiplied ts us v y a o p f h e s) t))
  settle_factor_keeps (the_denied p r d) us Inteiro e t = is_wrong
  settle_factor_keeps (the_denied p r d) us Booleano e t =
      settle_factor_keeps r (w Words.Nao p ∷ us) Booleano (denying p us d e) t

  -- ── a command's leading name ──────────────────────────────────────────────────────────────

  to_set_keeps :
      (p : ℕ) (n : List ℕ) (d : Seen) {k : CommandIn} (r : CommandRead cs k) → visible n cs ≡ some d →
      (a : Kind) (i : Bool) → d.kind ≡ a → d.inside ≡ i →
      Keeps (λ l. before_command r (name_at n p ∷ l)) (sets_to p a d.hops i k)
  to_set_keeps p n d r v (a_variable y j) i e h =
      (stays_as (at_to_assign p n d y (record { hops = d.hops; index = j }) block here r v (rw e (refl, refl))))
  to_set_keeps p n d r v (a_function y j) true e h =
      stays_as (at_to_assign p n d y (record { hops = pred d.hops; index = 0 }) block here r v
      (rw (e, h) (refl, refl)))
  to_set_keeps p n d r v (a_function y j) false e h = is_wrong
  to_set_keeps p n d r v (a_procedure j) i e h = is_wrong

  to_call_keeps :
      (p : ℕ) (n : List ℕ) (d : Seen) {k : CommandIn} (r : CommandRead cs k) → visible n cs ≡ some d →
      (t : Next) (a : Kind) → d.kind ≡ a →
      Keeps (λ l. before_command r (name_at n p ∷ l)) (to_call t p a d.hops k)
  to_call_keeps p n d r v t (a_variable y j) e = is_wrong
  to_call_keeps p n d r v t (a_function y j) e = is_wrong
  to_call_keeps p n d r v t (a_procedure j) e = command_ended_keeps (name_at n p ∷ []) r (calling p j n d v e) t

  pub leading_name_keeps :
      (p : ℕ) (n : List ℕ) (d : Seen) {k : CommandIn} (r : CommandRead cs k) → visible n cs ≡ some d → (t : Next) →
      Keeps (λ l. before_command r (name_at n p ∷ l)) (settle t (past_name p d.kind d.hops d.inside k))
  leading_name_keeps p n d r v t =
      choose_keeps (is_sign Signs.Becomes t)
      (λ s. to_set_keeps p n d r v d.kind d.inside refl refl) (λ s. to_call_keeps p n d r v t d.kind refl)
