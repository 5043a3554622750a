-- The tokens that the rules make into an expression lead the judge past that expression.
use Rattle.std.proofs.Common.{◌≡◌, ℕ, suc, Bool, true, false, ◌||◌, List, [], ◌∷◌, ◌++◌, refl, ap, ◌∙◌, ap₂}
use mathlib.Core.Option.{Option, some}
use Rattle.model.specs.declared.script.Ty.{Ty}
use Rattle.model.specs.declared.script.Operator.{Operator}
use Rattle.model.specs.declared.tokens.Word.TheVariants as Words
use Rattle.model.specs.declared.tokens.Sign.TheVariants as Signs
use Rattle.model.specs.declared.script.Ty.TheVariants.{Inteiro, Booleano}
use Rattle.model.specs.declared.faults.MeaningFault.TheVariants.{WrongType}
use Rattle.model.specs.Contexts
use Rattle.model.specs.Tokens.{Stream, Lexeme, next, Token, name, sign, word}
use Rattle.model.specs.Tree.{Exp, joined}
use Rattle.model.specs.Ahead.{Next, present}
use Rattle.model.specs.Ahead.{multiplying, adding, comparing}
use Rattle.model.specs.Types.{fitting, takes, giving}
use Rattle.model.specs.Names.{Scope, Seen, Kind, visible, a_variable, a_function}
use Rattle.model.specs.Contexts.{Focus, SimpleIn, want_simple, want_factor, first_factor, first_term, TermIn}
use Rattle.model.specs.Contexts.{past_factor, next_factor, past_term, next_term, left_of, right_of, ExpressionIn}
use Rattle.model.specs.Contexts.{past_simple, FactorIn, denied_factor, plus_term, minus_term}
use Rattle.model.specs.Settling.{settle_term, wrong, end_term, at as stays, settle_simple, settle_expression, Settled}
use Rattle.model.specs.Judged.{on, with_seen}
use Rattle.model.specs.Bodies.{use_of}
use Rattle.model.specs.Judge.{Verdict, go_on, verdict}
use Rattle.model.specs.Grammar.{at, Factor, variable_use, function_use, a_number, verdadeiro, falso, bracketed, denying}
use Rattle.model.specs.Grammar.{Term, single, multiplied, Deep, g, Simple, unsigned, positive, negative, summed}
use Rattle.model.specs.Grammar.{Expression, alone, compared}
use Rattle.grammar.specs.Operators.{or, Multiplies, times, div, and, Adds, plus, minus, Compares, equal, unequal, less}
use Rattle.grammar.specs.Operators.{at_most, greater, at_least}
use Rattle.grammar.proofs.Choosing.{choose_true, choose_false, choose}
use Rattle.grammar.proofs.Questions.{multiplies, adds, compares}
use Rattle.grammar.proofs.OneType.{one_type_compares, comparing_gives_booleano}
use Rattle.grammar.proofs.Levels.{factor_depth, around, deeper_admits, factor_depth_is, term_depth, simple_depth}
use Rattle.grammar.proofs.Levels.{expression_depth}
use Rattle.grammar.proofs.Streams.{outcome, ◌▷◌, ▷-append, settles_alike, decided, split}

module _ (room : ℕ) (cs : List Scope) where
  abbrev judging : Stream → Focus → Verdict
  judging = outcome room cs

  -- ── where a simple expression begins ──────────────────────────────────────────────────────

  -- at a factor's first token it is the same whether a simple expression or its first factor is wanted
  factor_begins_simple :
      {n : ℕ} {ts : List Lexeme} {x : Exp} {y : Ty} → Factor cs n ts x y → (k : SimpleIn) (s : Stream) →
      judging (ts ▷ s) (want_simple k) ≡ judging (ts ▷ s) (want_factor (first_factor (first_term k)))
  factor_begins_simple (variable_use p i r d y e h) k s = refl
  factor_begins_simple (function_use p i r d y e h) k s = refl
  factor_begins_simple (a_number p v) k s = refl
  factor_begins_simple (verdadeiro p) k s = refl
  factor_begins_simple (falso p) k s = refl
  factor_begins_simple (bracketed p q ts y h e) k s = refl
  factor_begins_simple (denying p ts h e) k s = refl

  term_begins_simple :
      {n : ℕ} {ts : List Lexeme} {x : Exp} {y : Ty} → Term cs n ts x y → (k : SimpleIn) (s : Stream) →
      judging (ts ▷ s) (want_simple k) ≡ judging (ts ▷ s) (want_factor (first_factor (first_term k)))
  term_begins_simple (single ts y e) k s = factor_begins_simple e k s
  term_begins_simple (multiplied ts us y v t o p e q f h) k s =
      rw (▷-append ts (at t p ∷ us) s) (term_begins_simple e k (next t p (us ▷ s)))

  -- ── factors of a term ─────────────────────────────────────────────────────────────────────

  at_multiplying :
      {t : Token} {o : Operator} → Multiplies t o → (x : Exp) (y : Ty) (p : ℕ) (k : TermIn) (s : Stream) →
      judging (next t p s) (past_factor x y (first_factor k)) ≡ judging s (want_factor (next_factor x y o p k))
  at_multiplying times x y p k s = refl
  at_multiplying div x y p k s = refl
  at_multiplying and x y p k s = refl

  factor_joins :
      (o : Operator) (x z : Exp) (y v : Ty) (p : ℕ) (k : TermIn) (s : Stream) → fitting (takes o) y v ≡ true →
      judging s (past_factor z v (next_factor x y o p k))
      ≡ judging s (past_factor (joined o p x z) (giving (takes o)) (first_factor k))
  factor_joins o x z y v p k s h =
      settles_alike room cs s _ _ (λ t. choose_true (settle_term t (joined o p x z) (giving (takes o)) k)
      (wrong WrongType) h)

  term_ends :
      (t : Next) (x : Exp) (y : Ty) (k : TermIn) → present (multiplying t) ≡ false →
      settle_term t x y k ≡ end_term t x y k
  term_ends t x y k q = choose_false (stays (past_term x y k)) (end_term t x y k) q

  -- ── terms of a simple expression ──────────────────────────────────────────────────────────

  at_adding :
      {t : Token} {o : Operator} → Adds t o → (x : Exp) (y : Ty) (p : ℕ) (k : SimpleIn) (s : Stream) →
      decided room cs t p s (settle_simple (some t) x y k)
      ≡ judging s (want_factor (first_factor (next_term x y o p k)))
  at_adding plus x y p (left_of k) s = refl
  at_adding plus x y p (right_of a b c d k) s = refl
  at_adding minus x y p (left_of k) s = refl
  at_adding minus x y p (right_of a b c d k) s = refl
  at_adding or x y p (left_of k) s = refl
  at_adding or x y p (right_of a b c d k) s = refl

  adding_ends_term : {t : Token} {o : Operator} → Adds t o → present (multiplying (some t)) ≡ false
  adding_ends_term plus = refl
  adding_ends_term minus = refl
  adding_ends_term or = refl

  -- ── sides of a comparison ─────────────────────────────────────────────────────────────────

  at_comparing :
      {t : Token} {o : Operator} → Compares t o → (x : Exp) (y : Ty) (p : ℕ) (k : ExpressionIn) (s : Stream) →
      decided room cs t p s (settle_simple (some t) x y (left_of k)) ≡ judging s (want_simple (right_of x y o p k))
  at_comparing equal x y p k s = refl
  at_comparing unequal x y p k s = refl
  at_comparing less x y p k s = refl
  at_comparing at_most x y p k s = refl
  at_comparing greater x y p k s = refl
  at_comparing at_least x y p k s = refl

  comparing_ends_term : {t : Token} {o : Operator} → Compares t o → present (multiplying (some t)) ≡ false
  comparing_ends_term equal = refl
  comparing_ends_term unequal = refl
  comparing_ends_term less = refl
  comparing_ends_term at_most = refl
  comparing_ends_term greater = refl
  comparing_ends_term at_least = refl

  left_side_ends :
      (t : Next) (x : Exp) (y : Ty) (k : ExpressionIn) → present (adding t) ≡ false → present (comparing t) ≡ false →
      settle_simple t x y (left_of k) ≡ settle_expression t x y k
  left_side_ends t x y k q r =
      choose_false (stays (past_simple x y (left_of k))) (settle_expression t x y k) (ap₂ (λ (a b : Bool). a || b) q r)

  right_side_ends :
      {a : Token} {o : Operator} → Compares a o → (t : Next) (x z : Exp) (y : Ty) (p : ℕ) (k : ExpressionIn) →
      present (adding t) ≡ false →
      settle_simple t z y (right_of x y o p k) ≡ settle_expression t (joined o p x z) Booleano k
  right_side_ends {a} {o} c t x z y p k q =
      let whole : Settled = settle_expression t (joined o p x z) (giving (takes o)) k in
      choose_false (stays (past_simple z y (right_of x y o p k)))
      (choose (fitting (takes o) y y) whole (wrong WrongType)) q
      ∙ choose_true whole (wrong WrongType) (one_type_compares c y)
      ∙ ap (λ (u : Ty). settle_expression t (joined o p x z) u k) (comparing_gives_booleano c)

  -- ── single tokens of a factor ─────────────────────────────────────────────────────────────

  at_used_name :
      (p : ℕ) (r : List ℕ) (d : Seen) (k : FactorIn) (s : Stream) (x : Kind) (f : Focus) →
      visible r cs ≡ some d → d.kind ≡ x → use_of cs p k x d.hops ≡ on cs f →
      judging (next (name r) p s) (want_factor k) ≡ judging s f
  at_used_name p r d k s x f e h u =
      ap (λ (v : Option Seen). go_on (verdict room s) p s (with_seen v (λ c. use_of cs p k c.kind c.hops))) e
      ∙ ap (λ (a : Kind). go_on (verdict room s) p s (use_of cs p k a d.hops)) h
      ∙ ap (go_on (verdict room s) p s) u

  at_bracket :
      (p : ℕ) (k : FactorIn) (s : Stream) → Deep (factor_depth (around cs) k) →
      judging (next (sign Signs.OpenBracket) p s) (want_factor k)
      ≡ judging s (want_simple (left_of (Contexts.bracketed k)))
  at_bracket p k s h =
      ap (go_on (verdict room s) p s) (deeper_admits cs _ _ _ (factor_depth_is (around cs) k) h)

  at_nao :
      (p : ℕ) (k : FactorIn) (s : Stream) → Deep (factor_depth (around cs) k) →
      judging (next (word Words.Nao) p s) (want_factor k) ≡ judging s (want_factor (denied_factor p k))
  at_nao p k s h =
      ap (go_on (verdict room s) p s) (deeper_admits cs _ _ _ (factor_depth_is (around cs) k) h)

  -- ── whole expressions ─────────────────────────────────────────────────────────────────────

  mutual
    passes_factor :
        {n : ℕ} {ts : List Lexeme} {x : Exp} {y : Ty} → Factor cs n ts x y →
        (k : FactorIn) → factor_depth (around cs) k ≡ n → (s : Stream) →
        judging (ts ▷ s) (want_factor k) ≡ judging s (past_factor x y k)
    passes_factor (variable_use p i r d y e h) k l s = at_used_name p r d k s (a_variable y i) _ e h refl
    passes_factor (function_use p i r d y e h) k l s = at_used_name p r d k s (a_function y i) _ e h refl
    passes_factor (a_number p v) k l s = refl
    passes_factor (verdadeiro p) k l s = refl
    passes_factor (falso p) k l s = refl
    passes_factor (bracketed p q ts y h e) k l s =
        at_bracket p k ((ts ++ g Signs.CloseBracket q ∷ []) ▷ s) (rw l h)
        ∙ split room cs ts (g Signs.CloseBracket q ∷ []) s (want_simple (left_of (Contexts.bracketed k)))
        ∙ passes_expression e (Contexts.bracketed k) (ap suc l) (sign Signs.CloseBracket) q s refl refl refl
    passes_factor (denying p ts h e) k l s =
        at_nao p k (ts ▷ s) (rw l h) ∙ passes_factor e (denied_factor p k) (ap suc l) s
        ∙ settles_alike room cs s _ _ (λ t. refl)

    passes_term :
        {n : ℕ} {ts : List Lexeme} {x : Exp} {y : Ty} → Term cs n ts x y →
        (k : TermIn) → term_depth (around cs) k ≡ n → (s : Stream) →
        judging (ts ▷ s) (want_factor (first_factor k)) ≡ judging s (past_factor x y (first_factor k))
    passes_term (single ts y e) k l s = passes_factor e (first_factor k) l s
    passes_term (multiplied ts us {x} {z} y v t o p e q f h) k l s =
        split room cs ts (at t p ∷ us) s (want_factor (first_factor k))
        ∙ passes_term e k l (next t p (us ▷ s))
        ∙ at_multiplying (multiplies t o q) x y p k (us ▷ s)
        ∙ passes_factor f (next_factor x y o p k) l s
        ∙ factor_joins o x z y v p k s h

    passes_simple :
        {n : ℕ} {ts : List Lexeme} {x : Exp} {y : Ty} → Simple cs n ts x y →
        (k : SimpleIn) → simple_depth (around cs) k ≡ n → (t : Token) (p : ℕ) (s : Stream) →
        present (multiplying (some t)) ≡ false →
        judging (ts ▷ next t p s) (want_simple k) ≡ decided room cs t p s (settle_simple (some t) x y k)
    passes_simple (unsigned ts {x} y e) k l t p s q =
        term_begins_simple e k (next t p s) ∙ passes_term e (first_term k) l (next t p s)
        ∙ ap (decided room cs t p s) (term_ends (some t) x y (first_term k) q)
    passes_simple (positive ts {x} o e) k l t p s q =
        passes_term e (plus_term k) l (next t p s)
        ∙ ap (decided room cs t p s) (term_ends (some t) x Inteiro (plus_term k) q)
    passes_simple (negative ts {x} o e) k l t p s q =
        passes_term e (minus_term o k) l (next t p s)
        ∙ ap (decided room cs t p s) (term_ends (some t) x Inteiro (minus_term o k) q)
    passes_simple (summed ts us {x} {z} y v a o b e r f h) k l t p s q =
        split room cs ts (at a b ∷ us) (next t p s) (want_simple k)
        ∙ passes_simple e k l a b (us ▷ next t p s) (adding_ends_term (adds a o r))
        ∙ at_adding (adds a o r) x y b k (us ▷ next t p s)
        ∙ passes_term f (next_term x y o b k) l (next t p s)
        ∙ ap (decided room cs t p s) (
        term_ends (some t) z v (next_term x y o b k) q
        ∙ choose_true (settle_simple (some t) (joined o b x z) (giving (takes o)) k) (wrong WrongType) h
        )

    pub passes_expression :
        {n : ℕ} {ts : List Lexeme} {x : Exp} {y : Ty} → Expression cs n ts x y →
        (k : ExpressionIn) → expression_depth (around cs) k ≡ n → (t : Token) (p : ℕ) (s : Stream) →
        present (multiplying (some t)) ≡ false → present (adding (some t)) ≡ false →
        present (comparing (some t)) ≡ false →
        judging (ts ▷ next t p s) (want_simple (left_of k)) ≡ decided room cs t p s (settle_expression (some t) x y k)
    passes_expression (alone ts {x} y e) k l t p s q r u =
        passes_simple e (left_of k) l t p s q ∙ ap (decided room cs t p s) (left_side_ends (some t) x y k r u)
    passes_expression (compared ts us {x} {z} y a o b e c f) k l t p s q r u =
        split room cs ts (at a b ∷ us) (next t p s) (want_simple (left_of k))
        ∙ passes_simple e (left_of k) l a b (us ▷ next t p s) (comparing_ends_term (compares a o c))
        ∙ at_comparing (compares a o c) x y b k (us ▷ next t p s)
        ∙ passes_simple f (right_of x y o b k) l t p s q
        ∙ ap (decided room cs t p s) (right_side_ends (compares a o c) (some t) x z y b k r)
