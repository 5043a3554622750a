-- The tokens that the rules make into a command or a body lead the judge past it.
use Rattle.std.proofs.Common.{◌≡◌, ℕ, suc, Bool, true, false, List, [], ◌∷◌, ◌++◌, sym, refl, ap, ◌∙◌, ap₂}
use mathlib.Core.Option.{Option, none, some}
use Rattle.model.specs.declared.script.Ty.{Ty}
use Rattle.model.specs.declared.tokens.Word.TheVariants as Words
use Rattle.model.specs.declared.tokens.Sign.TheVariants as Signs
use Rattle.model.specs.declared.script.Ty.TheVariants.{Inteiro}
use Rattle.model.specs.declared.faults.MeaningFault.TheVariants.{WrongType}
use Rattle.model.specs.Tree
use Rattle.model.specs.Tokens.{Token, sign, word, Stream, Lexeme, next, name}
use Rattle.model.specs.Tree.{Cmd, Found, Exp, assign, invoke}
use Rattle.model.specs.Ahead.{present, is_sign}
use Rattle.model.specs.Ahead.{multiplying, adding, comparing}
use Rattle.model.specs.Names.{Scope, Seen, visible, Kind, a_variable, a_function, a_procedure}
use Rattle.model.specs.Contexts.{Focus, BodyIn, past_semicolon, want_command, in_body, CommandIn, past_name, to_assign}
use Rattle.model.specs.Contexts.{want_simple, left_of, assigned, chosen, repeated, inner, past_command, in_then}
use Rattle.model.specs.Contexts.{leia_close, escreva_close, in_loop, in_else, past_commands, own}
use Rattle.model.specs.Settling.{to_set, at as stays, settle_command, wrong, to_call}
use Rattle.model.specs.Judged.{Judged, on, with_seen}
use Rattle.model.specs.Bodies.{number_variable, body_ended}
use Rattle.model.specs.Judge.{Verdict, go_on, verdict}
use Rattle.model.specs.Grammar.{one, Body, closed, trailing, Command, assigning, calling, reading, writing, grouped}
use Rattle.model.specs.Grammar.{looping, choosing, choosing_either, SettableKind, Settable, Deep, Expression, w, Commands}
use Rattle.model.specs.Grammar.{more, g}
use Rattle.grammar.proofs.Choosing.{choose_true, choose_false}
use Rattle.grammar.proofs.OneType.{a_type_is_itself}
use Rattle.grammar.proofs.Levels.{command_depth, around, deeper_admits, command_depth_is, body_depth}
use Rattle.grammar.proofs.Streams.{outcome, ◌▷◌, decided, split}
use Rattle.grammar.proofs.Complete.Expressions.{passes_expression}

-- what may follow a command: `senao` only where no `se` inside it waits for one
data MayFollow : Bool → Token → Type 0 where
  a_semicolon : (b : Bool) → MayFollow b (sign Signs.Semicolon)
  a_fim : (b : Bool) → MayFollow b (word Words.Fim)
  a_senao : MayFollow false (word Words.Senao)

may_follow_any : {t : Token} (b : Bool) → MayFollow true t → MayFollow b t
may_follow_any b (a_semicolon _) = a_semicolon b
may_follow_any b (a_fim _) = a_fim b

-- it is no operator, and not `:=`
record EndsAll (t : Token) : Type 0 where
  unmultiplied : present (multiplying (some t)) ≡ false
  unadded : present (adding (some t)) ≡ false
  uncompared : present (comparing (some t)) ≡ false
  unset : is_sign Signs.Becomes (some t) ≡ false

ends_all : {b : Bool} {t : Token} → MayFollow b t → EndsAll t
ends_all (a_semicolon b) = record { unmultiplied = refl; unadded = refl; uncompared = refl; unset = refl }
ends_all (a_fim b) = record { unmultiplied = refl; unadded = refl; uncompared = refl; unset = refl }
ends_all a_senao = record { unmultiplied = refl; unadded = refl; uncompared = refl; unset = refl }

module _ (room : ℕ) (cs : List Scope) where
  abbrev judging : Stream → Focus → Verdict
  judging = outcome room cs

  -- ── a command behind a semicolon, where `fim` might have stood ────────────────────────────

  body_after_semicolon :
      {n : ℕ} {ts : List Lexeme} {c : Cmd} → Body cs n ts c → (d : Cmd) (k : BodyIn) (s : Stream) →
      judging (ts ▷ s) (past_semicolon d k) ≡ judging (ts ▷ s) (want_command (in_body (some d) k))
  body_after_semicolon (closed p q ts h e) d k s = refl
  body_after_semicolon (trailing p q r ts h e) d k s = refl

  command_after_semicolon :
      {n : ℕ} {ts : List Lexeme} {c : Cmd} {b : Bool} → Command cs n ts c b → (d : Cmd) (k : BodyIn) (s : Stream) →
      judging (ts ▷ s) (past_semicolon d k) ≡ judging (ts ▷ s) (want_command (in_body (some d) k))
  command_after_semicolon (assigning p q r d ts y f e h x) c k s = refl
  command_after_semicolon (calling p i r d e h) c k s = refl
  command_after_semicolon (reading p q r o i n d e h) c k s = refl
  command_after_semicolon (writing p q r o i n d e h) c k s = refl
  command_after_semicolon (grouped ts e) c k s = body_after_semicolon e c k s
  command_after_semicolon (looping p q ts us h e f) c k s = refl
  command_after_semicolon (choosing p q ts us h e f) c k s = refl
  command_after_semicolon (choosing_either p q r ts us vs h e f f1) c k s = refl

  -- ── first tokens ──────────────────────────────────────────────────────────────────────────

  at_leading_name :
      (p : ℕ) (r : List ℕ) (d : Seen) (k : CommandIn) (s : Stream) → visible r cs ≡ some d →
      judging (next (name r) p s) (want_command k) ≡ judging s (past_name p d.kind d.hops d.inside k)
  at_leading_name p r d k s e =
      let go : Seen → Judged = λ c. on cs (past_name p c.kind c.hops c.inside k) in
      ap (λ (v : Option Seen). go_on (verdict room s) p s (with_seen v go)) e

  what_is_set :
      (p : ℕ) (a : Kind) (h : ℕ) (i : Bool) (y : Ty) (f : Found) (k : CommandIn) → SettableKind a h i y f →
      to_set p a h i k ≡ stays (to_assign p f y k)
  what_is_set p (a_variable z j) h i y f k e =
      ap₂ (λ (u : Ty) (v : Found). stays (to_assign p v u k)) e.0 (sym e.1)
  what_is_set p (a_function z j) h true y f k e =
      ap₂ (λ (u : Ty) (v : Found). stays (to_assign p v u k)) e.0 (sym e.1)
  what_is_set p (a_function z j) h false y f k e = absurd e
  what_is_set p (a_procedure j) h i y f k e = absurd e

  at_becomes :
      (p q : ℕ) (d : Seen) (y : Ty) (f : Found) (k : CommandIn) (s : Stream) → Settable d y f →
      judging (next (sign Signs.Becomes) q s) (past_name p d.kind d.hops d.inside k)
      ≡ judging s (want_simple (left_of (assigned p f y k)))
  at_becomes p q d y f k s h =
      ap (decided room cs (sign Signs.Becomes) q s) (what_is_set p d.kind d.hops d.inside y f k h)

  at_se :
      (p : ℕ) (k : CommandIn) (s : Stream) → Deep (command_depth (around cs) k) →
      judging (next (word Words.Se) p s) (want_command k) ≡ judging s (want_simple (left_of (chosen p k)))
  at_se p k s h = ap (go_on (verdict room s) p s) (deeper_admits cs _ _ _ (command_depth_is (around cs) k) h)

  at_enquanto :
      (p : ℕ) (k : CommandIn) (s : Stream) → Deep (command_depth (around cs) k) →
      judging (next (word Words.Enquanto) p s) (want_command k) ≡ judging s (want_simple (left_of (repeated p k)))
  at_enquanto p k s h = ap (go_on (verdict room s) p s) (deeper_admits cs _ _ _ (command_depth_is (around cs) k) h)

  at_inicio :
      (p : ℕ) (k : CommandIn) (s : Stream) → Deep (command_depth (around cs) k) →
      judging (next (word Words.Inicio) p s) (want_command k) ≡ judging s (want_command (in_body none (inner k)))
  at_inicio p k s h = ap (go_on (verdict room s) p s) (deeper_admits cs _ _ _ (command_depth_is (around cs) k) h)

  -- the variable of inteiro that `leia` and `escreva` name
  at_number_variable :
      (q : ℕ) (r : List ℕ) (d : Seen) (i : ℕ) (s : Stream) (f : Found → Focus) →
      visible r cs ≡ some d → d.kind ≡ a_variable Inteiro i →
      go_on (verdict room s) q s (with_seen (visible r cs)
      (λ c. number_variable c.kind c.hops (λ v. on cs (f v))))
      ≡ judging s (f (record { hops = d.hops; index = i }))
  at_number_variable q r d i s f e h =
      let go : Kind → ℕ → Judged = λ a n. number_variable a n (λ u. on cs (f u)) in
      ap (λ (v : Option Seen). go_on (verdict room s) q s (with_seen v (λ c. go c.kind c.hops))) e
      ∙ ap (λ (a : Kind). go_on (verdict room s) q s (go a d.hops)) h

  -- ── ends of commands ──────────────────────────────────────────────────────────────────────

  assignment_ends :
      {t : Token} → EndsAll t → {n : ℕ} {ts : List Lexeme} {x : Exp} {y : Ty} → Expression cs n ts x y →
      (p : ℕ) (f : Found) (k : CommandIn) → command_depth (around cs) k ≡ n → (o : ℕ) (s : Stream) →
      judging (ts ▷ next t o s) (want_simple (left_of (assigned p f y k)))
      ≡ judging (next t o s) (past_command (assign p f x) k)
  assignment_ends {t} n {x} {y} e p f k l o s =
      passes_expression room cs e (assigned p f y k) l t o s n.unmultiplied n.unadded n.uncompared
      ∙ ap (decided room cs t o s)
      (choose_true (settle_command (some t) (assign p f x) k) (wrong WrongType) (a_type_is_itself y))

  call_ends :
      {t : Token} → EndsAll t → (p i : ℕ) (d : Seen) (k : CommandIn) → d.kind ≡ a_procedure i →
      (o : ℕ) (s : Stream) →
      judging (next t o s) (past_name p d.kind d.hops d.inside k)
      ≡ judging (next t o s) (past_command (invoke p (record { hops = d.hops; index = i })) k)
  call_ends {t} n p i d k h o s =
      ap (decided room cs t o s) (
      choose_false (to_set p d.kind d.hops d.inside k) (to_call (some t) p d.kind d.hops k) n.unset
      ∙ ap (λ (a : Kind). to_call (some t) p a d.hops k) h
      )

  se_ends :
      {t : Token} → MayFollow true t → (p : ℕ) (x : Exp) (c : Cmd) (k : CommandIn) (o : ℕ) (s : Stream) →
      judging (next t o s) (past_command c (in_then p x k)) ≡ judging (next t o s) (past_command (Tree.se p x c) k)
  se_ends (a_semicolon _) p x c k o s = refl
  se_ends (a_fim _) p x c k o s = refl

  -- ── whole commands ────────────────────────────────────────────────────────────────────────

  mutual
    passes_command :
        {n : ℕ} {ts : List Lexeme} {c : Cmd} {b : Bool} → Command cs n ts c b →
        (k : CommandIn) → command_depth (around cs) k ≡ n → (t : Token) (o : ℕ) (s : Stream) → MayFollow b t →
        judging (ts ▷ next t o s) (want_command k) ≡ judging (next t o s) (past_command c k)
    passes_command (assigning p q r d ts y f e h x) k l t o s u =
        at_leading_name p r d k (next (sign Signs.Becomes) q (ts ▷ next t o s)) e
        ∙ at_becomes p q d y f k (ts ▷ next t o s) h
        ∙ assignment_ends (ends_all u) x p f k l o s
    passes_command (calling p i r d e h) k l t o s u =
        at_leading_name p r d k (next t o s) e ∙ call_ends (ends_all u) p i d k h o s
    passes_command (reading p q r a i n d e h) k l t o s u =
        at_number_variable q n d i (next (sign Signs.CloseBracket) r (next t o s)) (λ f. leia_close p q f k) e h
    passes_command (writing p q r a i n d e h) k l t o s u =
        at_number_variable q n d i (next (sign Signs.CloseBracket) r (next t o s)) (λ f. escreva_close p q f k) e h
    passes_command (grouped ts e) k l t o s u = passes_body e k l (next t o s)
    passes_command (looping p q ts us {x} h e f) k l t o s u =
        at_enquanto p k ((ts ++ w Words.Faca q ∷ us) ▷ next t o s) (rw l h)
        ∙ split room cs ts (w Words.Faca q ∷ us) (next t o s) (want_simple (left_of (repeated p k)))
        ∙ passes_expression room cs e (repeated p k) (ap suc l) (word Words.Faca) q (us ▷ next t o s) refl refl refl
        ∙ passes_command f (in_loop p x k) (ap suc l) t o s u
    passes_command (choosing p q ts us {x} {c} {b} h e f) k l t o s u =
        at_se p k ((ts ++ w Words.Entao q ∷ us) ▷ next t o s) (rw l h)
        ∙ split room cs ts (w Words.Entao q ∷ us) (next t o s) (want_simple (left_of (chosen p k)))
        ∙ passes_expression room cs e (chosen p k) (ap suc l) (word Words.Entao) q (us ▷ next t o s) refl refl refl
        ∙ passes_command f (in_then p x k) (ap suc l) t o s (may_follow_any b u)
        ∙ se_ends u p x c k o s
    passes_command (choosing_either p q r ts us vs {x} {c} h e f f1) k l t o s u =
        let rest : Stream = next (word Words.Senao) r (vs ▷ next t o s) in
        at_se p k ((ts ++ w Words.Entao q ∷ us ++ w Words.Senao r ∷ vs) ▷ next t o s) (rw l h)
        ∙ split room cs (ts ++ w Words.Entao q ∷ us) (w Words.Senao r ∷ vs) (next t o s)
        (want_simple (left_of (chosen p k)))
        ∙ split room cs ts (w Words.Entao q ∷ us) rest (want_simple (left_of (chosen p k)))
        ∙ passes_expression room cs e (chosen p k) (ap suc l) (word Words.Entao) q (us ▷ rest) refl refl refl
        ∙ passes_command f (in_then p x k) (ap suc l) (word Words.Senao) r (vs ▷ next t o s) a_senao
        ∙ passes_command f1 (in_else p x c r k) (ap suc l) t o s u

    passes_commands :
        {n : ℕ} {ts : List Lexeme} {c : Cmd} → Commands cs n ts c →
        (k : BodyIn) → suc (body_depth (around cs) k) ≡ n → (t : Token) (o : ℕ) (s : Stream) → MayFollow true t →
        judging (ts ▷ next t o s) (want_command (in_body none k)) ≡ judging (next t o s) (past_commands c k)
    passes_commands (one ts {c} {b} e) k l t o s u = passes_command e (in_body none k) l t o s (may_follow_any b u)
    passes_commands (more p ts us {c} {d} {b} e f) k l t o s u =
        split room cs ts (g Signs.Semicolon p ∷ us) (next t o s) (want_command (in_body none k))
        ∙ passes_commands e k l (sign Signs.Semicolon) p (us ▷ next t o s) (a_semicolon true)
        ∙ command_after_semicolon f c k (next t o s)
        ∙ passes_command f (in_body (some c) k) l t o s (may_follow_any b u)

    passes_body :
        {n : ℕ} {ts : List Lexeme} {c : Cmd} → Body cs n ts c →
        (k : CommandIn) → command_depth (around cs) k ≡ n → (s : Stream) →
        judging (ts ▷ s) (want_command k) ≡ judging s (past_command c k)
    passes_body (closed p q ts h e) k l s =
        at_inicio p k ((ts ++ w Words.Fim q ∷ []) ▷ s) (rw l h)
        ∙ split room cs ts (w Words.Fim q ∷ []) s (want_command (in_body none (inner k)))
        ∙ passes_commands e (inner k) (ap suc l) (word Words.Fim) q s (a_fim true)
    passes_body (trailing p q r ts h e) k l s =
        at_inicio p k ((ts ++ g Signs.Semicolon q ∷ w Words.Fim r ∷ []) ▷ s) (rw l h)
        ∙ split room cs ts (g Signs.Semicolon q ∷ w Words.Fim r ∷ []) s (want_command (in_body none (inner k)))
        ∙ passes_commands e (inner k) (ap suc l) (sign Signs.Semicolon) q (next (word Words.Fim) r s) (a_semicolon true)

  -- a block's own body, where `inicio` opens it from place f on
  pub passes_own_body :
      {n : ℕ} {ts : List Lexeme} {c : Cmd} → Body cs n ts c → around cs ≡ n → (s : Stream) (f : Focus) →
      ((p : ℕ) (r : Stream) → Deep (around cs) →
      judging (next (word Words.Inicio) p r) f ≡ judging r (want_command (in_body none own))) →
      (q : ℕ) × (judging (ts ▷ s) f ≡ go_on (verdict room s) q s (body_ended cs c own))
  passes_own_body (closed p q ts h e) l s f opens = (
    q,
    opens p ((ts ++ w Words.Fim q ∷ []) ▷ s) (rw l h)
        ∙ split room cs ts (w Words.Fim q ∷ []) s (want_command (in_body none own))
        ∙ passes_commands e own (ap suc l) (word Words.Fim) q s (a_fim true),
  )
  passes_own_body (trailing p q r ts h e) l s f opens = (
    r,
    opens p ((ts ++ g Signs.Semicolon q ∷ w Words.Fim r ∷ []) ▷ s) (rw l h)
        ∙ split room cs ts (g Signs.Semicolon q ∷ w Words.Fim r ∷ []) s (want_command (in_body none own))
        ∙ passes_commands e own (ap suc l) (sign Signs.Semicolon) q (next (word Words.Fim) r s) (a_semicolon true),
  )
