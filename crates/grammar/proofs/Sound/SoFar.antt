-- What the tokens read so far have made of a program, and which tokens they were.
use Rattle.std.proofs.Common.{◌≡◌, ℕ, suc, false, List, [], ◌∷◌, ◌++◌, length, refl}
use mathlib.Core.Option.{some}
use Rattle.model.specs.declared.script.Ty.{Ty}
use Rattle.model.specs.declared.faults.Cause.{Cause}
use Rattle.model.specs.declared.faults.MeaningFault.{MeaningFault}
use Rattle.model.specs.declared.tokens.Word.TheVariants as Words
use Rattle.model.specs.declared.tokens.Sign.TheVariants as Signs
use Rattle.model.specs.declared.script.Ty.TheVariants.{Inteiro, Booleano}
use Rattle.model.specs.Tokens.{Token, Lexeme}
use Rattle.model.specs.Tree.{function, procedure, Cmd, Found, Exp, Block}
use Rattle.model.specs.Ahead.{type_named}
use Rattle.model.specs.Names.{Scope, a_procedure, a_function, Seen, visible, a_variable}
use Rattle.model.specs.Blocks.{program_opened, with_routine_name, opened, typed}
use Rattle.model.specs.Contexts.{ExpressionIn, bracketed, assigned, chosen, repeated, Focus, want_programa, want_title}
use Rattle.model.specs.Contexts.{want_title_end, want_head_end, block_start, want_variable, past_variable}
use Rattle.model.specs.Contexts.{want_variable_type, want_group_end, past_group, past_routine, want_procedure_name}
use Rattle.model.specs.Contexts.{want_function_name, want_function_colon, want_function_type, want_routine_end}
use Rattle.model.specs.Contexts.{want_period, CommandIn, want_command, past_name, to_assign, leia_open, leia_name}
use Rattle.model.specs.Contexts.{leia_close, escreva_open, escreva_name, escreva_close, past_command, past_then, BodyIn}
use Rattle.model.specs.Contexts.{past_commands, past_semicolon, SimpleIn, want_simple, FactorIn, want_factor}
use Rattle.model.specs.Contexts.{past_factor, TermIn, past_term, past_simple, past_expression, State}
use Rattle.model.specs.Settling.{at as stays, Settled, wrong}
use Rattle.model.specs.Judged.{goes, on, Judged, completes, refuses}
use Rattle.model.specs.Grammar.{Deep, FreshRoutine, Fresh, Variables, RoutineList, w, name_at, g, at, Groups, Names}
use Rattle.model.specs.Grammar.{Body, Settable, Command, Expression, Commands, Factor, Term, Simple, Program}
use Rattle.grammar.proofs.Levels.{command_depth, body_depth, factor_depth, term_depth, simple_depth, expression_depth}
use Rattle.grammar.proofs.Sound.Around.{CommandRead, BodyRead, SimpleRead, FactorRead, TermRead, ExpressionRead}
use Rattle.grammar.proofs.Sound.Around.{before_command, before_body, before_simple, before_factor, before_term}
use Rattle.grammar.proofs.Sound.Around.{before_expression}

-- Each type says what was read up to a place: which rules were begun, and what was derived of their parts. Each
-- function gives the tokens that were read, in front of a list.

-- ── up to a block's commands ────────────────────────────────────────────────────────────────

mutual
  -- up to the `;` of a block's head: the blocks around it, and the block as it opens
  pub data Head (room : ℕ) : List Scope → Scope → Type 0 where
    program_head : (p q : ℕ) (n : List ℕ) → Head room [] (program_opened p)
    procedure_head :
        (p q : ℕ) (n : List ℕ) {cs : List Scope} {s : Scope} →
        Declaring room cs s → Deep (length cs) → FreshRoutine room cs s n →
        Head room (with_routine_name s n (a_procedure s.count) ∷ cs) (opened s p procedure 0)
    function_head :
        (p q h i : ℕ) (n : List ℕ) (t : Token) (y : Ty) {cs : List Scope} {s : Scope} →
        Declaring room cs s → Deep (length cs) → Fresh room cs s n → type_named (some t) ≡ some y →
        Head room (with_routine_name s n (a_function y s.count) ∷ cs) (opened s p (function y) 1)

  -- the variables and some routines of a block
  pub data Declaring (room : ℕ) : List Scope → Scope → Type 0 where
    declaring :
        (r : ℕ) (ts us : List Lexeme) {cs : List Scope} (a b c : Scope) →
        Head room cs a → Variables room cs ts a b → RoutineList room cs us b c →
        Declaring room cs c

abbrev mutual
  pub before_head : {room : ℕ} {cs : List Scope} {s : Scope} → Head room cs s → List Lexeme → List Lexeme
  before_head (program_head p q n) l = w Words.Programa p ∷ name_at n q ∷ l
  before_head (procedure_head p q n r d f) l = before_block r (w Words.Procedimento p ∷ name_at n q ∷ l)
  before_head (function_head p q h i n t y r d f e) l =
      before_block r (w Words.Funcao p ∷ name_at n q ∷ g Signs.Colon h ∷ at t i ∷ l)

  pub before_block : {room : ℕ} {cs : List Scope} {s : Scope} → Declaring room cs s → List Lexeme → List Lexeme
  before_block (declaring r ts us a b c h v e) l = before_head h (g Signs.Semicolon r ∷ (ts ++ (us ++ l)))

-- an expression that has ended has a type that suits what it stands in
abbrev pub Suits : Ty → ExpressionIn → Type 0
Suits y (bracketed k) = Unit {0}
Suits y (assigned p f z k) = Unit {0}
Suits y (chosen p k) = y ≡ Booleano
Suits y (repeated p k) = y ≡ Booleano

abbrev pub NotEmpty : List Lexeme → Type 0
NotEmpty ts = (l : Lexeme) × (us : List Lexeme) × (ts ≡ l ∷ us)

-- ── up to every state of the judge ──────────────────────────────────────────────────────────

pub data SoFar (room : ℕ) : List Scope → Focus → Type 0 where
  at_programa : SoFar room [] want_programa
  at_title : (p : ℕ) → SoFar room (program_opened p ∷ []) want_title
  at_title_end : (p q : ℕ) (n : List ℕ) → SoFar room (program_opened p ∷ []) want_title_end
  at_head_end : {cs : List Scope} (s : Scope) → Head room cs s → SoFar room (s ∷ cs) want_head_end
  at_block_start : (r : ℕ) {cs : List Scope} (s : Scope) → Head room cs s → SoFar room (s ∷ cs) block_start
  at_first_variable : (r p : ℕ) {cs : List Scope} (s : Scope) → Head room cs s → SoFar room (s ∷ cs) want_variable
  at_next_variable :
      (r p q : ℕ) (ts us : List Lexeme) {cs : List Scope} (s u v : Scope) →
      Head room cs s → Groups room cs ts s u → Names room cs us u v →
      SoFar room (v ∷ cs) want_variable
  at_past_variable :
      (r p : ℕ) (ts us : List Lexeme) {cs : List Scope} (s u v : Scope) →
      Head room cs s → Groups room cs ts s u → Names room cs us u v →
      SoFar room (v ∷ cs) past_variable
  at_variable_type :
      (r p q : ℕ) (ts us : List Lexeme) {cs : List Scope} (s u v : Scope) →
      Head room cs s → Groups room cs ts s u → Names room cs us u v →
      SoFar room (v ∷ cs) want_variable_type
  at_group_end :
      (r p q i : ℕ) (ts us : List Lexeme) (t : Token) (y : Ty) {cs : List Scope} (s u v : Scope) →
      Head room cs s → Groups room cs ts s u → Names room cs us u v → type_named (some t) ≡ some y →
      SoFar room (typed v y ∷ cs) want_group_end
  at_past_group :
      (r p : ℕ) (ts : List Lexeme) {cs : List Scope} (s u : Scope) →
      Head room cs s → Groups room cs ts s u → NotEmpty ts →
      SoFar room (u ∷ cs) past_group
  at_past_routine : {cs : List Scope} (s : Scope) → Declaring room cs s → SoFar room (s ∷ cs) past_routine
  at_procedure_name :
      (p : ℕ) {cs : List Scope} (s : Scope) →
      Declaring room cs s → Deep (length cs) →
      SoFar room (s ∷ cs) (want_procedure_name p)
  at_function_name :
      (p : ℕ) {cs : List Scope} (s : Scope) →
      Declaring room cs s → Deep (length cs) →
      SoFar room (s ∷ cs) (want_function_name p)
  at_function_colon :
      (p q : ℕ) (n : List ℕ) {cs : List Scope} (s : Scope) →
      Declaring room cs s → Deep (length cs) → Fresh room cs s n →
      SoFar room (s ∷ cs) (want_function_colon p n)
  at_function_type :
      (p q h : ℕ) (n : List ℕ) {cs : List Scope} (s : Scope) →
      Declaring room cs s → Deep (length cs) → Fresh room cs s n →
      SoFar room (s ∷ cs) (want_function_type p n)
  at_routine_end :
      (vs : List Lexeme) {cs : List Scope} (s u : Scope) {c : Cmd} →
      Declaring room (u ∷ cs) s → Body (s ∷ u ∷ cs) (length (u ∷ cs)) vs c →
      SoFar room (s ∷ u ∷ cs) (want_routine_end c)
  at_period :
      (vs : List Lexeme) (s : Scope) {c : Cmd} →
      Declaring room [] s → Body (s ∷ []) 0 vs c →
      SoFar room (s ∷ []) (want_period c)
  -- commands
  at_command :
      {cs : List Scope} (s : Scope) {k : CommandIn} →
      Declaring room cs s → CommandRead (s ∷ cs) k →
      SoFar room (s ∷ cs) (want_command k)
  at_name :
      (p : ℕ) (n : List ℕ) (d : Seen) {cs : List Scope} (s : Scope) {k : CommandIn} →
      Declaring room cs s → CommandRead (s ∷ cs) k → visible n (s ∷ cs) ≡ some d →
      SoFar room (s ∷ cs) (past_name p d.kind d.hops d.inside k)
  at_to_assign :
      (p : ℕ) (n : List ℕ) (d : Seen) (y : Ty) (f : Found) {cs : List Scope} (s : Scope) {k : CommandIn} →
      Declaring room cs s → CommandRead (s ∷ cs) k → visible n (s ∷ cs) ≡ some d → Settable d y f →
      SoFar room (s ∷ cs) (to_assign p f y k)
  at_leia_open :
      (p : ℕ) {cs : List Scope} (s : Scope) {k : CommandIn} →
      Declaring room cs s → CommandRead (s ∷ cs) k →
      SoFar room (s ∷ cs) (leia_open p k)
  at_leia_name :
      (p o : ℕ) {cs : List Scope} (s : Scope) {k : CommandIn} →
      Declaring room cs s → CommandRead (s ∷ cs) k →
      SoFar room (s ∷ cs) (leia_name p k)
  at_leia_close :
      (p q o i : ℕ) (n : List ℕ) (d : Seen) {cs : List Scope} (s : Scope) {k : CommandIn} →
      Declaring room cs s → CommandRead (s ∷ cs) k → visible n (s ∷ cs) ≡ some d → d.kind ≡ a_variable Inteiro i →
      SoFar room (s ∷ cs) (leia_close p q (record { hops = d.hops; index = i }) k)
  at_escreva_open :
      (p : ℕ) {cs : List Scope} (s : Scope) {k : CommandIn} →
      Declaring room cs s → CommandRead (s ∷ cs) k →
      SoFar room (s ∷ cs) (escreva_open p k)
  at_escreva_name :
      (p o : ℕ) {cs : List Scope} (s : Scope) {k : CommandIn} →
      Declaring room cs s → CommandRead (s ∷ cs) k →
      SoFar room (s ∷ cs) (escreva_name p k)
  at_escreva_close :
      (p q o i : ℕ) (n : List ℕ) (d : Seen) {cs : List Scope} (s : Scope) {k : CommandIn} →
      Declaring room cs s → CommandRead (s ∷ cs) k → visible n (s ∷ cs) ≡ some d → d.kind ≡ a_variable Inteiro i →
      SoFar room (s ∷ cs) (escreva_close p q (record { hops = d.hops; index = i }) k)
  at_past_command :
      (ts : List Lexeme) {cs : List Scope} (s : Scope) {c : Cmd} {k : CommandIn} →
      Declaring room cs s → CommandRead (s ∷ cs) k → Command (s ∷ cs) (command_depth (length cs) k) ts c false →
      SoFar room (s ∷ cs) (past_command c k)
  at_past_then :
      (p q : ℕ) (ts us : List Lexeme) {cs : List Scope} (s : Scope) {x : Exp} {c : Cmd} {k : CommandIn} →
      Declaring room cs s → CommandRead (s ∷ cs) k → Deep (command_depth (length cs) k) →
      Expression (s ∷ cs) (suc (command_depth (length cs) k)) ts x Booleano →
      Command (s ∷ cs) (suc (command_depth (length cs) k)) us c false →
      SoFar room (s ∷ cs) (past_then p x c k)
  at_past_commands :
      (p : ℕ) (ts : List Lexeme) {cs : List Scope} (s : Scope) {c : Cmd} {k : BodyIn} →
      Declaring room cs s → BodyRead (s ∷ cs) k → Deep (body_depth (length cs) k) →
      Commands (s ∷ cs) (suc (body_depth (length cs) k)) ts c →
      SoFar room (s ∷ cs) (past_commands c k)
  at_past_semicolon :
      (p q : ℕ) (ts : List Lexeme) {cs : List Scope} (s : Scope) {c : Cmd} {k : BodyIn} →
      Declaring room cs s → BodyRead (s ∷ cs) k → Deep (body_depth (length cs) k) →
      Commands (s ∷ cs) (suc (body_depth (length cs) k)) ts c →
      SoFar room (s ∷ cs) (past_semicolon c k)
  -- expressions
  at_simple :
      {cs : List Scope} (s : Scope) {k : SimpleIn} →
      Declaring room cs s → SimpleRead (s ∷ cs) k →
      SoFar room (s ∷ cs) (want_simple k)
  at_factor :
      {cs : List Scope} (s : Scope) {k : FactorIn} →
      Declaring room cs s → FactorRead (s ∷ cs) k →
      SoFar room (s ∷ cs) (want_factor k)
  at_past_factor :
      (ts : List Lexeme) {cs : List Scope} (s : Scope) {x : Exp} {y : Ty} {k : FactorIn} →
      Declaring room cs s → FactorRead (s ∷ cs) k → Factor (s ∷ cs) (factor_depth (length cs) k) ts x y →
      SoFar room (s ∷ cs) (past_factor x y k)
  at_past_term :
      (ts : List Lexeme) {cs : List Scope} (s : Scope) {x : Exp} {y : Ty} {k : TermIn} →
      Declaring room cs s → TermRead (s ∷ cs) k → Term (s ∷ cs) (term_depth (length cs) k) ts x y →
      SoFar room (s ∷ cs) (past_term x y k)
  at_past_simple :
      (ts : List Lexeme) {cs : List Scope} (s : Scope) {x : Exp} {y : Ty} {k : SimpleIn} →
      Declaring room cs s → SimpleRead (s ∷ cs) k → Simple (s ∷ cs) (simple_depth (length cs) k) ts x y →
      SoFar room (s ∷ cs) (past_simple x y k)
  at_past_expression :
      (ts : List Lexeme) {cs : List Scope} (s : Scope) {x : Exp} {y : Ty} {k : ExpressionIn} →
      Declaring room cs s → ExpressionRead (s ∷ cs) k → Expression (s ∷ cs) (expression_depth (length cs) k) ts x y →
      Suits y k →
      SoFar room (s ∷ cs) (past_expression x y k)

-- all_read tokens read, and then l
abbrev pub all_read : {room : ℕ} {cs : List Scope} {f : Focus} → SoFar room cs f → List Lexeme → List Lexeme
all_read at_programa l = l
all_read (at_title p) l = w Words.Programa p ∷ l
all_read (at_title_end p q n) l = w Words.Programa p ∷ name_at n q ∷ l
all_read (at_head_end s h) l = before_head h l
all_read (at_block_start r s h) l = before_head h (g Signs.Semicolon r ∷ l)
all_read (at_first_variable r p s h) l = before_head h (g Signs.Semicolon r ∷ w Words.Var p ∷ l)
all_read (at_next_variable r p q ts us s u v h e f) l =
    before_head h (g Signs.Semicolon r ∷ w Words.Var p ∷ (ts ++ (us ++ (g Signs.Comma q ∷ l))))
all_read (at_past_variable r p ts us s u v h e f) l =
    before_head h (g Signs.Semicolon r ∷ w Words.Var p ∷ (ts ++ (us ++ l)))
all_read (at_variable_type r p q ts us s u v h e f) l =
    before_head h (g Signs.Semicolon r ∷ w Words.Var p ∷ (ts ++ (us ++ (g Signs.Colon q ∷ l))))
all_read (at_group_end r p q i ts us t y s u v h e f d) l =
    before_head h (g Signs.Semicolon r ∷ w Words.Var p ∷ (ts ++ (us ++ (g Signs.Colon q ∷ at t i ∷ l))))
all_read (at_past_group r p ts s u h e n) l = before_head h (g Signs.Semicolon r ∷ w Words.Var p ∷ (ts ++ l))
all_read (at_past_routine s b) l = before_block b l
all_read (at_procedure_name p s b d) l = before_block b (w Words.Procedimento p ∷ l)
all_read (at_function_name p s b d) l = before_block b (w Words.Funcao p ∷ l)
all_read (at_function_colon p q n s b d f) l = before_block b (w Words.Funcao p ∷ name_at n q ∷ l)
all_read (at_function_type p q h n s b d f) l = before_block b (w Words.Funcao p ∷ name_at n q ∷ g Signs.Colon h ∷ l)
all_read (at_routine_end vs s u b e) l = before_block b (vs ++ l)
all_read (at_period vs s b e) l = before_block b (vs ++ l)
all_read (at_command s b r) l = before_block b (before_command r l)
all_read (at_name p n d s b r e) l = before_block b (before_command r (name_at n p ∷ l))
all_read (at_to_assign p n d y f s b r e h) l = before_block b (before_command r (name_at n p ∷ l))
all_read (at_leia_open p s b r) l = before_block b (before_command r (w Words.Leia p ∷ l))
all_read (at_leia_name p o s b r) l = before_block b (before_command r (w Words.Leia p ∷ g Signs.OpenBracket o ∷ l))
all_read (at_leia_close p q o i n d s b r e h) l =
    before_block b (before_command r (w Words.Leia p ∷ g Signs.OpenBracket o ∷ name_at n q ∷ l))
all_read (at_escreva_open p s b r) l = before_block b (before_command r (w Words.Escreva p ∷ l))
all_read (at_escreva_name p o s b r) l =
    before_block b (before_command r (w Words.Escreva p ∷ g Signs.OpenBracket o ∷ l))
all_read (at_escreva_close p q o i n d s b r e h) l =
    before_block b (before_command r (w Words.Escreva p ∷ g Signs.OpenBracket o ∷ name_at n q ∷ l))
all_read (at_past_command ts s b r e) l = before_block b (before_command r (ts ++ l))
all_read (at_past_then p q ts us s b r d e f) l =
    before_block b (before_command r (w Words.Se p ∷ (ts ++ (w Words.Entao q ∷ (us ++ l)))))
all_read (at_past_commands p ts s b r d e) l = before_block b (before_body r (w Words.Inicio p ∷ (ts ++ l)))
all_read (at_past_semicolon p q ts s b r d e) l =
    before_block b (before_body r (w Words.Inicio p ∷ (ts ++ (g Signs.Semicolon q ∷ l))))
all_read (at_simple s b r) l = before_block b (before_simple r l)
all_read (at_factor s b r) l = before_block b (before_factor r l)
all_read (at_past_factor ts s b r e) l = before_block b (before_factor r (ts ++ l))
all_read (at_past_term ts s b r e) l = before_block b (before_term r (ts ++ l))
all_read (at_past_simple ts s b r e) l = before_block b (before_simple r (ts ++ l))
all_read (at_past_expression ts s b r e h) l = before_block b (before_expression r (ts ++ l))

-- ── what the judge's answers keep ───────────────────────────────────────────────────────────

-- if the tokens Y were read and the judge stays at a place, then they are what was read up to that place
pub data Stays (room : ℕ) (cs : List Scope) (Y : List Lexeme → List Lexeme) : Settled → Type 0 where
  stays_at : {f : Focus} (r : SoFar room cs f) → ((l : List Lexeme) → all_read r l ≡ Y l) → Stays room cs Y (stays f)
  is_wrong : {e : MeaningFault} → Stays room cs Y (wrong e)

-- if the tokens Y were read and the judge goes on to a state, then they are what was read up to that state; and if it
-- says that the program is complete, then the rules make them into that program
pub data Goes (room : ℕ) (Y : List Lexeme → List Lexeme) : Judged → Type 0 where
  goes_to :
      {s : State} (r : SoFar room s.scopes s.focus) → ((l : List Lexeme) → all_read r l ≡ Y l) →
      Goes room Y (goes s)
  is_complete : {b : Block} → Program room (Y []) b → Goes room Y (completes b)
  is_refused : {e : Cause} → Goes room Y (refuses e)

pub stays_as : {room : ℕ} {cs : List Scope} {f : Focus} (r : SoFar room cs f) → Stays room cs (all_read r) (stays f)
stays_as r = stays_at r (λ l. refl)

pub goes_as : {room : ℕ} {cs : List Scope} {f : Focus} (r : SoFar room cs f) → Goes room (all_read r) (on cs f)
goes_as r = goes_to r (λ l. refl)
