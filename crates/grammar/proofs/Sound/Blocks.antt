-- Each token that the judge lets into a block's declarations is read by a rule, and so are the ends of blocks.
use Rattle.std.proofs.Common.{◌≡◌, ℕ, List, [], ◌∷◌, ◌++◌, length, sym, refl, ap, ◌∙◌, subst, append_assoc, arith}
use mathlib.Core.Option.{some}
use Rattle.model.specs.declared.tokens.Word.TheVariants as Words
use Rattle.model.specs.declared.tokens.Sign.TheVariants as Signs
use Rattle.model.specs.Tokens.{Lexeme, Token}
use Rattle.model.specs.Tree.{Cmd}
use Rattle.model.specs.Names.{Scope}
use Rattle.model.specs.Blocks.{closed as closed_by}
use Rattle.model.specs.Heads.{routine_or_body, routine_ended, program_ended}
use Rattle.model.specs.Grammar.{Groups, Variables, w, declared, at, Routine, routine_more, g, Body, whole}
use Rattle.model.specs.Grammar.{a_procedure_of, name_at, a_function_of, Program, the_program}
use Rattle.grammar.proofs.Sound.Around.{first_in, own_in}
use Rattle.grammar.proofs.Sound.SoFar.{NotEmpty, Declaring, Goes, before_block, goes_as, at_procedure_name}
use Rattle.grammar.proofs.Sound.SoFar.{at_function_name, at_command, declaring, before_head, procedure_head, goes_to}
use Rattle.grammar.proofs.Sound.SoFar.{at_past_routine, function_head, program_head, is_complete}
use Rattle.grammar.proofs.Sound.Tests.{if_word_keeps, deeper_keeps, only_word_keeps}

-- ── variables ───────────────────────────────────────────────────────────────────────────────

pub variables_of :
    {room : ℕ} {cs : List Scope} (p : ℕ) {ts : List Lexeme} {s u : Scope} → Groups room cs ts s u → NotEmpty ts →
    Variables room cs (w Words.Var p ∷ ts) s u
variables_of {room} {cs} p {s} {u} e n =
    subst (λ z. Variables room cs (w Words.Var p ∷ z) s u) (sym n.2)
    (declared p n.1 s u (subst (λ z. Groups room cs z s u) n.2 e))

pub a_group_is_not_empty : (ts : List Lexeme) (x : Lexeme) (us : List Lexeme) → NotEmpty (ts ++ x ∷ us)
a_group_is_not_empty [] x us = (x, us, refl)
a_group_is_not_empty (t ∷ ts) x us = (t, ts ++ x ∷ us, refl)

-- ── where a routine or the body begins ──────────────────────────────────────────────────────

pub routine_or_body_keeps :
    {room : ℕ} {cs : List Scope} {s : Scope} (here : Declaring room cs s) (t : Token) (p : ℕ) →
    Goes room (λ l. before_block here (at t p ∷ l)) (routine_or_body (s ∷ cs) (some t) p)
routine_or_body_keeps {room} {cs} {s} here t p =
    if_word_keeps Y Words.Procedimento t
    (deeper_keeps (s ∷ cs) 0 (length cs) (omega arith) (λ h. goes_as (at_procedure_name p s here h)))
    (if_word_keeps Y Words.Funcao t
    (deeper_keeps (s ∷ cs) 0 (length cs) (omega arith) (λ h. goes_as (at_function_name p s here h)))
    (only_word_keeps Y Words.Inicio t
    (deeper_keeps (s ∷ cs) 0 (length cs) (omega arith) (λ h. goes_as (at_command s here (first_in p own_in h))))))
  where
    Y : Token → List Lexeme → List Lexeme
    Y u l = before_block here (at u p ∷ l)

-- ── ends of blocks ──────────────────────────────────────────────────────────────────────────

-- another routine is complete
one_routine_more :
    {room : ℕ} {cs : List Scope} {s v : Scope} (here : Declaring room cs s) (new : List Lexeme) →
    Routine room cs new s v →
    (now : Declaring room cs v) × ((l : List Lexeme) → before_block now l ≡ before_block here (new ++ l))
one_routine_more (declaring r ts us a b c h e f) new n = (
  declaring r ts (us ++ new) a b _ h e (routine_more us new b c _ f n),
  λ l. ap (λ z. before_head h (g Signs.Semicolon r ∷ (ts ++ z))) (append_assoc us new l),
)

-- variables, routines and body of a block, and a sign behind them
parts_of_block :
    (ts us vs l : List Lexeme) (x : Lexeme) → (ts ++ us ++ vs) ++ x ∷ [] ++ l ≡ ts ++ (us ++ (vs ++ (x ∷ l)))
parts_of_block ts us vs l x =
    append_assoc (ts ++ us ++ vs) (x ∷ []) l ∙ append_assoc (ts ++ us) vs (x ∷ l) ∙ append_assoc ts us (vs ++ (x ∷ l))

pub routine_ended_keeps :
    {room : ℕ} (vs : List Lexeme) {cs : List Scope} (s u : Scope) {c : Cmd} (here : Declaring room (u ∷ cs) s) →
    Body (s ∷ u ∷ cs) (length (u ∷ cs)) vs c → (o : ℕ) →
    Goes room (λ l. before_block here (vs ++ (g Signs.Semicolon o ∷ l))) (routine_ended (s ∷ u ∷ cs) c)
routine_ended_keeps vs s u (declaring r ts us a b _ (procedure_head p q n {s = x} around_it d f) v e) k o =
    let inside = whole ts us vs a b s v e k in
    let new = one_routine_more around_it _ (a_procedure_of p q r o n (ts ++ us ++ vs) x s d f inside) in
    goes_to (at_past_routine _ new.0) (λ l. new.1 l
    ∙ ap (λ z. before_block around_it (w Words.Procedimento p ∷ name_at n q ∷ g Signs.Semicolon r ∷ z))
    (parts_of_block ts us vs l (g Signs.Semicolon o)))
routine_ended_keeps vs s u (declaring r ts us a b _ (function_head p q h i n t y {s = x} around_it d f j) v e) k o =
    let inside = whole ts us vs a b s v e k in
    let new = one_routine_more around_it _ (a_function_of p q r o h i n (ts ++ us ++ vs) t y x s d f j inside) in
    goes_to (at_past_routine _ new.0) (λ l. new.1 l
    ∙ ap (λ z. before_block around_it
    (w Words.Funcao p ∷ name_at n q ∷ g Signs.Colon h ∷ at t i ∷ g Signs.Semicolon r ∷ z))
    (parts_of_block ts us vs l (g Signs.Semicolon o)))

pub program_ended_keeps :
    {room : ℕ} (vs : List Lexeme) (s : Scope) {c : Cmd} (here : Declaring room [] s) → Body (s ∷ []) 0 vs c → (o : ℕ) →
    Goes room (λ l. before_block here (vs ++ (g Signs.Period o ∷ l))) (program_ended (s ∷ []) c)
program_ended_keeps {room} vs s {c} (declaring r ts us a b _ (program_head p q n) v e) k o =
    is_complete (
    subst (λ z. Program room (w Words.Programa p ∷ name_at n q ∷ g Signs.Semicolon r ∷ z) (closed_by s c))
    (append_assoc (ts ++ us) vs (g Signs.Period o ∷ []) ∙ append_assoc ts us (vs ++ (g Signs.Period o ∷ [])))
    (the_program p q r o n (ts ++ us ++ vs) s (whole ts us vs a b s v e k))
    )
