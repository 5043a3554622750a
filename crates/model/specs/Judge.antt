-- The judge: tokens are judged from left to right, each by the types of the parts that end before it, the grammar,
-- nesting, and the name at it, in this order. Assumes nothing.
use Rattle.std.specs.Prelude.{true, false, List, [], ◌∷◌, ℕ}
use Rattle.std.proofs.Math.Option.{none, some}
use Rattle.model.specs.declared.tokens.Word.TheVariants as Words
use Rattle.model.specs.declared.tokens.Sign.TheVariants as Signs
use Rattle.model.specs.declared.faults.Cause.{Cause}
use Rattle.model.specs.declared.faults.Cause.TheVariants as Causes
use Rattle.model.specs.declared.faults.GrammarFault.TheVariants.{NotAdmitted, TextEnded}
use Rattle.model.specs.Tokens.{Token, Stream, next, ends, breaks}
use Rattle.model.specs.Tree
use Rattle.model.specs.Tree.{Block}
use Rattle.model.specs.Names.{Scope, visible}
use Rattle.model.specs.Blocks.{program_opened}
use Rattle.model.specs.Ahead.{is_word, is_sign, multiplying, type_named}
use Rattle.model.specs.Contexts.{State, in_body, in_else, left_of, assigned, next_factor}
use Rattle.model.specs.Contexts.{Focus, want_programa, want_title, want_title_end, want_period, block_start, want_variable, past_variable, want_variable_type, want_group_end, past_group, past_routine, want_procedure_name, want_function_name, want_function_colon, want_function_type, want_head_end, want_routine_end}
use Rattle.model.specs.Contexts.{want_command, past_name, to_assign, leia_open, escreva_open, leia_name, escreva_name, leia_close, escreva_close, past_command, past_then, past_commands, past_semicolon, want_simple, want_factor, past_factor, past_term, past_simple, past_expression}
use Rattle.model.specs.Settling.{Settled, at, wrong, settle}
use Rattle.model.specs.Judged.{Judged, goes, completes, refuses, not_admitted, on, admitted, with_operator, with_type, with_name, with_seen}
use Rattle.model.specs.Bodies.{shift_factor, shift_simple, shift_past_simple, shift_past_expression, shift_command, number_variable, body_ended}
use Rattle.model.specs.Heads.{new_variable, new_procedure, new_function, function_typed, group_typed, routine_ended, program_ended, routine_or_body, shift_past_group}

-- ── one token ───────────────────────────────────────────────────────────────────────────────

-- a token at its place, once the parts before it are settled; room is how many names there may be
abbrev pub shift : ℕ → List Scope → Token → ℕ → Focus → Judged
shift room cs t p want_programa = admitted (is_word Words.Programa (some t)) (on (program_opened p ∷ []) want_title)
shift room cs t p want_title = with_name t (λ n. on cs want_title_end)
shift room cs t p want_title_end = admitted (is_sign Signs.Semicolon (some t)) (on cs block_start)
shift room cs t p (want_period c) = admitted (is_sign Signs.Period (some t)) (program_ended cs c)
shift room cs t p block_start =
    elim (is_word Words.Var (some t)) [ true ↦ on cs want_variable | false ↦ routine_or_body cs (some t) p ]
shift room cs t p want_variable = with_name t (new_variable room cs)
shift room cs t p past_variable =
    elim (is_sign Signs.Comma (some t)) [ true ↦ on cs want_variable | false ↦ admitted (is_sign Signs.Colon (some t)) (on cs want_variable_type) ]
shift room cs t p want_variable_type = with_type (type_named (some t)) (group_typed cs)
shift room cs t p want_group_end = admitted (is_sign Signs.Semicolon (some t)) (on cs past_group)
shift room cs t p past_group = shift_past_group room cs t p
shift room cs t p past_routine = routine_or_body cs (some t) p
shift room cs t p (want_procedure_name q) = with_name t (new_procedure room cs q)
shift room cs t p (want_function_name q) = with_name t (new_function room cs q)
shift room cs t p (want_function_colon q n) = admitted (is_sign Signs.Colon (some t)) (on cs (want_function_type q n))
shift room cs t p (want_function_type q n) = with_type (type_named (some t)) (function_typed cs q n)
shift room cs t p want_head_end = admitted (is_sign Signs.Semicolon (some t)) (on cs block_start)
shift room cs t p (want_routine_end c) = admitted (is_sign Signs.Semicolon (some t)) (routine_ended cs c)
shift room cs t p (want_command k) = shift_command cs t p k
shift room cs t p (past_name q d h inside k) = not_admitted
shift room cs t p (to_assign q f y k) = admitted (is_sign Signs.Becomes (some t)) (on cs (want_simple (left_of (assigned q f y k))))
shift room cs t p (leia_open q k) = admitted (is_sign Signs.OpenBracket (some t)) (on cs (leia_name q k))
shift room cs t p (escreva_open q k) = admitted (is_sign Signs.OpenBracket (some t)) (on cs (escreva_name q k))
shift room cs t p (leia_name q k) =
    with_name t (λ n. with_seen (visible n cs) (λ d. number_variable d.kind d.hops (λ f. on cs (leia_close q p f k))))
shift room cs t p (escreva_name q k) =
    with_name t (λ n. with_seen (visible n cs) (λ d. number_variable d.kind d.hops (λ f. on cs (escreva_close q p f k))))
shift room cs t p (leia_close q r f k) = admitted (is_sign Signs.CloseBracket (some t)) (on cs (past_command (Tree.leia q r f) k))
shift room cs t p (escreva_close q r f k) = admitted (is_sign Signs.CloseBracket (some t)) (on cs (past_command (Tree.escreva q r f) k))
shift room cs t p (past_command c k) = not_admitted
shift room cs t p (past_then q x c k) = admitted (is_word Words.Senao (some t)) (on cs (want_command (in_else q x c p k)))
shift room cs t p (past_commands c k) =
    elim (is_sign Signs.Semicolon (some t)) [ true ↦ on cs (past_semicolon c k) | false ↦ admitted (is_word Words.Fim (some t)) (body_ended cs c k) ]
shift room cs t p (past_semicolon c k) =
    elim (is_word Words.Fim (some t)) [ true ↦ body_ended cs c k | false ↦ shift_command cs t p (in_body (some c) k) ]
shift room cs t p (want_simple k) = shift_simple cs t p k
shift room cs t p (want_factor k) = shift_factor cs t p k
shift room cs t p (past_factor x y k) = not_admitted
shift room cs t p (past_term x y k) = with_operator (multiplying (some t)) (λ o. on cs (want_factor (next_factor x y o p k)))
shift room cs t p (past_simple x y k) = shift_past_simple cs (some t) p x y k
shift room cs t p (past_expression x y k) = shift_past_expression cs (some t) x y k

-- the parts that end before the token come first
abbrev pub settled : ℕ → List Scope → Token → ℕ → Settled → Judged
settled room cs t p (at f) = shift room cs t p f
settled room cs t p (wrong f) = refuses (Causes.Meaning f)

abbrev pub judge : ℕ → State → Token → ℕ → Judged
judge room s t p = settled room s.scopes t p (settle (some t) s.focus)

-- ── the whole text ──────────────────────────────────────────────────────────────────────────

-- a tree, or the first fault and its place
pub data Verdict : Type 0 where
  accepted : Block → Verdict
  refused : Cause → ℕ → Verdict

-- after the program's period nothing more may come
abbrev pub afterwards : Block → Stream → Verdict
afterwards b (next t p ts) = refused (Causes.Grammar NotAdmitted) p
afterwards b (ends p) = accepted b
afterwards b (breaks f p) = refused (Causes.Reader f) p

-- the end of the text is judged as a token is: the parts that end before it, then the grammar
abbrev pub ended : ℕ → Settled → Verdict
ended p (at f) = refused (Causes.Grammar TextEnded) p
ended p (wrong f) = refused (Causes.Meaning f) p

abbrev pub go_on : (State → Verdict) → ℕ → Stream → Judged → Verdict
go_on later p ts (goes s) = later s
go_on later p ts (completes b) = afterwards b ts
go_on later p ts (refuses c) = refused c p

-- what becomes of the rest of a text in a state, with records for `room` names
abbrev pub verdict : ℕ → Stream → State → Verdict
verdict room (next t p ts) s = go_on (verdict room ts) p ts (judge room s t p)
verdict room (ends p) s = ended p (settle none s.focus)
verdict room (breaks f p) s = refused (Causes.Reader f) p

abbrev pub at_start : State
at_start = record { scopes = []; focus = want_programa }
