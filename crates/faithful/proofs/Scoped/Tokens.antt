-- The judge keeps what it holds well scoped, whatever the token.
use Rattle.std.proofs.lemmas.Bool.{false≢true}
use mathlib.Core.Path.{◌≡◌, refl}
use mathlib.Core.Bool.{true≢false, Bool, true, false}
use mathlib.Core.List.{List, [], ◌∷◌}
use mathlib.Core.Option.{Option, none, some}
use Prim.Native.Nat.{ℕ, suc, pred, ◌+◌}
use native.Mathlib.Omega.{arith}
use lib.Dec.{leb, ltb}
use lib.IntN.{pos}
use lib.ListN.{length}
use Rattle.model.specs.declared.faults.RoomFault.TheVariants.{NamesFull, ManyCells}
use Rattle.model.specs.declared.faults.MeaningFault.TheVariants.{Twice}
use Rattle.model.specs.declared.faults.GrammarFault.TheVariants.{TooDeep}
use Rattle.model.specs.declared.script.Ty.{Ty}
use Rattle.model.specs.declared.script.Operator.{Operator}
use Rattle.model.specs.declared.script.Ty.TheVariants.{Inteiro, Booleano}
use Rattle.model.specs.declared.faults.Cause.TheVariants as Causes
use Rattle.model.specs.declared.tokens.Word.TheVariants as Words
use Rattle.model.specs.declared.tokens.Sign.TheVariants as Signs
use Rattle.model.specs.Tokens.{Token, word, sign, name, number}
use Rattle.model.specs.Tree.{Found, Exp, Cmd, no_more, procedure, function, constant}
use Rattle.model.specs.Names.{Kind, a_variable, a_procedure, a_function, Scope, Seen, visible, declared_here, records}
use Rattle.model.specs.Contexts.{State, Focus, levels_of_command, levels_of_factor, CommandIn, in_body, in_then, in_else, in_loop, BodyIn, own, inner, ExpressionIn, bracketed, assigned, chosen, repeated, SimpleIn, left_of, right_of, first_term, plus_term, minus_term, next_term, FactorIn, first_factor, next_factor, denied_factor, want_programa, want_title, want_title_end, want_period, block_start, want_variable, past_variable, want_variable_type, want_group_end, past_group, past_routine, want_procedure_name, want_function_name, want_function_colon, want_function_type, want_head_end, want_routine_end, want_command, past_name, to_assign, leia_open, escreva_open, leia_name, escreva_name, leia_close, escreva_close, past_command, past_then, past_commands, past_semicolon, want_simple, want_factor, past_factor, past_term, past_simple, past_expression}
use Rattle.model.specs.Ahead.{Next, is_word, is_sign}
use Rattle.model.specs.Ahead.{multiplying, adding, comparing, type_named}
use Rattle.model.specs.Settling.{Settled, wrong, at, settle}
use Rattle.model.specs.Judged.{Judged, goes, completes, refuses, on, admitted, deeper, with_operator, with_type, with_name, with_seen}
use Rattle.model.specs.Bodies.{use_of, bracket_or_not, shift_factor, shift_simple, shift_past_simple, shift_past_expression, shift_command, number_variable, body_ended}
use Rattle.model.specs.Heads.{declares, new_variable, new_procedure, new_function, function_typed, group_typed, routine_ended, program_ended, routine_or_body, shift_past_group}
use Rattle.model.specs.Blocks.{wait, with_routine_name, opened, program_opened}
use Rattle.model.specs.Judge.{shift, settled, judge}
use Rattle.model.specs.Tree
use Rattle.faithful.proofs.Scoped.Trees.{Declared, VariableKnown, ExpScoped, CmdScoped, WellScoped}
use Rattle.faithful.proofs.Scoped.OpenBlocks.{declared_by, ScopesSound, KindSeen, Inside, SeenKnown, visible_known, wait_sound, typed_sound, opened_sound, count_at, count_flag, closed_scoped, ended_sound}
use Rattle.faithful.proofs.Scoped.Settling.{BodyInScoped, CommandInScoped, ExpressionInScoped, FactorInScoped, FocusScoped, SettledScoped, SimpleInScoped, either_way, settle_scoped}

abbrev pub NoRoutine : List Scope → Type 0
NoRoutine [] = Unit {0}
NoRoutine (s ∷ cs) = s.routines ≡ no_more

abbrev pub Only : List Scope → Type 0
Only [] = Unit {0}
Only (s ∷ cs) = cs ≡ []

abbrev pub FocusScopedAt : List Scope → Focus → Type 0
FocusScopedAt cs f = FocusScoped (declared_by [] cs) (NoRoutine cs) (Only cs) f

abbrev pub StateScoped : State → Type 0
StateScoped s = ScopesSound [] s.scopes × FocusScopedAt s.scopes s.focus

abbrev pub JudgedScoped : Judged → Type 0
JudgedScoped (goes s) = StateScoped s
JudgedScoped (completes b) = WellScoped b
JudgedScoped (refuses n) = Unit {0}

admitted_scoped : (b : Bool) (j : Judged) → JudgedScoped j → JudgedScoped (admitted b j)
admitted_scoped true j o = o
admitted_scoped false j o = tt

deeper_scoped : (cs : List Scope) (n : ℕ) (j : Judged) → JudgedScoped j → JudgedScoped (deeper cs n j)
deeper_scoped cs n j o =
    either_way JudgedScoped (leb (suc (pred (length cs) + n)) 64) j (refuses (Causes.Grammar TooDeep)) o tt

operator_scoped : (o : Option Operator) (j : Operator → Judged) → ((x : Operator) → JudgedScoped (j x)) →
    JudgedScoped (with_operator o j)
operator_scoped none j f = tt
operator_scoped (some o) j f = f o

type_scoped : (o : Option Ty) (j : Ty → Judged) → ((x : Ty) → JudgedScoped (j x)) → JudgedScoped (with_type o j)
type_scoped none j f = tt
type_scoped (some o) j f = f o

name_scoped : (t : Token) (j : List ℕ → Judged) → ((x : List ℕ) → JudgedScoped (j x)) → JudgedScoped (with_name t j)
name_scoped (name s) j f = f s
name_scoped (number n) j f = tt
name_scoped (word w) j f = tt
name_scoped (sign g) j f = tt

seen_then : (Δ : List Declared) (o : Option Seen) (j : Seen → Judged) → SeenKnown Δ o →
    ((d : Seen) → KindSeen Δ d.hops d.kind → Inside Δ d.hops d.kind d.inside → JudgedScoped (j d)) →
    JudgedScoped (with_seen o j)
seen_then Δ none j s f = tt
seen_then Δ (some d) j s f = f d s.0 s.1

declares_scoped : (room : ℕ) (cs : List Scope) (s : Scope) (n : List ℕ) (cell : ℕ) (j : Judged) → JudgedScoped j →
    JudgedScoped (declares room cs s n cell j)
declares_scoped room cs s n cell j o = go (declared_here n s) (ltb (records (s ∷ cs)) room) (leb cell 4096)
  where
    go : (x y z : Bool) → JudgedScoped
        (elim x [
          | true ↦ refuses (Causes.Meaning Twice)
          | false ↦ elim y [
            | false ↦ refuses (Causes.Room NamesFull)
            | true ↦ elim z [ true ↦ j | false ↦ refuses (Causes.Room ManyCells) ]
          ]
        ])
    go true y z = tt
    go false false z = tt
    go false true true = o
    go false true false = tt

module _ (cs : List Scope) (sc : ScopesSound [] cs) where
  abbrev Δ : List Declared
  Δ = declared_by [] cs

  use_scoped : (p : ℕ) (k : FactorIn) (d : Kind) (h : ℕ) → KindSeen Δ h d → FactorInScoped Δ k →
      JudgedScoped (use_of cs p k d h)
  use_scoped p k (a_variable y i) h a ok = (sc, (a, ok))
  use_scoped p k (a_function y w) h a ok = (sc, (a, ok))
  use_scoped p k (a_procedure w) h a ok = tt

  bracket_scoped : (t : Next) (p : ℕ) (k : FactorIn) → FactorInScoped Δ k → JudgedScoped (bracket_or_not cs t p k)
  bracket_scoped t p k ok = go (is_sign Signs.OpenBracket t) (is_word Words.Nao t) (is_word Words.Verdadeiro t)
    where
      go : (x y z : Bool) → JudgedScoped (elim x [
        | true ↦ deeper cs (levels_of_factor k) (on cs (want_simple (left_of (bracketed k))))
        | false ↦ elim y [
          | true ↦ deeper cs (levels_of_factor k) (on cs (want_factor (denied_factor p k)))
          | false ↦ elim z [
            | true ↦ on cs (past_factor (constant p (pos 1)) Booleano k)
            | false ↦ admitted (is_word Words.Falso t) (on cs (past_factor (constant p (pos 0)) Booleano k))
          ]
        ]
      ])
      go true y z = deeper_scoped cs (levels_of_factor k) (on cs (want_simple (left_of (bracketed k)))) (sc, ok)
      go false true z = deeper_scoped cs (levels_of_factor k) (on cs (want_factor (denied_factor p k))) (sc, ok)
      go false false true = (sc, (tt, ok))
      go false false false =
          admitted_scoped (is_word Words.Falso t) (on cs (past_factor (constant p (pos 0)) Booleano k)) (sc, (tt, ok))

  factor_scoped : (t : Token) (p : ℕ) (k : FactorIn) → FactorInScoped Δ k → JudgedScoped (shift_factor cs t p k)
  factor_scoped (name s) p k ok =
      seen_then Δ (visible s cs) (λ d. use_of cs p k d.kind d.hops) (visible_known s cs sc)
      (λ d a i. use_scoped p k d.kind d.hops a ok)
  factor_scoped (number n) p k ok = (sc, (tt, ok))
  factor_scoped (word w) p k ok = bracket_scoped (some (word w)) p k ok
  factor_scoped (sign g) p k ok = bracket_scoped (some (sign g)) p k ok

  simple_scoped : (t : Token) (p : ℕ) (k : SimpleIn) → SimpleInScoped Δ k → JudgedScoped (shift_simple cs t p k)
  simple_scoped t p k ok = go (is_sign Signs.Plus (some t)) (is_sign Signs.Minus (some t))
    where
      go : (x y : Bool) → JudgedScoped (elim x [
        | true ↦ on cs (want_factor (first_factor (plus_term k)))
        | false ↦ elim y [
          | true ↦ on cs (want_factor (first_factor (minus_term p k)))
          | false ↦ shift_factor cs t p (first_factor (first_term k))
        ]
      ])
      go true y = (sc, ok)
      go false true = (sc, ok)
      go false false = factor_scoped t p (first_factor (first_term k)) ok

  past_simple_scoped : (t : Next) (p : ℕ) (x : Exp) (y : Ty) (k : SimpleIn) → ExpScoped Δ x → SimpleInScoped Δ k →
      JudgedScoped (shift_past_simple cs t p x y k)
  past_simple_scoped t p x y (left_of k) ox ok = go (adding t)
    where
      go : (o : Option Operator) → JudgedScoped (elim o [
        | some o ↦ on cs (want_factor (first_factor (next_term x y o p (left_of k))))
        | none ↦ with_operator (comparing t) (λ o. on cs (want_simple (right_of x y o p k)))
      ])
      go (some o) = (sc, (ox, ok))
      go none = operator_scoped (comparing t) (λ o. on cs (want_simple (right_of x y o p k))) (λ o. (sc, (ox, ok)))
  past_simple_scoped t p x y (right_of l z o q k) ox ok =
      operator_scoped (adding t) (λ a. on cs (want_factor (first_factor (next_term x y a p (right_of l z o q k)))))
      (λ a. (sc, (ox, ok)))

  past_expression_scoped : (t : Next) (x : Exp) (y : Ty) (k : ExpressionIn) → ExpScoped Δ x →
      ExpressionInScoped Δ k → JudgedScoped (shift_past_expression cs t x y k)
  past_expression_scoped t x y (bracketed k) ox ok =
      admitted_scoped (is_sign Signs.CloseBracket t) (on cs (past_factor x y k)) (sc, (ox, ok))
  past_expression_scoped t x y (chosen p k) ox ok =
      admitted_scoped (is_word Words.Entao t) (on cs (want_command (in_then p x k))) (sc, (ox, ok))
  past_expression_scoped t x y (repeated p k) ox ok =
      admitted_scoped (is_word Words.Faca t) (on cs (want_command (in_loop p x k))) (sc, (ox, ok))
  past_expression_scoped t x y (assigned p f z k) ox ok = tt

  command_scoped : (t : Token) (p : ℕ) (k : CommandIn) → CommandInScoped Δ k → JudgedScoped (shift_command cs t p k)
  command_scoped (name s) p k ok =
      seen_then Δ (visible s cs) (λ d. on cs (past_name p d.kind d.hops d.inside k)) (visible_known s cs sc)
      (λ d a i. (sc, (a, i, ok)))
  command_scoped (number n) p k ok = tt
  command_scoped (sign g) p k ok = tt
  command_scoped (word w) p k ok =
      go (is_word Words.Se (some (word w))) (is_word Words.Enquanto (some (word w)))
      (is_word Words.Inicio (some (word w))) (is_word Words.Leia (some (word w)))
    where
      go : (x y z v : Bool) → JudgedScoped (elim x [
        | true ↦ deeper cs (levels_of_command k) (on cs (want_simple (left_of (chosen p k))))
        | false ↦ elim y [
          | true ↦ deeper cs (levels_of_command k) (on cs (want_simple (left_of (repeated p k))))
          | false ↦ elim z [
            | true ↦ deeper cs (levels_of_command k) (on cs (want_command (in_body none (inner k))))
            | false ↦ elim v [
              | true ↦ on cs (leia_open p k)
              | false ↦ admitted (is_word Words.Escreva (some (word w))) (on cs (escreva_open p k))
            ]
          ]
        ]
      ])
      go true y z v = deeper_scoped cs (levels_of_command k) (on cs (want_simple (left_of (chosen p k)))) (sc, ok)
      go false true z v = deeper_scoped cs (levels_of_command k) (on cs (want_simple (left_of (repeated p k)))) (sc, ok)
      go false false true v =
          deeper_scoped cs (levels_of_command k) (on cs (want_command (in_body none (inner k)))) (sc, (tt, ok))
      go false false false true = (sc, ok)
      go false false false false =
          admitted_scoped (is_word Words.Escreva (some (word w))) (on cs (escreva_open p k)) (sc, ok)

  number_variable_scoped : (d : Kind) (h : ℕ) (j : Found → Judged) → KindSeen Δ h d →
      ((f : Found) → VariableKnown Δ f.hops f.index → JudgedScoped (j f)) →
      JudgedScoped (number_variable d h j)
  number_variable_scoped (a_variable Inteiro i) h j a f = f (record { hops = h; index = i }) a
  number_variable_scoped (a_variable Booleano i) h j a f = tt
  number_variable_scoped (a_procedure w) h j a f = tt
  number_variable_scoped (a_function y w) h j a f = tt

  routine_or_body_scoped : (t : Next) (p : ℕ) → JudgedScoped (routine_or_body cs t p)
  routine_or_body_scoped t p = go (is_word Words.Procedimento t) (is_word Words.Funcao t)
    where
      go : (x y : Bool) → JudgedScoped (elim x [
        | true ↦ deeper cs 0 (on cs (want_procedure_name p))
        | false ↦ elim y [
          | true ↦ deeper cs 0 (on cs (want_function_name p))
          | false ↦ admitted (is_word Words.Inicio t) (deeper cs 0 (on cs (want_command (in_body none own))))
        ]
      ])
      go true y = deeper_scoped cs 0 (on cs (want_procedure_name p)) (sc, tt)
      go false true = deeper_scoped cs 0 (on cs (want_function_name p)) (sc, tt)
      go false false =
          admitted_scoped (is_word Words.Inicio t) (deeper cs 0 (on cs (want_command (in_body none own))))
          (deeper_scoped cs 0 (on cs (want_command (in_body none own))) (sc, (tt, tt)))

body_ended_scoped : (cs : List Scope) (c : Cmd) (k : BodyIn) → ScopesSound [] cs →
    CmdScoped (declared_by [] cs) c → BodyInScoped (declared_by [] cs) k → JudgedScoped (body_ended cs c k)
body_ended_scoped cs c (inner k) sc oc ok = (sc, (oc, ok))
body_ended_scoped [] c own sc oc ok = tt
body_ended_scoped (s ∷ []) c own sc oc ok = (sc, (oc, refl))
body_ended_scoped (s ∷ u ∷ cs) c own sc oc ok = (sc, oc)

variable_scoped : (room : ℕ) (cs : List Scope) (n : List ℕ) → ScopesSound [] cs → NoRoutine cs →
    JudgedScoped (new_variable room cs n)
variable_scoped room [] n sc nr = tt
variable_scoped room (s ∷ cs) n sc nr =
    declares_scoped room cs s n (s.first + s.cells + 1) (on (wait s n ∷ cs) past_variable)
    (wait_sound s cs n nr sc, nr)

procedure_scoped : (room : ℕ) (cs : List Scope) (p : ℕ) (n : List ℕ) → ScopesSound [] cs →
    JudgedScoped (new_procedure room cs p n)
procedure_scoped room [] p n sc = tt
procedure_scoped room (s ∷ cs) p n sc =
    declares_scoped room cs s n 0
    (on (opened s p procedure 0 ∷ with_routine_name s n (a_procedure s.count) ∷ cs) want_head_end) (
      opened_sound s cs p procedure 0 n (a_procedure s.count) (λ e. absurd (false≢true e))
          (count_at s cs procedure sc)
          sc,
      refl,
    )

function_scoped : (room : ℕ) (cs : List Scope) (p : ℕ) (n : List ℕ) → ScopesSound [] cs →
    JudgedScoped (new_function room cs p n)
function_scoped room [] p n sc = tt
function_scoped room (s ∷ cs) p n sc =
    declares_scoped room cs s n (s.first + s.cells + 1) (on (s ∷ cs) (want_function_colon p n)) (sc, tt)

function_typed_scoped : (cs : List Scope) (p : ℕ) (n : List ℕ) (y : Ty) → ScopesSound [] cs →
    JudgedScoped (function_typed cs p n y)
function_typed_scoped [] p n y sc = tt
function_typed_scoped (s ∷ cs) p n y sc = (
  opened_sound s cs p (function y) 1 n (a_function y s.count) (λ e. omega arith)
      (count_at s cs (function y) sc, count_flag s cs true sc) sc,
  refl,
)

group_typed_scoped : (cs : List Scope) (y : Ty) → ScopesSound [] cs → NoRoutine cs → JudgedScoped (group_typed cs y)
group_typed_scoped [] y sc nr = tt
group_typed_scoped (s ∷ cs) y sc nr = (typed_sound s cs y sc, nr)

routine_ended_scoped : (cs : List Scope) (c : Cmd) → ScopesSound [] cs → CmdScoped (declared_by [] cs) c →
    JudgedScoped (routine_ended cs c)
routine_ended_scoped [] c sc oc = tt
routine_ended_scoped (s ∷ []) c sc oc = tt
routine_ended_scoped (s ∷ u ∷ cs) c sc oc = (ended_sound s u cs c sc oc, tt)

program_ended_scoped : (cs : List Scope) (c : Cmd) → ScopesSound [] cs → CmdScoped (declared_by [] cs) c →
    Only cs → JudgedScoped (program_ended cs c)
program_ended_scoped [] c sc oc on = tt
program_ended_scoped (s ∷ []) c sc oc on = closed_scoped s [] c sc oc
program_ended_scoped (s ∷ u ∷ cs) c sc oc on = absurd (true≢false cc)

past_group_scoped : (room : ℕ) (cs : List Scope) (t : Token) (p : ℕ) → ScopesSound [] cs → NoRoutine cs →
    JudgedScoped (shift_past_group room cs t p)
past_group_scoped room cs (name s) p sc nr = variable_scoped room cs s sc nr
past_group_scoped room cs (number n) p sc nr = tt
past_group_scoped room cs (word w) p sc nr = routine_or_body_scoped cs sc (some (word w)) p
past_group_scoped room cs (sign g) p sc nr = tt

opened_program : (p : ℕ) → ScopesSound [] (program_opened p ∷ [])
opened_program p = (
  record {
    result_cell = λ e. absurd (false≢true e);
    routines_scoped = tt;
    count_right = refl;
    names_known = tt;
    waiting_known = tt;
    which_right = tt;
  },
  tt,
)

shift_scoped : (room : ℕ) (cs : List Scope) (t : Token) (p : ℕ) (f : Focus) → ScopesSound [] cs →
    FocusScopedAt cs f → JudgedScoped (shift room cs t p f)
shift_scoped room cs t p want_programa sc o =
    admitted_scoped (is_word Words.Programa (some t)) (on (program_opened p ∷ []) want_title) (opened_program p, refl)
shift_scoped room cs t p want_title sc o = name_scoped t (λ n. on cs want_title_end) (λ n. (sc, o))
shift_scoped room cs t p want_title_end sc o =
    admitted_scoped (is_sign Signs.Semicolon (some t)) (on cs block_start) (sc, o)
shift_scoped room cs t p (want_period c) sc o =
    admitted_scoped (is_sign Signs.Period (some t)) (program_ended cs c) (program_ended_scoped cs c sc o.0 o.1)
shift_scoped room cs t p block_start sc o =
    either_way JudgedScoped (is_word Words.Var (some t)) (on cs want_variable) (routine_or_body cs (some t) p)
    (sc, o) (routine_or_body_scoped cs sc (some t) p)
shift_scoped room cs t p want_variable sc o = name_scoped t (new_variable room cs) (λ n. variable_scoped room cs n sc o)
shift_scoped room cs t p past_variable sc o =
    either_way JudgedScoped (is_sign Signs.Comma (some t)) (on cs want_variable)
    (admitted (is_sign Signs.Colon (some t)) (on cs want_variable_type)) (sc, o)
    (admitted_scoped (is_sign Signs.Colon (some t)) (on cs want_variable_type) (sc, o))
shift_scoped room cs t p want_variable_type sc o =
    type_scoped (type_named (some t)) (group_typed cs) (λ y. group_typed_scoped cs y sc o)
shift_scoped room cs t p want_group_end sc o =
    admitted_scoped (is_sign Signs.Semicolon (some t)) (on cs past_group) (sc, o)
shift_scoped room cs t p past_group sc o = past_group_scoped room cs t p sc o
shift_scoped room cs t p past_routine sc o = routine_or_body_scoped cs sc (some t) p
shift_scoped room cs t p (want_procedure_name q) sc o =
    name_scoped t (new_procedure room cs q) (λ n. procedure_scoped room cs q n sc)
shift_scoped room cs t p (want_function_name q) sc o =
    name_scoped t (new_function room cs q) (λ n. function_scoped room cs q n sc)
shift_scoped room cs t p (want_function_colon q n) sc o =
    admitted_scoped (is_sign Signs.Colon (some t)) (on cs (want_function_type q n)) (sc, tt)
shift_scoped room cs t p (want_function_type q n) sc o =
    type_scoped (type_named (some t)) (function_typed cs q n) (λ y. function_typed_scoped cs q n y sc)
shift_scoped room cs t p want_head_end sc o =
    admitted_scoped (is_sign Signs.Semicolon (some t)) (on cs block_start) (sc, o)
shift_scoped room cs t p (want_routine_end c) sc o =
    admitted_scoped (is_sign Signs.Semicolon (some t)) (routine_ended cs c) (routine_ended_scoped cs c sc o)
shift_scoped room cs t p (want_command k) sc o = command_scoped cs sc t p k o
shift_scoped room cs t p (past_name q d h inside k) sc o = tt
shift_scoped room cs t p (to_assign q f y k) sc o =
    admitted_scoped (is_sign Signs.Becomes (some t)) (on cs (want_simple (left_of (assigned q f y k)))) (sc, o)
shift_scoped room cs t p (leia_open q k) sc o =
    admitted_scoped (is_sign Signs.OpenBracket (some t)) (on cs (leia_name q k)) (sc, o)
shift_scoped room cs t p (escreva_open q k) sc o =
    admitted_scoped (is_sign Signs.OpenBracket (some t)) (on cs (escreva_name q k)) (sc, o)
shift_scoped room cs t p (leia_name q k) sc o =
    name_scoped t (λ n. with_seen (visible n cs)
    (λ d. number_variable d.kind d.hops (λ f. on cs (leia_close q p f k)))) (λ n.
    seen_then (declared_by [] cs) (visible n cs)
    (λ d. number_variable d.kind d.hops (λ f. on cs (leia_close q p f k))) (visible_known n cs sc) (λ d a i.
    number_variable_scoped cs sc d.kind d.hops (λ f. on cs (leia_close q p f k)) a (λ f v. (sc, (v, o)))))
shift_scoped room cs t p (escreva_name q k) sc o =
    name_scoped t (λ n. with_seen (visible n cs)
    (λ d. number_variable d.kind d.hops (λ f. on cs (escreva_close q p f k)))) (λ n.
    seen_then (declared_by [] cs) (visible n cs)
    (λ d. number_variable d.kind d.hops (λ f. on cs (escreva_close q p f k))) (visible_known n cs sc) (λ d a i.
    number_variable_scoped cs sc d.kind d.hops (λ f. on cs (escreva_close q p f k)) a (λ f v. (sc, (v, o)))))
shift_scoped room cs t p (leia_close q r f k) sc o =
    admitted_scoped (is_sign Signs.CloseBracket (some t)) (on cs (past_command (Tree.leia q r f) k)) (sc, (o.0, o.1))
shift_scoped room cs t p (escreva_close q r f k) sc o =
    admitted_scoped (is_sign Signs.CloseBracket (some t)) (on cs (past_command (Tree.escreva q r f) k))
    (sc, (o.0, o.1))
shift_scoped room cs t p (past_command c k) sc o = tt
shift_scoped room cs t p (past_then q x c k) sc o =
    admitted_scoped (is_word Words.Senao (some t)) (on cs (want_command (in_else q x c p k))) (sc, o)
shift_scoped room cs t p (past_commands c k) sc o =
    either_way JudgedScoped (is_sign Signs.Semicolon (some t)) (on cs (past_semicolon c k))
    (admitted (is_word Words.Fim (some t)) (body_ended cs c k)) (sc, o)
    (admitted_scoped (is_word Words.Fim (some t)) (body_ended cs c k) (body_ended_scoped cs c k sc o.0 o.1))
shift_scoped room cs t p (past_semicolon c k) sc o =
    either_way JudgedScoped (is_word Words.Fim (some t)) (body_ended cs c k)
    (shift_command cs t p (in_body (some c) k)) (body_ended_scoped cs c k sc o.0 o.1)
    (command_scoped cs sc t p (in_body (some c) k) (o.0, o.1))
shift_scoped room cs t p (want_simple k) sc o = simple_scoped cs sc t p k o
shift_scoped room cs t p (want_factor k) sc o = factor_scoped cs sc t p k o
shift_scoped room cs t p (past_factor x y k) sc o = tt
shift_scoped room cs t p (past_term x y k) sc o =
    operator_scoped (multiplying (some t)) (λ u. on cs (want_factor (next_factor x y u p k))) (λ u. (sc, o))
shift_scoped room cs t p (past_simple x y k) sc o = past_simple_scoped cs sc (some t) p x y k o.0 o.1
shift_scoped room cs t p (past_expression x y k) sc o = past_expression_scoped cs sc (some t) x y k o.0 o.1

settled_scoped : (room : ℕ) (cs : List Scope) (t : Token) (p : ℕ) (x : Settled) → ScopesSound [] cs →
    SettledScoped (declared_by [] cs) (NoRoutine cs) (Only cs) x → JudgedScoped (settled room cs t p x)
settled_scoped room cs t p (at f) sc o = shift_scoped room cs t p f sc o
settled_scoped room cs t p (wrong n) sc o = tt

pub judge_scoped : (room : ℕ) (s : State) (t : Token) (p : ℕ) → StateScoped s → JudgedScoped (judge room s t p)
judge_scoped room s t p o =
    settled_scoped room s.scopes t p (settle (some t) s.focus) o.0
    (settle_scoped (declared_by [] s.scopes) (NoRoutine s.scopes) (Only s.scopes) (some t) s.focus o.1)
