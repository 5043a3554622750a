-- Tokens of a body: commands and expressions. Assumes nothing.
use Rattle.std.specs.Prelude.{true, false, List, [], ◌∷◌, ℕ, pos}
use Rattle.std.proofs.Math.Option.{none, some}
use Rattle.model.specs.declared.tokens.Word.TheVariants as Words
use Rattle.model.specs.declared.tokens.Sign.TheVariants as Signs
use Rattle.model.specs.declared.script.Ty.{Ty}
use Rattle.model.specs.declared.script.Ty.TheVariants.{Inteiro, Booleano}
use Rattle.model.specs.Tokens.{Token, word, sign, name, number}
use Rattle.model.specs.Tree.{Found, Exp, Cmd, constant, variable, call}
use Rattle.model.specs.Names.{Kind, a_variable, a_procedure, a_function, Scope, visible}
use Rattle.model.specs.Ahead.{Next, is_word, is_sign, adding, comparing}
use Rattle.model.specs.Contexts.{CommandIn, in_body, in_then, in_loop, BodyIn, own, inner, ExpressionIn, bracketed, assigned, chosen, repeated, SimpleIn, left_of, right_of, first_term, plus_term, minus_term, next_term, FactorIn, first_factor, denied_factor}
use Rattle.model.specs.Contexts.{levels_of_command, levels_of_factor, want_period, want_routine_end, want_command, past_name, leia_open, escreva_open, past_command, want_simple, want_factor, past_factor}
use Rattle.model.specs.Judged.{Judged, not_admitted, wrong_kind, on, admitted, deeper, with_operator, with_seen}

-- ── expressions ─────────────────────────────────────────────────────────────────────────────

-- a name as a factor, where it stands for this, declared h blocks up
abbrev pub use_of : List Scope → ℕ → FactorIn → Kind → ℕ → Judged
use_of cs p k (a_variable y i) h = on cs (past_factor (variable p (record { hops = h; index = i })) y k)
use_of cs p k (a_function y w) h = on cs (past_factor (call p (record { hops = h; index = w })) y k)
use_of cs p k (a_procedure w) h = wrong_kind

-- a factor that begins with a word or a sign
abbrev pub bracket_or_not : List Scope → Next → ℕ → FactorIn → Judged
bracket_or_not cs t p k =
    elim (is_sign Signs.OpenBracket t) [
      | true ↦ deeper cs (levels_of_factor k) (on cs (want_simple (left_of (bracketed k))))
      | false ↦ elim (is_word Words.Nao t) [
        | true ↦ deeper cs (levels_of_factor k) (on cs (want_factor (denied_factor p k)))
        | false ↦ elim (is_word Words.Verdadeiro t) [
          | true ↦ on cs (past_factor (constant p (pos 1)) Booleano k)
          | false ↦ admitted (is_word Words.Falso t) (on cs (past_factor (constant p (pos 0)) Booleano k))
        ]
      ]
    ]

abbrev pub shift_factor : List Scope → Token → ℕ → FactorIn → Judged
shift_factor cs (name s) p k = with_seen (visible s cs) (λ d. use_of cs p k d.kind d.hops)
shift_factor cs (number n) p k = on cs (past_factor (constant p (pos n)) Inteiro k)
shift_factor cs (word w) p k = bracket_or_not cs (some (word w)) p k
shift_factor cs (sign g) p k = bracket_or_not cs (some (sign g)) p k

-- a sign in front belongs to the first term
abbrev pub shift_simple : List Scope → Token → ℕ → SimpleIn → Judged
shift_simple cs t p k =
    elim (is_sign Signs.Plus (some t)) [
      | true ↦ on cs (want_factor (first_factor (plus_term k)))
      | false ↦ elim (is_sign Signs.Minus (some t)) [
        | true ↦ on cs (want_factor (first_factor (minus_term p k)))
        | false ↦ shift_factor cs t p (first_factor (first_term k))
      ]
    ]

-- past the left side of a comparison another term or the comparison may come, past its right side only a term
abbrev pub shift_past_simple : List Scope → Next → ℕ → Exp → Ty → SimpleIn → Judged
shift_past_simple cs t p x y (left_of k) =
    elim (adding t) [
      | some o ↦ on cs (want_factor (first_factor (next_term x y o p (left_of k))))
      | none ↦ with_operator (comparing t) (λ o. on cs (want_simple (right_of x y o p k)))
    ]
shift_past_simple cs t p x y (right_of l z o q k) =
    with_operator (adding t) (λ a. on cs (want_factor (first_factor (next_term x y a p (right_of l z o q k)))))

-- an expression ends at its bracket, `entao` or `faca`; one that is assigned has ended before the token
abbrev pub shift_past_expression : List Scope → Next → Exp → Ty → ExpressionIn → Judged
shift_past_expression cs t x y (bracketed k) = admitted (is_sign Signs.CloseBracket t) (on cs (past_factor x y k))
shift_past_expression cs t x y (chosen p k) = admitted (is_word Words.Entao t) (on cs (want_command (in_then p x k)))
shift_past_expression cs t x y (repeated p k) = admitted (is_word Words.Faca t) (on cs (want_command (in_loop p x k)))
shift_past_expression cs t x y (assigned p f z k) = not_admitted

-- ── commands ────────────────────────────────────────────────────────────────────────────────

abbrev pub shift_command : List Scope → Token → ℕ → CommandIn → Judged
shift_command cs (name s) p k = with_seen (visible s cs) (λ d. on cs (past_name p d.kind d.hops d.inside k))
shift_command cs (number n) p k = not_admitted
shift_command cs (sign g) p k = not_admitted
shift_command cs (word w) p k =
    elim (is_word Words.Se (some (word w))) [
      | true ↦ deeper cs (levels_of_command k) (on cs (want_simple (left_of (chosen p k))))
      | false ↦ elim (is_word Words.Enquanto (some (word w))) [
        | true ↦ deeper cs (levels_of_command k) (on cs (want_simple (left_of (repeated p k))))
        | false ↦ elim (is_word Words.Inicio (some (word w))) [
          | true ↦ deeper cs (levels_of_command k) (on cs (want_command (in_body none (inner k))))
          | false ↦ elim (is_word Words.Leia (some (word w))) [
            | true ↦ on cs (leia_open p k)
            | false ↦ admitted (is_word Words.Escreva (some (word w))) (on cs (escreva_open p k))
          ]
        ]
      ]
    ]

-- what `leia` and `escreva` want
abbrev pub number_variable : Kind → ℕ → (Found → Judged) → Judged
number_variable (a_variable Inteiro i) h j = j (record { hops = h; index = i })
number_variable (a_variable Booleano i) h j = wrong_kind
number_variable (a_procedure w) h j = wrong_kind
number_variable (a_function y w) h j = wrong_kind

-- `fim`: the end of a command, of the program's body or of a routine's
abbrev pub body_ended : List Scope → Cmd → BodyIn → Judged
body_ended cs c (inner k) = on cs (past_command c k)
body_ended [] c own = not_admitted
body_ended (s ∷ []) c own = on (s ∷ []) (want_period c)
body_ended (s ∷ u ∷ cs) c own = on (s ∷ u ∷ cs) (want_routine_end c)
