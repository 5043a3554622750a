-- The token ahead of the judge: which word, sign, operator or type it is, if any. Assumes nothing.
use Rattle.std.specs.Prelude.{Bool, true, false, [], ◌∷◌, ℕ, eqb}
use Rattle.std.proofs.Math.Option.{Option, none, some}
use Rattle.model.specs.declared.tokens.Word.{Word}
use Rattle.model.specs.declared.tokens.Word.TheVariants as Words
use Rattle.model.specs.declared.tokens.Sign.{Sign}
use Rattle.model.specs.declared.tokens.Sign.TheVariants as Signs
use Rattle.model.specs.declared.script.Operator.{Operator}
use Rattle.model.specs.declared.script.Operator.TheVariants as Operators
use Rattle.model.specs.declared.script.Ty.{Ty}
use Rattle.model.specs.declared.script.Ty.TheVariants.{Inteiro, Booleano}
use Rattle.model.specs.Tokens.{Token, word, sign, name, number}
use Rattle.model.specs.Reading.{pick}

-- tokens are told apart by numbers of their own

abbrev pub word_number : Word → ℕ
word_number Words.Var = 10
word_number Words.Inteiro = 11
word_number Words.Booleano = 12
word_number Words.Verdadeiro = 13
word_number Words.Falso = 14
word_number Words.Programa = 15
word_number Words.Procedimento = 16
word_number Words.Funcao = 17
word_number Words.Inicio = 18
word_number Words.Fim = 19
word_number Words.Se = 20
word_number Words.Entao = 21
word_number Words.Senao = 22
word_number Words.Enquanto = 23
word_number Words.Faca = 24
word_number Words.Leia = 25
word_number Words.Escreva = 26
word_number Words.E = 27
word_number Words.Ou = 28
word_number Words.Nao = 29
word_number Words.Div = 30

abbrev pub sign_number : Sign → ℕ
sign_number Signs.Plus = 40
sign_number Signs.Minus = 41
sign_number Signs.Times = 42
sign_number Signs.Equal = 43
sign_number Signs.Unequal = 44
sign_number Signs.Less = 45
sign_number Signs.AtMost = 46
sign_number Signs.Greater = 47
sign_number Signs.AtLeast = 48
sign_number Signs.Becomes = 49
sign_number Signs.Colon = 50
sign_number Signs.Semicolon = 51
sign_number Signs.Comma = 52
sign_number Signs.Period = 53
sign_number Signs.OpenBracket = 54
sign_number Signs.CloseBracket = 55

abbrev pub token_number : Token → ℕ
token_number (name s) = 0
token_number (number n) = 1
token_number (word w) = word_number w
token_number (sign g) = sign_number g

-- the next token, or none at the end of the text
abbrev pub Next : Type 0
Next = Option Token

abbrev pub next_number : Next → ℕ
next_number none = 2
next_number (some t) = token_number t

abbrev pub is_word : Word → Next → Bool
is_word w t = eqb (word_number w) (next_number t)

abbrev pub is_sign : Sign → Next → Bool
is_sign g t = eqb (sign_number g) (next_number t)

-- ── operators and types ─────────────────────────────────────────────────────────────────────

abbrev pub present : {A : Type 0} → Option A → Bool
present none = false
present (some a) = true

-- between two factors
abbrev pub multiplying : Next → Option Operator
multiplying t =
    pick eqb (next_number t) (
    (sign_number Signs.Times, Operators.Mult) ∷ (word_number Words.Div, Operators.Divi) ∷ (word_number Words.E, Operators.And) ∷ []
    )

-- between two terms
abbrev pub adding : Next → Option Operator
adding t =
    pick eqb (next_number t) (
    (sign_number Signs.Plus, Operators.Add) ∷ (sign_number Signs.Minus, Operators.Sub) ∷ (word_number Words.Ou, Operators.Or) ∷ []
    )

-- between two simple expressions
abbrev pub comparing : Next → Option Operator
comparing t =
    pick eqb (next_number t) (
    (sign_number Signs.Equal, Operators.Equal) ∷ (sign_number Signs.Unequal, Operators.Unequal)
    ∷ (sign_number Signs.Less, Operators.Less) ∷ (sign_number Signs.AtMost, Operators.AtMost)
    ∷ (sign_number Signs.Greater, Operators.Greater) ∷ (sign_number Signs.AtLeast, Operators.AtLeast) ∷ []
    )

abbrev pub type_named : Next → Option Ty
type_named t = pick eqb (next_number t) ((word_number Words.Inteiro, Inteiro) ∷ (word_number Words.Booleano, Booleano) ∷ [])
