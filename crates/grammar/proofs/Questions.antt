-- Which token it is, once the judge's question about the token ahead is answered.
use Rattle.std.proofs.Common.{◌≡◌, ℕ, Bool, true, false, eqb, ◌⊎◌, List, [], ◌∷◌, sym, refl, ap, ◌∙◌, subst₂, inl, inr, eqb-true}
use mathlib.Core.Option.{Option, some, some-injective, none-ne-some}
use Rattle.model.specs.declared.tokens.Word.{Word}
use Rattle.model.specs.declared.tokens.Sign.{Sign}
use Rattle.model.specs.declared.script.Ty.{Ty}
use Rattle.model.specs.declared.script.Operator.{Operator}
use Rattle.model.specs.declared.tokens.Word.TheVariants as Words
use Rattle.model.specs.declared.tokens.Sign.TheVariants as Signs
use Rattle.model.specs.declared.script.Operator.TheVariants as Operators
use Rattle.model.specs.declared.script.Ty.TheVariants.{Inteiro, Booleano}
use Rattle.model.specs.Tokens.{number, word, sign, Token, name}
use Rattle.model.specs.Reading.{pick}
use Rattle.model.specs.Ahead.{word_number, sign_number, token_number, is_word, is_sign}
use Rattle.model.specs.Ahead.{multiplying, adding, comparing, type_named}
use Rattle.grammar.specs.Operators.{or, and, Multiplies, times, div, Adds, plus, minus, Compares, equal, unequal, less}
use Rattle.grammar.specs.Operators.{at_most, greater, at_least, NamesType, inteiro, booleano, TokensTold}
use Rattle.grammar.proofs.Choosing.{choose}

-- ── a token by its number ───────────────────────────────────────────────────────────────────

-- the word or sign that has the number
abbrev numbered : ℕ → Option Token
numbered n =
    pick eqb n (
    (10, word Words.Var) ∷ (11, word Words.Inteiro) ∷ (12, word Words.Booleano) ∷ (13, word Words.Verdadeiro)
    ∷ (14, word Words.Falso) ∷ (15, word Words.Programa) ∷ (16, word Words.Procedimento) ∷ (17, word Words.Funcao)
    ∷ (18, word Words.Inicio) ∷ (19, word Words.Fim) ∷ (20, word Words.Se) ∷ (21, word Words.Entao)
    ∷ (22, word Words.Senao) ∷ (23, word Words.Enquanto) ∷ (24, word Words.Faca) ∷ (25, word Words.Leia)
    ∷ (26, word Words.Escreva) ∷ (27, word Words.E) ∷ (28, word Words.Ou) ∷ (29, word Words.Nao) ∷ (30, word Words.Div)
    ∷ (40, sign Signs.Plus) ∷ (41, sign Signs.Minus) ∷ (42, sign Signs.Times) ∷ (43, sign Signs.Equal)
    ∷ (44, sign Signs.Unequal) ∷ (45, sign Signs.Less) ∷ (46, sign Signs.AtMost) ∷ (47, sign Signs.Greater)
    ∷ (48, sign Signs.AtLeast) ∷ (49, sign Signs.Becomes) ∷ (50, sign Signs.Colon) ∷ (51, sign Signs.Semicolon)
    ∷ (52, sign Signs.Comma) ∷ (53, sign Signs.Period) ∷ (54, sign Signs.OpenBracket) ∷ (55, sign Signs.CloseBracket)
    ∷ []
    )

a_word_is_numbered : (v : Word) → numbered (word_number v) ≡ some (word v)
a_word_is_numbered Words.Var = refl
a_word_is_numbered Words.Inteiro = refl
a_word_is_numbered Words.Booleano = refl
a_word_is_numbered Words.Verdadeiro = refl
a_word_is_numbered Words.Falso = refl
a_word_is_numbered Words.Programa = refl
a_word_is_numbered Words.Procedimento = refl
a_word_is_numbered Words.Funcao = refl
a_word_is_numbered Words.Inicio = refl
a_word_is_numbered Words.Fim = refl
a_word_is_numbered Words.Se = refl
a_word_is_numbered Words.Entao = refl
a_word_is_numbered Words.Senao = refl
a_word_is_numbered Words.Enquanto = refl
a_word_is_numbered Words.Faca = refl
a_word_is_numbered Words.Leia = refl
a_word_is_numbered Words.Escreva = refl
a_word_is_numbered Words.E = refl
a_word_is_numbered Words.Ou = refl
a_word_is_numbered Words.Nao = refl
a_word_is_numbered Words.Div = refl

a_sign_is_numbered : (v : Sign) → numbered (sign_number v) ≡ some (sign v)
a_sign_is_numbered Signs.Plus = refl
a_sign_is_numbered Signs.Minus = refl
a_sign_is_numbered Signs.Times = refl
a_sign_is_numbered Signs.Equal = refl
a_sign_is_numbered Signs.Unequal = refl
a_sign_is_numbered Signs.Less = refl
a_sign_is_numbered Signs.AtMost = refl
a_sign_is_numbered Signs.Greater = refl
a_sign_is_numbered Signs.AtLeast = refl
a_sign_is_numbered Signs.Becomes = refl
a_sign_is_numbered Signs.Colon = refl
a_sign_is_numbered Signs.Semicolon = refl
a_sign_is_numbered Signs.Comma = refl
a_sign_is_numbered Signs.Period = refl
a_sign_is_numbered Signs.OpenBracket = refl
a_sign_is_numbered Signs.CloseBracket = refl

numbers_tell : (t u : Token) → numbered (token_number t) ≡ some u → t ≡ u
numbers_tell (name s) u e = absurd (none-ne-some u e)
numbers_tell (number n) u e = absurd (none-ne-some u e)
numbers_tell (word v) u e = some-injective _ _ (sym (a_word_is_numbered v) ∙ e)
numbers_tell (sign v) u e = some-injective _ _ (sym (a_sign_is_numbered v) ∙ e)

has_number : (t u : Token) (n : ℕ) → token_number t ≡ n → numbered n ≡ some u → t ≡ u
has_number t u n e h = numbers_tell t u (ap numbered e ∙ h)

-- ── is it this word, this sign? ─────────────────────────────────────────────────────────────

pub is_that_word : (v : Word) (t : Token) → is_word v (some t) ≡ true → t ≡ word v
is_that_word v t e =
    has_number t (word v) (word_number v) (sym (eqb-true (word_number v) (token_number t) e)) (a_word_is_numbered v)

pub is_that_sign : (v : Sign) (t : Token) → is_sign v (some t) ≡ true → t ≡ sign v
is_that_sign v t e =
    has_number t (sign v) (sign_number v) (sym (eqb-true (sign_number v) (token_number t) e)) (a_sign_is_numbered v)

-- ── which operator, which type? ─────────────────────────────────────────────────────────────

-- n is the key of an entry that stands for o
abbrev Among : {A : Type 0} → ℕ → A → List (ℕ × A) → Type 0
Among n o [] = ⊥
Among n o (e ∷ es) = ((n ≡ e.0) × (e.1 ≡ o)) ⊎ Among n o es

here_or_later :
    {A : Type 0} (n m : ℕ) (a o : A) (rest : Option A) (P : Type 0) → (rest ≡ some o → P) →
    (b : Bool) → eqb n m ≡ b → choose b (some a) rest ≡ some o → ((n ≡ m) × (a ≡ o)) ⊎ P
here_or_later n m a o rest P f true q h = inl (eqb-true n m q, some-injective a o h)
here_or_later n m a o rest P f false q h = inr (f h)

picked_is_among : {A : Type 0} (n : ℕ) (o : A) (es : List (ℕ × A)) → pick eqb n es ≡ some o → Among n o es
picked_is_among n o [] h = absurd (none-ne-some o h)
picked_is_among n o (e ∷ es) h =
    here_or_later n e.0 e.1 o (pick eqb n es) _ (λ q. picked_is_among n o es q) (eqb n e.0) refl h

-- each question with its table, as the judge has it; and back

abbrev multiplications : List (ℕ × Operator)
multiplications = (42, Operators.Mult) ∷ (30, Operators.Divi) ∷ (27, Operators.And) ∷ []

pub multiplies : (t : Token) (o : Operator) → multiplying (some t) ≡ some o → Multiplies t o
multiplies t o h =
    elim (picked_is_among (token_number t) o multiplications h) [
      | inl (e, q) ↦ subst₂ Multiplies (sym (has_number t _ _ e refl)) q times
      | inr (inl (e, q)) ↦ subst₂ Multiplies (sym (has_number t _ _ e refl)) q div
      | inr (inr (inl (e, q))) ↦ subst₂ Multiplies (sym (has_number t _ _ e refl)) q and
      | inr (inr (inr z)) ↦ absurd z
    ]

pub is_multiplying : {t : Token} {o : Operator} → Multiplies t o → multiplying (some t) ≡ some o
is_multiplying times = refl
is_multiplying div = refl
is_multiplying and = refl

abbrev additions : List (ℕ × Operator)
additions = (40, Operators.Add) ∷ (41, Operators.Sub) ∷ (28, Operators.Or) ∷ []

pub adds : (t : Token) (o : Operator) → adding (some t) ≡ some o → Adds t o
adds t o h =
    elim (picked_is_among (token_number t) o additions h) [
      | inl (e, q) ↦ subst₂ Adds (sym (has_number t _ _ e refl)) q plus
      | inr (inl (e, q)) ↦ subst₂ Adds (sym (has_number t _ _ e refl)) q minus
      | inr (inr (inl (e, q))) ↦ subst₂ Adds (sym (has_number t _ _ e refl)) q or
      | inr (inr (inr z)) ↦ absurd z
    ]

pub is_adding : {t : Token} {o : Operator} → Adds t o → adding (some t) ≡ some o
is_adding plus = refl
is_adding minus = refl
is_adding or = refl

abbrev comparisons : List (ℕ × Operator)
comparisons =
    (43, Operators.Equal) ∷ (44, Operators.Unequal) ∷ (45, Operators.Less) ∷ (46, Operators.AtMost)
    ∷ (47, Operators.Greater) ∷ (48, Operators.AtLeast) ∷ []

pub compares : (t : Token) (o : Operator) → comparing (some t) ≡ some o → Compares t o
compares t o h =
    elim (picked_is_among (token_number t) o comparisons h) [
      | inl (e, q) ↦ subst₂ Compares (sym (has_number t _ _ e refl)) q equal
      | inr (inl (e, q)) ↦ subst₂ Compares (sym (has_number t _ _ e refl)) q unequal
      | inr (inr (inl (e, q))) ↦ subst₂ Compares (sym (has_number t _ _ e refl)) q less
      | inr (inr (inr (inl (e, q)))) ↦ subst₂ Compares (sym (has_number t _ _ e refl)) q at_most
      | inr (inr (inr (inr (inl (e, q))))) ↦ subst₂ Compares (sym (has_number t _ _ e refl)) q greater
      | inr (inr (inr (inr (inr (inl (e, q)))))) ↦ subst₂ Compares (sym (has_number t _ _ e refl)) q at_least
      | inr (inr (inr (inr (inr (inr z))))) ↦ absurd z
    ]

pub is_comparing : {t : Token} {o : Operator} → Compares t o → comparing (some t) ≡ some o
is_comparing equal = refl
is_comparing unequal = refl
is_comparing less = refl
is_comparing at_most = refl
is_comparing greater = refl
is_comparing at_least = refl

abbrev type_words : List (ℕ × Ty)
type_words = (11, Inteiro) ∷ (12, Booleano) ∷ []

pub names_type : (t : Token) (y : Ty) → type_named (some t) ≡ some y → NamesType t y
names_type t y h =
    elim (picked_is_among (token_number t) y type_words h) [
      | inl (e, q) ↦ subst₂ NamesType (sym (has_number t _ _ e refl)) q inteiro
      | inr (inl (e, q)) ↦ subst₂ NamesType (sym (has_number t _ _ e refl)) q booleano
      | inr (inr z) ↦ absurd z
    ]

pub is_type_named : {t : Token} {o : Ty} → NamesType t o → type_named (some t) ≡ some o
is_type_named inteiro = refl
is_type_named booleano = refl

pub tokens_told : TokensTold
tokens_told = (
  λ t o. (multiplies t o, is_multiplying),
  λ t o. (adds t o, is_adding),
  λ t o. (compares t o, is_comparing),
  λ t y. (names_type t y, is_type_named),
)
