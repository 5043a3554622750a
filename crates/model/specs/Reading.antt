-- How a text, a list of bytes, is read into tokens. Assumes nothing.
use Rattle.std.specs.Prelude.{Bool, true, false, ◌&&◌, ◌||◌, List, [], ◌∷◌, ℕ, zero, suc, ◌+◌, ◌-◌, ◌*◌, eqb, leb, codes, length, drop}
use Rattle.std.proofs.Math.Option.{Option, none, some}
use Rattle.model.specs.declared.tokens.Word.{Word}
use Rattle.model.specs.declared.tokens.Word.TheVariants as Words
use Rattle.model.specs.declared.tokens.Sign.{Sign}
use Rattle.model.specs.declared.tokens.Sign.TheVariants as Signs
use Rattle.model.specs.declared.faults.ReaderFault.{ReaderFault}
use Rattle.model.specs.declared.faults.ReaderFault.TheVariants.{NoToken, OpenComment, LargeNumber, LongName}
use Rattle.model.specs.Tokens.{Token, word, sign, name, number, Stream, next, ends, breaks}

-- ── bytes ───────────────────────────────────────────────────────────────────────────────────

abbrev pub within : ℕ → ℕ → ℕ → Bool
within low high b = leb low b && leb b high

abbrev pub blank : ℕ → Bool
blank b = eqb b 9 || eqb b 10 || eqb b 13 || eqb b 32

abbrev pub letter : ℕ → Bool
letter b = within 65 90 b || within 97 122 b

abbrev pub digit : ℕ → Bool
digit b = within 48 57 b

-- what may follow the first letter of a name
abbrev pub name_byte : ℕ → Bool
name_byte b = letter b || digit b || eqb b 95

-- ── what stands between tokens ──────────────────────────────────────────────────────────────

-- where the next token begins, with the bytes from there, or the place of a comment that is never closed
pub data Skipped : Type 0 where
  to : ℕ → List ℕ → Skipped
  unclosed : ℕ → Skipped

abbrev mutual
  -- from place p on, over blanks and comments
  pub skip : ℕ → List ℕ → Skipped
  skip p [] = to p []
  skip p (b ∷ bs) =
      elim (blank b) [ true ↦ skip (suc p) bs | false ↦ elim (eqb b 123) [ true ↦ comment p (suc p) bs | false ↦ to p (b ∷ bs) ] ]

  -- inside the comment that was opened at place o
  pub comment : ℕ → ℕ → List ℕ → Skipped
  comment o p [] = unclosed o
  comment o p (b ∷ bs) = elim (eqb b 125) [ true ↦ skip (suc p) bs | false ↦ comment o (suc p) bs ]

-- ── words and signs ─────────────────────────────────────────────────────────────────────────

abbrev pub same : List ℕ → List ℕ → Bool
same [] [] = true
same [] (y ∷ ys) = false
same (x ∷ xs) [] = false
same (x ∷ xs) (y ∷ ys) = eqb x y && same xs ys

-- what the first key that is alike stands for
abbrev pub pick : {K A : Type 0} → (K → K → Bool) → K → List (K × A) → Option A
pick alike k [] = none
pick alike k (e ∷ es) = elim (alike k e.0) [ true ↦ some e.1 | false ↦ pick alike k es ]

abbrev pub words : List (List ℕ × Word)
words =
    (codes "var", Words.Var) ∷ (codes "inteiro", Words.Inteiro) ∷ (codes "booleano", Words.Booleano)
    ∷ (codes "verdadeiro", Words.Verdadeiro) ∷ (codes "falso", Words.Falso) ∷ (codes "programa", Words.Programa)
    ∷ (codes "procedimento", Words.Procedimento) ∷ (codes "funcao", Words.Funcao) ∷ (codes "inicio", Words.Inicio)
    ∷ (codes "fim", Words.Fim) ∷ (codes "se", Words.Se) ∷ (codes "entao", Words.Entao) ∷ (codes "senao", Words.Senao)
    ∷ (codes "enquanto", Words.Enquanto) ∷ (codes "faca", Words.Faca) ∷ (codes "leia", Words.Leia)
    ∷ (codes "escreva", Words.Escreva) ∷ (codes "e", Words.E) ∷ (codes "ou", Words.Ou) ∷ (codes "nao", Words.Nao)
    ∷ (codes "div", Words.Div) ∷ []

abbrev pub long_signs : List (List ℕ × Sign)
long_signs =
    (codes "!=", Signs.Unequal) ∷ (codes "<=", Signs.AtMost) ∷ (codes ">=", Signs.AtLeast) ∷ (codes ":=", Signs.Becomes) ∷ []

abbrev pub short_signs : List (List ℕ × Sign)
short_signs =
    (codes "+", Signs.Plus) ∷ (codes "-", Signs.Minus) ∷ (codes "*", Signs.Times) ∷ (codes "=", Signs.Equal)
    ∷ (codes "<", Signs.Less) ∷ (codes ">", Signs.Greater) ∷ (codes ":", Signs.Colon) ∷ (codes ";", Signs.Semicolon)
    ∷ (codes ",", Signs.Comma) ∷ (codes ".", Signs.Period) ∷ (codes "(", Signs.OpenBracket) ∷ (codes ")", Signs.CloseBracket)
    ∷ []

-- ── one token ───────────────────────────────────────────────────────────────────────────────

-- a token with its length, or the reader's fault
pub data Got : Type 0 where
  got : Token → ℕ → Got
  faulty : ReaderFault → Got

-- the longest front of bytes that all pass
abbrev pub front : (ℕ → Bool) → List ℕ → List ℕ
front p [] = []
front p (b ∷ bs) = elim (p b) [ true ↦ b ∷ front p bs | false ↦ [] ]

abbrev pub spelled : List ℕ → Option Word → Got
spelled s none = got (name s) (length s)
spelled s (some w) = got (word w) (length s)

-- a reserved word, or a name
abbrev pub name_of : List ℕ → Got
name_of s = elim (leb (length s) 30) [ true ↦ spelled s (pick same s words) | false ↦ faulty LongName ]

-- what digits are worth behind those that are worth n
abbrev pub worth : ℕ → List ℕ → ℕ
worth n [] = n
worth n (d ∷ ds) = worth (n * 10 + (d - 48)) ds

abbrev pub number_of : List ℕ → Got
number_of s = elim (leb (worth 0 s) 2147483647) [ true ↦ got (number (worth 0 s)) (length s) | false ↦ faulty LargeNumber ]

abbrev pub or_else : Option Sign → ℕ → Got → Got
or_else none n g = g
or_else (some s) n g = got (sign s) n

abbrev pub pair : ℕ → List ℕ → List ℕ
pair b [] = b ∷ []
pair b (c ∷ cs) = b ∷ c ∷ []

-- a sign of two bytes if one fits, else of one
abbrev pub sign_at : ℕ → List ℕ → Got
sign_at b bs = or_else (pick same (pair b bs) long_signs) 2 (or_else (pick same (b ∷ []) short_signs) 1 (faulty NoToken))

-- the token that begins with byte b, followed by bs
abbrev pub token_at : ℕ → List ℕ → Got
token_at b bs =
    elim (letter b) [
      | true ↦ name_of (b ∷ front name_byte bs)
      | false ↦ elim (digit b) [ true ↦ number_of (b ∷ front digit bs) | false ↦ sign_at b bs ]
    ]

-- ── the whole text ──────────────────────────────────────────────────────────────────────────

abbrev pub carry_on : (ℕ → List ℕ → Stream) → ℕ → List ℕ → Got → Stream
carry_on go p bs (got t n) = next t p (go (p + n) (drop n bs))
carry_on go p bs (faulty f) = breaks f p

abbrev pub read_on : (ℕ → List ℕ → Stream) → Skipped → Stream
read_on go (unclosed o) = breaks OpenComment o
read_on go (to p []) = ends p
read_on go (to p (b ∷ bs)) = carry_on go p (b ∷ bs) (token_at b bs)

-- what reading gives from place p on, where k bounds the number of tokens
abbrev pub reading : ℕ → ℕ → List ℕ → Stream
reading zero p bs = ends p
reading (suc k) p bs = read_on (reading k) (skip p bs)

-- every token has a byte at least, so the bound is never met
abbrev pub read : List ℕ → Stream
read text = reading (suc (length text)) 0 text
