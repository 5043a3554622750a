-- Worked examples of the rules. Assumes nothing.
use Rattle.std.specs.Prelude.{ℕ, List, [], ◌∷◌, replicate, codes}
use Rattle.model.specs.declared.tokens.Word.TheVariants as Words
use Rattle.model.specs.declared.tokens.Sign.TheVariants as Signs
use Rattle.model.specs.declared.faults.ReaderFault.TheVariants.{NoToken, OpenComment, LargeNumber, LongName}
use Rattle.model.specs.Tokens.{Stream, ends, word, next, name, number, sign, breaks, Token}
use Rattle.model.specs.Promise.{Each}
use Rattle.reading.specs.Spelling.{Spells}
use Rattle.reading.specs.Rules.{ReadAs}

-- texts, and what they are read as
abbrev pub readings : List (List ℕ × Stream)
readings =
    (codes "", ends 0)
    ∷ (codes " {x} ", ends 5)
    -- a word goes as far as letters, digits and underscores do
    ∷ (codes "se x", next (word Words.Se) 0 (next (name (codes "x")) 3 (ends 4)))
    ∷ (codes "sex", next (name (codes "sex")) 0 (ends 3))
    ∷ (codes "Se", next (name (codes "Se")) 0 (ends 2))
    ∷ (codes "e_1", next (name (codes "e_1")) 0 (ends 3))
    -- and a number as far as digits do; zeros in front count nothing
    ∷ (codes "12ab", next (number 12) 0 (next (name (codes "ab")) 2 (ends 4)))
    ∷ (codes "007", next (number 7) 0 (ends 3))
    -- a sign of two bytes goes before one of one
    ∷ (codes "x:=1", next (name (codes "x")) 0 (next (sign Signs.Becomes) 1 (next (number 1) 3 (ends 4))))
    ∷ (codes "<=", next (sign Signs.AtMost) 0 (ends 2))
    ∷ (codes "< =", next (sign Signs.Less) 0 (next (sign Signs.Equal) 2 (ends 3)))
    -- a comment parts words, and its first closing brace ends it
    ∷ (codes "a{b}c", next (name (codes "a")) 0 (next (name (codes "c")) 4 (ends 5)))
    ∷ (codes "{{}}", breaks NoToken 3)
    ∷ (codes "x {y", next (name (codes "x")) 0 (breaks OpenComment 2))
    -- bytes that begin no token
    ∷ (codes "1_0", next (number 1) 0 (breaks NoToken 1))
    ∷ (codes "x ! y", next (name (codes "x")) 0 (breaks NoToken 2))
    -- the greatest number and the longest name, and one more
    ∷ (codes "2147483647", next (number 2147483647) 0 (ends 10))
    ∷ (codes "2147483648", breaks LargeNumber 0)
    ∷ (replicate 30 97, next (name (replicate 30 97)) 0 (ends 30))
    ∷ (replicate 31 97, breaks LongName 0)
    ∷ []

-- bytes, and the tokens that they spell
abbrev pub spellings : List (List ℕ × Token)
spellings =
    (codes "senao", word Words.Senao) ∷ (codes "senao1", name (codes "senao1")) ∷ (codes "042", number 42)
    ∷ (codes ":=", sign Signs.Becomes) ∷ (codes ":", sign Signs.Colon) ∷ []

-- bytes that spell no token
abbrev pub no_spellings : List (List ℕ)
no_spellings =
    codes "" ∷ codes " x" ∷ codes "x y" ∷ codes "1a" ∷ codes "_a" ∷ codes "<>" ∷ codes "{x}" ∷ codes "2147483648" ∷
    replicate 31 97
    ∷ []

abbrev pub ExamplesStand : Type 0
ExamplesStand =
    Each (λ e. ReadAs 0 e.0 e.1) readings
    × Each (λ e. Spells e.0 e.1) spellings
    × Each (λ s. (t : Token) → Spells s t → ⊥) no_spellings
