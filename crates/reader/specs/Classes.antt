-- What the class of a byte says of it, and the rule of the table that gives each byte its class. Assumes nothing.
use Rattle.std.specs.Prelude.{◌≡◌, ℕ, suc, Bool, true, false, ◌&&◌, List, [], ◌∷◌, ◌==◌, nat_eq}
use Rattle.model.specs.Reading.{blank, letter, digit, name_byte}
use Rattle.reader.specs.declared.classes.Class.{Class}
use Rattle.reader.specs.declared.classes.Class.TheVariants.{Blank, Brace, Letter, Digit, Underscore, Other}

-- ── classes ─────────────────────────────────────────────────────────────────────────────────

abbrev pub is_blank : Class → Bool
is_blank Blank = true
is_blank Brace = false
is_blank Letter = false
is_blank Digit = false
is_blank Underscore = false
is_blank Other = false

abbrev pub is_brace : Class → Bool
is_brace Blank = false
is_brace Brace = true
is_brace Letter = false
is_brace Digit = false
is_brace Underscore = false
is_brace Other = false

abbrev pub is_letter : Class → Bool
is_letter Blank = false
is_letter Brace = false
is_letter Letter = true
is_letter Digit = false
is_letter Underscore = false
is_letter Other = false

abbrev pub is_digit : Class → Bool
is_digit Blank = false
is_digit Brace = false
is_digit Letter = false
is_digit Digit = true
is_digit Underscore = false
is_digit Other = false

abbrev pub is_name_byte : Class → Bool
is_name_byte Blank = false
is_name_byte Brace = false
is_name_byte Letter = true
is_name_byte Digit = true
is_name_byte Underscore = true
is_name_byte Other = false

-- what the class of byte b says of it; a comment opens with byte 123
pub record Classed (b : ℕ) (c : Class) : Type 0 where
  pub blanks : blank b ≡ is_blank c
  pub braces : nat_eq b 123 ≡ is_brace c
  pub letters : letter b ≡ is_letter c
  pub digits : digit b ≡ is_digit c
  pub names : name_byte b ≡ is_name_byte c

-- ── the table ───────────────────────────────────────────────────────────────────────────────

abbrev pub alike : Bool → Bool → Bool
alike true true = true
alike true false = false
alike false true = false
alike false false = true

-- the same as a test
abbrev pub right : ℕ → Class → Bool
right b c =
    alike (blank b) (is_blank c) && (alike (b == 123) (is_brace c)
    && (alike (letter b) (is_letter c) && (alike (digit b) (is_digit c) && alike (name_byte b) (is_name_byte c))))

-- the test f passes at each entry of the list and its place, counted from i
abbrev pub every : {X : Type 0} → (ℕ → X → Bool) → ℕ → List X → Bool
every f i [] = true
every f i (x ∷ xs) = f i x && every f (suc i) xs
