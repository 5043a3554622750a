-- Which bytes look like a token, which token they spell, and which are too many or too large for one. Assumes nothing.
use Rattle.std.specs.Prelude.{◌≡◌, ℕ, zero, suc, ◌+◌, ◌-◌, ◌*◌, ◌<◌, ◌≤◌, Bool, true, List, [], ◌∷◌, ◌++◌, length}
use Rattle.model.specs.declared.tokens.Word.{Word}
use Rattle.model.specs.declared.tokens.Sign.{Sign}
use Rattle.model.specs.declared.faults.ReaderFault.{ReaderFault}
use Rattle.model.specs.declared.faults.ReaderFault.TheVariants.{LargeNumber, LongName}
use Rattle.model.specs.Tokens.{word, name, number, Token, sign}
use Rattle.model.specs.Reading.{long_signs, short_signs, letter, name_byte, digit, words}

-- ── bytes and tables ────────────────────────────────────────────────────────────────────────

-- every byte passes the test
abbrev pub All : (ℕ → Bool) → List ℕ → Type 0
All p [] = Unit {0}
All p (b ∷ bs) = (p b ≡ true) × All p bs

-- the table has an entry for s, and it stands for a
pub data Entry {A : Type 0} (s : List ℕ) (a : A) : List (List ℕ × A) → Type 0 where
  this : {es : List (List ℕ × A)} → Entry s a ((s, a) ∷ es)
  later : {e : List ℕ × A} {es : List (List ℕ × A)} → Entry s a es → Entry s a (e ∷ es)

abbrev pub Unlisted : {A : Type 0} → List ℕ → List (List ℕ × A) → Type 0
Unlisted {A} s es = (a : A) → Entry s a es → ⊥

abbrev pub signs : List (List ℕ × Sign)
signs = long_signs ++ short_signs

-- ── what looks like a token ─────────────────────────────────────────────────────────────────

-- a letter, and behind it letters, digits and underscores
abbrev pub WordLike : List ℕ → Type 0
WordLike [] = ⊥
WordLike (b ∷ bs) = (letter b ≡ true) × All name_byte bs

-- one digit at least, and nothing else
abbrev pub Digits : List ℕ → Type 0
Digits [] = ⊥
Digits (b ∷ bs) = (digit b ≡ true) × All digit bs

pub data Looks : List ℕ → Type 0 where
  like_a_word : {s : List ℕ} → WordLike s → Looks s
  like_a_number : {s : List ℕ} → Digits s → Looks s
  like_a_sign : {s : List ℕ} (g : Sign) → Entry s g signs → Looks s

-- ── what it spells ──────────────────────────────────────────────────────────────────────────

-- ten, multiplied so many times
abbrev pub tens : ℕ → ℕ
tens zero = 1
tens (suc n) = 10 * tens n

-- each digit counts ten for each digit behind it; the digit 0 is byte 48
abbrev pub value : List ℕ → ℕ
value [] = 0
value (d ∷ ds) = (d - 48) * tens (length ds) + value ds

-- a reserved word is one of the list, and any other word of 30 bytes at most is a name; a number is at most
-- 2,147,483,647
pub data Spells : List ℕ → Token → Type 0 where
  reserved : {s : List ℕ} (w : Word) → Entry s w words → Spells s (word w)
  named : {s : List ℕ} → WordLike s → Unlisted s words → length s ≤ 30 → Spells s (name s)
  counted : {s : List ℕ} → Digits s → value s ≤ 2147483647 → Spells s (number (value s))
  signed : {s : List ℕ} (g : Sign) → Entry s g signs → Spells s (sign g)

-- a word or a number beyond these bounds, and its fault
pub data Exceeds : List ℕ → ReaderFault → Type 0 where
  long_name : {s : List ℕ} → WordLike s → 30 < length s → Exceeds s LongName
  large_number : {s : List ℕ} → Digits s → 2147483647 < value s → Exceeds s LargeNumber
