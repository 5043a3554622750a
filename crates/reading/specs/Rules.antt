-- How a text is read, as rules: gaps, and between them the longest pieces that look like tokens. Assumes nothing.
use Rattle.std.specs.Prelude.{◌≡◌, ℕ, ◌+◌, Bool, true, false, not, List, [], ◌∷◌, ◌++◌, length, ◌==◌}
use Rattle.model.specs.declared.faults.ReaderFault.{ReaderFault}
use Rattle.model.specs.declared.faults.ReaderFault.TheVariants.{NoToken, OpenComment}
use Rattle.model.specs.Tokens.{next, Stream, ends, Token, breaks}
use Rattle.model.specs.Reading.{blank}
use Rattle.reading.specs.Spelling.{All, Looks, Spells, Exceeds}

-- ── what stands between tokens ──────────────────────────────────────────────────────────────

-- any byte but the brace that closes a comment
abbrev pub no_close : ℕ → Bool
no_close b = not (b == 125)

-- blanks and comments; a comment goes from `{` (byte 123) to the next `}` (byte 125)
pub data Gap : List ℕ → Type 0 where
  nothing : Gap []
  blank_more : (b : ℕ) (bs : List ℕ) → blank b ≡ true → Gap bs → Gap (b ∷ bs)
  comment_more : (inside bs : List ℕ) → All no_close inside → Gap bs → Gap (123 ∷ inside ++ 125 ∷ bs)

-- ── the piece at a place ────────────────────────────────────────────────────────────────────

-- s looks like a token, and no longer front of s and the rest does
abbrev pub Longest : List ℕ → List ℕ → Type 0
Longest s rest = Looks s × ((more after : List ℕ) → rest ≡ more ++ after → Looks (s ++ more) → more ≡ [])

-- no front of the bytes looks like a token
abbrev pub LooksLikeNothing : List ℕ → Type 0
LooksLikeNothing bs = (s rest : List ℕ) → bs ≡ s ++ rest → Looks s → ⊥

-- ── whole texts ─────────────────────────────────────────────────────────────────────────────

-- from place p on, the bytes are read as the stream
pub data ReadAs : ℕ → List ℕ → Stream → Type 0 where
  the_end : (p : ℕ) (gap : List ℕ) → Gap gap → ReadAs p gap (ends (p + length gap))
  a_token :
      (p : ℕ) (gap s rest : List ℕ) (t : Token) (more : Stream) →
      Gap gap → Longest s rest → Spells s t → ReadAs (p + length gap + length s) rest more →
      ReadAs p (gap ++ (s ++ rest)) (next t (p + length gap) more)
  an_excess :
      (p : ℕ) (gap s rest : List ℕ) (f : ReaderFault) →
      Gap gap → Longest s rest → Exceeds s f →
      ReadAs p (gap ++ (s ++ rest)) (breaks f (p + length gap))
  an_open_comment :
      (p : ℕ) (gap inside : List ℕ) →
      Gap gap → All no_close inside →
      ReadAs p (gap ++ (123 ∷ inside)) (breaks OpenComment (p + length gap))
  no_token :
      (p : ℕ) (gap : List ℕ) (b : ℕ) (bs : List ℕ) →
      Gap gap → blank b ≡ false → (b == 123) ≡ false → LooksLikeNothing (b ∷ bs) →
      ReadAs p (gap ++ (b ∷ bs)) (breaks NoToken (p + length gap))
