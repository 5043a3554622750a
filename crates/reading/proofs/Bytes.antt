-- Which classes of bytes exclude each other.
use Rattle.std.proofs.Common.{◌≡◌, ℕ, ◌<◌, ◌≤◌, true, false, eqb, leb, List, [], ◌∷◌, ⊎_elim, arith, ne_eqb, leb-true}
use borrow.Author.Tests.{lt-leb}
use Rattle.std.proofs.lemmas.Bool.{and_parts, and_left, and_right, or_cases, or_from}
use Rattle.model.specs.Reading.{within, blank, letter, digit}

module _ (low high b : ℕ) where
  bounds : within low high b ≡ true → (low ≤ b) × (b ≤ high)
  bounds h = let p = and_parts (leb low b) (leb b high) h in (leb-true low b p.0, leb-true b high p.1)

  below : b < low → within low high b ≡ false
  below h = and_left (leb low b) (leb b high) (lt-leb low b h)

  above : high < b → within low high b ≡ false
  above h = and_right (leb low b) (leb b high) (lt-leb b high h)

-- the byte opens no gap
abbrev pub OpensNoGap : ℕ → Type 0
OpensNoGap b = (blank b ≡ false) × (eqb b 123 ≡ false)

-- the bytes begin with no gap
abbrev pub PastGap : List ℕ → Type 0
PastGap [] = Unit {0}
PastGap (b ∷ bs) = OpensNoGap b

above_blanks : (b : ℕ) → 32 < b → blank b ≡ false
above_blanks b h =
    or_from _ (eqb b 32) (or_from _ (eqb b 13) (or_from (eqb b 9) (eqb b 10) (ne_eqb b 9 (λ e. omega arith))
    (ne_eqb b 10 (λ e. omega arith))) (ne_eqb b 13 (λ e. omega arith))) (ne_eqb b 32 (λ e. omega arith))

letter_bounds : (b : ℕ) → letter b ≡ true → (58 ≤ b) × (b < 123)
letter_bounds b h =
    ⊎_elim
    (λ e. let p = bounds 65 90 b e in (omega arith, omega arith))
    (λ e. let p = bounds 97 122 b e in (omega arith, omega arith))
    (or_cases (within 65 90 b) (within 97 122 b) h)

pub a_letter_opens_no_gap : (b : ℕ) → letter b ≡ true → OpensNoGap b
a_letter_opens_no_gap b h =
    let p = letter_bounds b h in (above_blanks b (omega arith), ne_eqb b 123 (λ e. omega arith))

pub a_digit_opens_no_gap : (b : ℕ) → digit b ≡ true → OpensNoGap b
a_digit_opens_no_gap b h =
    let p = bounds 48 57 b h in (above_blanks b (omega arith), ne_eqb b 123 (λ e. omega arith))

pub a_letter_is_no_digit : (b : ℕ) → letter b ≡ true → digit b ≡ false
a_letter_is_no_digit b h = let p = letter_bounds b h in above 48 57 b (omega arith)

pub a_digit_is_no_letter : (b : ℕ) → digit b ≡ true → letter b ≡ false
a_digit_is_no_letter b h =
    let p = bounds 48 57 b h in
    or_from (within 65 90 b) (within 97 122 b) (below 65 90 b (omega arith)) (below 97 122 b (omega arith))
