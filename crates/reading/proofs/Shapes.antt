-- When a piece is the longest that looks like a token, by what it looks like.
use Rattle.std.proofs.Common.{◌≡◌, ℕ, ◌≤◌, Bool, false, not, ◌&&◌, eqb, leb, List, [], ◌∷◌, ◌++◌, length, sym, refl, ap, ◌∙◌, subst, ⊎_elim, arith, length-append, eqb-true, leb-true}
use mathlib.Core.Option.{none}
use borrow.Author.Tests.{both_ways, not-true, clash}
use Rattle.std.proofs.lemmas.Bool.{cases_Bool, and_parts}
use Rattle.model.specs.declared.tokens.Sign.{Sign}
use Rattle.model.specs.Reading.{letter, digit, blank, long_signs, short_signs, name_byte, pick, same, pair}
use Rattle.reading.specs.Spelling.{signs, Entry, WordLike, like_a_word, Looks, like_a_number, like_a_sign, Digits}
use Rattle.reading.specs.Rules.{Longest}
use Rattle.reading.proofs.Lists.{cons_is_not_nil}
use Rattle.reading.proofs.Bytes.{OpensNoGap, a_letter_is_no_digit, a_digit_is_no_letter, a_letter_opens_no_gap}
use Rattle.reading.proofs.Bytes.{a_digit_opens_no_gap}
use Rattle.reading.proofs.Tables.{an_entry_passes, in_the_first, in_the_second, the_listed_are_not_passed_over}
use Rattle.reading.proofs.Tables.{in_one_of_two}
use Rattle.reading.proofs.Fronts.{Stops, all_behind, all_and_one_more}

-- ── signs ───────────────────────────────────────────────────────────────────────────────────

-- the first byte of a sign
pub record BeginsASign (b : ℕ) : Type 0 where
  pub no_letter : letter b ≡ false
  pub no_digit : digit b ≡ false
  pub no_gap : OpensNoGap b

-- as a test
abbrev begins_so : List ℕ → Bool
begins_so [] = false
begins_so (b ∷ bs) = not (letter b) && (not (digit b) && (not (blank b) && not (eqb b 123)))

pub a_sign_begins_so : (b : ℕ) (bs : List ℕ) (g : Sign) → Entry (b ∷ bs) g signs → BeginsASign b
a_sign_begins_so b bs g i =
    let p = and_parts (not (letter b)) _ (an_entry_passes begins_so i refl) in
    let q = and_parts (not (digit b)) _ p.1 in
    let r = and_parts (not (blank b)) (not (eqb b 123)) q.1 in
    record {
      no_letter = not-true (letter b) p.0;
      no_digit = not-true (digit b) q.0;
      no_gap = (not-true (blank b) r.0, not-true (eqb b 123) r.1);
    }

pub a_sign_is_not_empty : (g : Sign) → Entry [] g signs → ⊥
a_sign_is_not_empty g i = clash (an_entry_passes begins_so i refl)

pub a_long_sign_has_two : {s : List ℕ} {g : Sign} → Entry s g long_signs → length s ≡ 2
a_long_sign_has_two {s} i = eqb-true (length s) 2 (an_entry_passes (λ k. eqb (length k) 2) i refl)

pub a_short_sign_has_one : {s : List ℕ} {g : Sign} → Entry s g short_signs → length s ≡ 1
a_short_sign_has_one {s} i = eqb-true (length s) 1 (an_entry_passes (λ k. eqb (length k) 1) i refl)

a_sign_has_two_at_most : {s : List ℕ} {g : Sign} → Entry s g signs → length s ≤ 2
a_sign_has_two_at_most {s} i = leb-true (length s) 2 (an_entry_passes (λ k. leb (length k) 2) i refl)

-- ── words and numbers go on as far as they can ──────────────────────────────────────────────

pub a_word_is_longest :
    (b : ℕ) (s rest : List ℕ) → WordLike (b ∷ s) → Stops name_byte rest → Longest (b ∷ s) rest
a_word_is_longest b s rest w stops = (like_a_word w, no_more)
  where
    no_more : (more after : List ℕ) → rest ≡ more ++ after → Looks (b ∷ s ++ more) → more ≡ []
    no_more [] after e l = refl
    no_more (c ∷ m) after e (like_a_word v) =
        absurd (both_ways (name_byte c) (subst (Stops name_byte) e stops) (all_behind name_byte s (c ∷ m) v.1).0)
    no_more (c ∷ m) after e (like_a_number d) = absurd (both_ways (digit b) (a_letter_is_no_digit b w.0) d.0)
    no_more (c ∷ m) after e (like_a_sign g i) =
        absurd (both_ways (letter b) (a_sign_begins_so b (s ++ c ∷ m) g i).no_letter w.0)

pub a_longest_word_stops :
    (b : ℕ) (s rest : List ℕ) → WordLike (b ∷ s) → Longest (b ∷ s) rest → Stops name_byte rest
a_longest_word_stops b s [] w l = tt
a_longest_word_stops b s (c ∷ rest) w l =
    ⊎_elim
    (λ h. absurd (cons_is_not_nil (l.1 (c ∷ []) rest refl
    (like_a_word (w.0, all_and_one_more name_byte s c w.1 h)))))
    (λ h. h) (cases_Bool (name_byte c))

pub a_number_is_longest : (b : ℕ) (s rest : List ℕ) → Digits (b ∷ s) → Stops digit rest → Longest (b ∷ s) rest
a_number_is_longest b s rest d stops = (like_a_number d, no_more)
  where
    no_more : (more after : List ℕ) → rest ≡ more ++ after → Looks (b ∷ s ++ more) → more ≡ []
    no_more [] after e l = refl
    no_more (c ∷ m) after e (like_a_word v) = absurd (both_ways (letter b) (a_digit_is_no_letter b d.0) v.0)
    no_more (c ∷ m) after e (like_a_number v) =
        absurd (both_ways (digit c) (subst (Stops digit) e stops) (all_behind digit s (c ∷ m) v.1).0)
    no_more (c ∷ m) after e (like_a_sign g i) =
        absurd (both_ways (digit b) (a_sign_begins_so b (s ++ c ∷ m) g i).no_digit d.0)

pub a_longest_number_stops : (b : ℕ) (s rest : List ℕ) → Digits (b ∷ s) → Longest (b ∷ s) rest → Stops digit rest
a_longest_number_stops b s [] d l = tt
a_longest_number_stops b s (c ∷ rest) d l =
    ⊎_elim
    (λ h. absurd (cons_is_not_nil (l.1 (c ∷ []) rest refl
    (like_a_number (d.0, all_and_one_more digit s c d.1 h)))))
    (λ h. h) (cases_Bool (digit c))

-- ── a sign of two bytes goes before one of one ──────────────────────────────────────────────

pub a_long_sign_is_longest :
    (b : ℕ) (s rest : List ℕ) (g : Sign) → Entry (b ∷ s) g long_signs → Longest (b ∷ s) rest
a_long_sign_is_longest b s rest g i = (like_a_sign g listed_so, no_more)
  where
    listed_so : Entry (b ∷ s) g signs
    listed_so = in_the_first long_signs short_signs i

    no_more : (more after : List ℕ) → rest ≡ more ++ after → Looks (b ∷ s ++ more) → more ≡ []
    no_more [] after e l = refl
    no_more (c ∷ m) after e (like_a_word v) =
        absurd (both_ways (letter b) (a_sign_begins_so b s g listed_so).no_letter v.0)
    no_more (c ∷ m) after e (like_a_number v) =
        absurd (both_ways (digit b) (a_sign_begins_so b s g listed_so).no_digit v.0)
    no_more (c ∷ m) after e (like_a_sign h j) =
        let two = a_long_sign_has_two i in
        let most = a_sign_has_two_at_most j in
        let sum = length-append s (c ∷ m) in
        absurd (omega arith)

pub a_short_sign_is_longest :
    (b : ℕ) (rest : List ℕ) (g : Sign) → Entry (b ∷ []) g short_signs → pick same (pair b rest) long_signs ≡ none →
    Longest (b ∷ []) rest
a_short_sign_is_longest b rest g i none_longer = (like_a_sign g listed_so, no_more)
  where
    listed_so : Entry (b ∷ []) g signs
    listed_so = in_the_second long_signs short_signs i

    no_longer : (c : ℕ) (m after : List ℕ) → rest ≡ c ∷ m ++ after → (h : Sign) → Entry (b ∷ c ∷ m) h long_signs → ⊥
    no_longer c [] after e h j =
        the_listed_are_not_passed_over (b ∷ c ∷ []) long_signs j
        (ap (λ r. pick same (pair b r) long_signs) (sym e) ∙ none_longer)
    no_longer c (x ∷ m) after e h j = let two = a_long_sign_has_two j in omega arith

    no_more : (more after : List ℕ) → rest ≡ more ++ after → Looks (b ∷ [] ++ more) → more ≡ []
    no_more [] after e l = refl
    no_more (c ∷ m) after e (like_a_word v) =
        absurd (both_ways (letter b) (a_sign_begins_so b [] g listed_so).no_letter v.0)
    no_more (c ∷ m) after e (like_a_number v) =
        absurd (both_ways (digit b) (a_sign_begins_so b [] g listed_so).no_digit v.0)
    no_more (c ∷ m) after e (like_a_sign h j) =
        ⊎_elim (λ k. absurd (no_longer c m after e h k)) (λ k. let one = a_short_sign_has_one k in absurd (omega arith))
        (in_one_of_two long_signs short_signs j)

-- ── the first byte ──────────────────────────────────────────────────────────────────────────

pub what_looks_like_a_token_is_not_empty : Looks [] → ⊥
what_looks_like_a_token_is_not_empty (like_a_word v) = v
what_looks_like_a_token_is_not_empty (like_a_number v) = v
what_looks_like_a_token_is_not_empty (like_a_sign g i) = a_sign_is_not_empty g i

pub a_token_opens_no_gap : (b : ℕ) (s : List ℕ) → Looks (b ∷ s) → OpensNoGap b
a_token_opens_no_gap b s (like_a_word w) = a_letter_opens_no_gap b w.0
a_token_opens_no_gap b s (like_a_number d) = a_digit_opens_no_gap b d.0
a_token_opens_no_gap b s (like_a_sign g i) = (a_sign_begins_so b s g i).no_gap
