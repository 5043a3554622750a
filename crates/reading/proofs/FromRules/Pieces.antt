-- The piece that the rules find at the front of some bytes is what the definition finds there.
use Rattle.std.proofs.Common.{◌≡◌, ℕ, ◌<◌, ◌≤◌, Bool, true, false, leb, List, [], ◌∷◌, ◌++◌, length, sym, refl, ap, ◌∙◌, subst, ap₂, ⊎_elim, arith, le-leb, leb-true}
use mathlib.Core.Option.{Option, none, some}
use borrow.Author.Tests.{lt-leb}
use Rattle.model.specs.declared.tokens.Word.{Word}
use Rattle.model.specs.declared.tokens.Sign.{Sign}
use Rattle.model.specs.declared.faults.ReaderFault.{ReaderFault}
use Rattle.model.specs.declared.faults.ReaderFault.TheVariants.{NoToken, LargeNumber, LongName}
use Rattle.model.specs.Tokens.{word, name, number, sign, Token}
use Rattle.model.specs.Reading.{Got, name_of, front, name_byte, number_of, digit, sign_at, token_at, letter, words}
use Rattle.model.specs.Reading.{spelled, pick, same, faulty, got, worth, long_signs, pair, or_else, short_signs}
use Rattle.reading.specs.Spelling.{WordLike, Digits, Entry, Unlisted, value, signs, like_a_sign, Spells, reserved}
use Rattle.reading.specs.Spelling.{named, counted, signed, Exceeds, long_name, large_number, like_a_word, like_a_number}
use Rattle.reading.specs.Rules.{Longest, LooksLikeNothing}
use Rattle.reading.proofs.Lists.{cons_is_not_nil}
use Rattle.reading.proofs.Bytes.{a_digit_is_no_letter}
use Rattle.reading.proofs.Tables.{an_entry_passes, the_listed_is_picked, the_picked_is_listed, in_the_first}
use Rattle.reading.proofs.Tables.{in_one_of_two, in_the_second}
use Rattle.reading.proofs.Fronts.{front_of_all}
use Rattle.reading.proofs.Values.{worth_is_value}
use Rattle.reading.proofs.Shapes.{a_longest_word_stops, a_longest_number_stops, a_long_sign_has_two}
use Rattle.reading.proofs.Shapes.{a_short_sign_has_one, a_sign_begins_so}
use Rattle.reading.proofs.Words.{a_listed_word_is_word_like}

-- ── which way the first byte leads ──────────────────────────────────────────────────────────

module _ (b : ℕ) where
  -- the definition's choice
  abbrev led : Bool → Bool → List ℕ → Got
  led l d bs =
      elim l [
        | true ↦ name_of (b ∷ front name_byte bs)
        | false ↦ elim d [ true ↦ number_of (b ∷ front digit bs) | false ↦ sign_at b bs ]
      ]

  to_word :
      (s rest : List ℕ) → WordLike (b ∷ s) → Longest (b ∷ s) rest → token_at b (s ++ rest) ≡ name_of (b ∷ s)
  to_word s rest w l =
      ap (λ t. led t (digit b) (s ++ rest)) w.0
      ∙ ap (λ z. name_of (b ∷ z)) (front_of_all name_byte s rest w.1 (a_longest_word_stops b s rest w l))

  to_number :
      (s rest : List ℕ) → Digits (b ∷ s) → Longest (b ∷ s) rest → token_at b (s ++ rest) ≡ number_of (b ∷ s)
  to_number s rest d l =
      ap₂ (λ t u. led t u (s ++ rest)) (a_digit_is_no_letter b d.0) d.0
      ∙ ap (λ z. number_of (b ∷ z)) (front_of_all digit s rest d.1 (a_longest_number_stops b s rest d l))

  to_sign : (bs : List ℕ) → letter b ≡ false → digit b ≡ false → token_at b bs ≡ sign_at b bs
  to_sign bs l d = ap₂ (λ t u. led t u bs) l d

-- ── words ───────────────────────────────────────────────────────────────────────────────────

module _ (s : List ℕ) where
  abbrev by_length : Bool → Got
  by_length t = elim t [ true ↦ spelled s (pick same s words) | false ↦ faulty LongName ]

  a_short_word_is_spelled : length s ≤ 30 → name_of s ≡ spelled s (pick same s words)
  a_short_word_is_spelled h = ap by_length (le-leb (length s) 30 h)

  a_long_word_is_a_fault : 30 < length s → name_of s ≡ faulty LongName
  a_long_word_is_a_fault h = ap by_length (lt-leb (length s) 30 h)

  a_listed_word_is_read : (w : Word) → Entry s w words → name_of s ≡ got (word w) (length s)
  a_listed_word_is_read w i =
      a_short_word_is_spelled (leb-true (length s) 30 (an_entry_passes (λ k. leb (length k) 30) i refl))
      ∙ ap (spelled s) (the_listed_is_picked s words refl i)

  an_unlisted_word_is_read : length s ≤ 30 → Unlisted s words → name_of s ≡ got (name s) (length s)
  an_unlisted_word_is_read h u = a_short_word_is_spelled h ∙ ap (spelled s) (not_picked (pick same s words) refl)
    where
      not_picked : (o : Option Word) → pick same s words ≡ o → o ≡ none
      not_picked none e = refl
      not_picked (some w) e = absurd (u w (the_picked_is_listed s w words e))

-- ── numbers ─────────────────────────────────────────────────────────────────────────────────

module _ (s : List ℕ) where
  abbrev by_worth : Bool → Got
  by_worth t = elim t [ true ↦ got (number (worth 0 s)) (length s) | false ↦ faulty LargeNumber ]

  a_number_that_fits_is_read : value s ≤ 2147483647 → number_of s ≡ got (number (value s)) (length s)
  a_number_that_fits_is_read h =
      ap by_worth (le-leb (worth 0 s) 2147483647 (subst (λ v. v ≤ 2147483647) (sym (worth_is_value s)) h))
      ∙ ap (λ v. got (number v) (length s)) (worth_is_value s)

  a_larger_number_is_a_fault : 2147483647 < value s → number_of s ≡ faulty LargeNumber
  a_larger_number_is_a_fault h =
      ap by_worth (lt-leb (worth 0 s) 2147483647 (subst (λ v. 2147483647 < v) (sym (worth_is_value s)) h))

-- ── signs ───────────────────────────────────────────────────────────────────────────────────

-- no sign of two bytes fits where none looks like a token
no_long_sign :
    (b : ℕ) (bs : List ℕ) →
    ((c : ℕ) (rest : List ℕ) → bs ≡ c ∷ rest → (g : Sign) → Entry (b ∷ c ∷ []) g long_signs → ⊥) →
    pick same (pair b bs) long_signs ≡ none
no_long_sign b bs none_fits = not_picked bs refl (pick same (pair b bs) long_signs) refl
  where
    not_picked :
        (r : List ℕ) → bs ≡ r → (o : Option Sign) → pick same (pair b bs) long_signs ≡ o → o ≡ none
    not_picked r q none e = refl
    not_picked [] q (some g) e =
        let i = the_picked_is_listed (b ∷ []) g long_signs (ap (λ r. pick same (pair b r) long_signs) (sym q) ∙ e) in
        let two = a_long_sign_has_two i in
        absurd (omega arith)
    not_picked (c ∷ r) q (some g) e =
        absurd (none_fits c r q g
        (the_picked_is_listed (b ∷ c ∷ []) g long_signs (ap (λ r. pick same (pair b r) long_signs) (sym q) ∙ e)))

module _ (b : ℕ) where
  abbrev by_signs : Option Sign → Option Sign → Got
  by_signs o u = or_else o 2 (or_else u 1 (faulty NoToken))

  a_long_sign_is_read :
      (s rest : List ℕ) (g : Sign) → Entry (b ∷ s) g long_signs → sign_at b (s ++ rest) ≡ got (sign g) (length (b ∷ s))
  a_long_sign_is_read [] rest g i = let two = a_long_sign_has_two i in absurd (omega arith)
  a_long_sign_is_read (c ∷ []) rest g i =
      ap (λ o. by_signs o (pick same (b ∷ []) short_signs)) (the_listed_is_picked (b ∷ c ∷ []) long_signs refl i)
  a_long_sign_is_read (c ∷ d ∷ s) rest g i = let two = a_long_sign_has_two i in absurd (omega arith)

  a_short_sign_is_read :
      (s rest : List ℕ) (g : Sign) → Longest (b ∷ s) rest → Entry (b ∷ s) g short_signs →
      sign_at b (s ++ rest) ≡ got (sign g) (length (b ∷ s))
  a_short_sign_is_read (c ∷ s) rest g l i = let one = a_short_sign_has_one i in absurd (omega arith)
  a_short_sign_is_read [] rest g l i =
      ap₂ by_signs (no_long_sign b rest none_fits) (the_listed_is_picked (b ∷ []) short_signs refl i)
    where
      none_fits : (c : ℕ) (r : List ℕ) → rest ≡ c ∷ r → (h : Sign) → Entry (b ∷ c ∷ []) h long_signs → ⊥
      none_fits c r q h j =
          cons_is_not_nil (l.1 (c ∷ []) r q (like_a_sign h (in_the_first long_signs short_signs j)))

  a_sign_is_read :
      (s rest : List ℕ) (g : Sign) → Longest (b ∷ s) rest → Entry (b ∷ s) g signs →
      token_at b (s ++ rest) ≡ got (sign g) (length (b ∷ s))
  a_sign_is_read s rest g l i =
      let start = a_sign_begins_so b s g i in
      to_sign b (s ++ rest) start.no_letter start.no_digit
      ∙ ⊎_elim (λ j. a_long_sign_is_read s rest g j) (λ j. a_short_sign_is_read s rest g l j)
      (in_one_of_two long_signs short_signs i)

-- ── every piece ─────────────────────────────────────────────────────────────────────────────

pub what_is_spelled_is_read :
    (b : ℕ) (s rest : List ℕ) (t : Token) → Longest (b ∷ s) rest → Spells (b ∷ s) t →
    token_at b (s ++ rest) ≡ got t (length (b ∷ s))
what_is_spelled_is_read b s rest t l (reserved w i) =
    to_word b s rest (a_listed_word_is_word_like (b ∷ s) w i) l ∙ a_listed_word_is_read (b ∷ s) w i
what_is_spelled_is_read b s rest t l (named w u h) = to_word b s rest w l ∙ an_unlisted_word_is_read (b ∷ s) h u
what_is_spelled_is_read b s rest t l (counted d h) = to_number b s rest d l ∙ a_number_that_fits_is_read (b ∷ s) h
what_is_spelled_is_read b s rest t l (signed g i) = a_sign_is_read b s rest g l i

pub what_exceeds_is_a_fault :
    (b : ℕ) (s rest : List ℕ) (f : ReaderFault) → Longest (b ∷ s) rest → Exceeds (b ∷ s) f →
    token_at b (s ++ rest) ≡ faulty f
what_exceeds_is_a_fault b s rest f l (long_name w h) = to_word b s rest w l ∙ a_long_word_is_a_fault (b ∷ s) h
what_exceeds_is_a_fault b s rest f l (large_number d h) = to_number b s rest d l ∙ a_larger_number_is_a_fault (b ∷ s) h

pub nothing_is_no_token : (b : ℕ) (bs : List ℕ) → LooksLikeNothing (b ∷ bs) → token_at b bs ≡ faulty NoToken
nothing_is_no_token b bs n =
    to_sign b bs (not_so (letter b) (λ h. n (b ∷ []) bs refl (like_a_word (h, tt))))
    (not_so (digit b) (λ h. n (b ∷ []) bs refl (like_a_number (h, tt))))
    ∙ ap₂ (by_signs b) (no_long_sign b bs none_fits) (no_short (pick same (b ∷ []) short_signs) refl)
  where
    not_so : (t : Bool) → (t ≡ true → ⊥) → t ≡ false
    not_so true h = absurd (h refl)
    not_so false h = refl

    none_fits : (c : ℕ) (r : List ℕ) → bs ≡ c ∷ r → (g : Sign) → Entry (b ∷ c ∷ []) g long_signs → ⊥
    none_fits c r q g i = n (b ∷ c ∷ []) r (ap (λ z. b ∷ z) q) (like_a_sign g (in_the_first long_signs short_signs i))

    no_short : (o : Option Sign) → pick same (b ∷ []) short_signs ≡ o → o ≡ none
    no_short none e = refl
    no_short (some g) e =
        let i = the_picked_is_listed (b ∷ []) g short_signs e in
        absurd (n (b ∷ []) bs refl (like_a_sign g (in_the_second long_signs short_signs i)))
