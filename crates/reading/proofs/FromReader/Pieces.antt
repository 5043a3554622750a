-- The token that the definition finds at the front of some bytes is one that the rules find there.
use Rattle.std.proofs.Common.{◌≡◌, ℕ, ◌<◌, ◌≤◌, Bool, true, false, leb, List, [], ◌∷◌, ◌++◌, length, sym, refl, ap, ◌∙◌, subst, ap₂, ⊎_elim, arith, leb-false, leb-true}
use mathlib.Core.Option.{Option, none, some}
use borrow.Author.Tests.{both_ways}
use Rattle.model.specs.declared.tokens.Word.{Word}
use Rattle.model.specs.declared.tokens.Sign.{Sign}
use Rattle.model.specs.declared.faults.ReaderFault.{ReaderFault}
use Rattle.model.specs.declared.faults.ReaderFault.TheVariants.{NoToken, LargeNumber, LongName}
use Rattle.model.specs.Tokens.{Token, word, name, number, sign}
use Rattle.model.specs.Reading.{Got, got, faulty, name_byte, name_of, pick, same, words, spelled, digit, number_of}
use Rattle.model.specs.Reading.{worth, letter, front, pair, long_signs, short_signs, or_else, token_at, sign_at}
use Rattle.reading.specs.Spelling.{Spells, Exceeds, WordLike, long_name, Digits, value, counted, large_number}
use Rattle.reading.specs.Spelling.{like_a_word, like_a_number, like_a_sign, Entry, signed}
use Rattle.reading.specs.Rules.{Longest, LooksLikeNothing}
use Rattle.reading.proofs.Lists.{first_same, rest_same}
use Rattle.reading.proofs.Tables.{in_one_of_two, the_listed_are_not_passed_over, the_picked_is_listed, in_the_second}
use Rattle.reading.proofs.Tables.{in_the_first}
use Rattle.reading.proofs.Fronts.{Stops, cut_at_front, behind}
use Rattle.reading.proofs.Values.{worth_is_value}
use Rattle.reading.proofs.Shapes.{a_word_is_longest, a_number_is_longest, what_looks_like_a_token_is_not_empty}
use Rattle.reading.proofs.Shapes.{a_long_sign_has_two, a_short_sign_has_one, a_short_sign_is_longest}
use Rattle.reading.proofs.Shapes.{a_long_sign_is_longest}
use Rattle.reading.proofs.Words.{a_word_spells}

-- what the rules say of the bytes where the definition gives this
pub data Piece (bs : List ℕ) : Got → Type 0 where
  is_spelled :
      (s rest : List ℕ) (t : Token) → bs ≡ s ++ rest → Longest s rest → Spells s t → Piece bs (got t (length s))
  is_exceeding :
      (s rest : List ℕ) (f : ReaderFault) → bs ≡ s ++ rest → Longest s rest → Exceeds s f → Piece bs (faulty f)
  is_nothing : LooksLikeNothing bs → Piece bs (faulty NoToken)

module _ (b : ℕ) (s rest : List ℕ) where
  abbrev run : List ℕ
  run = b ∷ s

  word_piece : WordLike run → Stops name_byte rest → Piece (run ++ rest) (name_of run)
  word_piece w stops = by_length (leb (length run) 30) refl
    where
      listed_or_not :
          length run ≤ 30 → (o : Option Word) → pick same run words ≡ o → Piece (run ++ rest) (spelled run o)
      listed_or_not h (some v) e =
          is_spelled run rest (word v) refl (a_word_is_longest b s rest w stops) (a_word_spells run w h (some v) e)
      listed_or_not h none e =
          is_spelled run rest (name run) refl (a_word_is_longest b s rest w stops) (a_word_spells run w h none e)

      by_length :
          (t : Bool) → leb (length run) 30 ≡ t →
          Piece (run ++ rest) (elim t [ true ↦ spelled run (pick same run words) | false ↦ faulty LongName ])
      by_length true h = listed_or_not (leb-true (length run) 30 h) (pick same run words) refl
      by_length false h =
          is_exceeding run rest LongName refl (a_word_is_longest b s rest w stops)
          (long_name w (leb-false (length run) 30 h))

  number_piece : Digits run → Stops digit rest → Piece (run ++ rest) (number_of run)
  number_piece d stops = by_worth (leb (worth 0 run) 2147483647) refl
    where
      by_worth :
          (t : Bool) → leb (worth 0 run) 2147483647 ≡ t →
          Piece (run ++ rest) (elim t [ true ↦ got (number (worth 0 run)) (length run) | false ↦ faulty LargeNumber ])
      by_worth true h =
          let fits : value run ≤ 2147483647 =
          subst (λ v. v ≤ 2147483647) (worth_is_value run) (leb-true (worth 0 run) 2147483647 h) in
          is_spelled run rest (number (worth 0 run)) refl (a_number_is_longest b s rest d stops)
          (subst (λ v. Spells run (number v)) (sym (worth_is_value run)) (counted d fits))
      by_worth false h =
          is_exceeding run rest LargeNumber refl (a_number_is_longest b s rest d stops)
          (large_number d (subst (λ v. 2147483647 < v) (worth_is_value run) (leb-false (worth 0 run) 2147483647 h)))

module _ (b : ℕ) (bs : List ℕ) (no_letter : letter b ≡ false) (no_digit : digit b ≡ false) where
  -- neither of the tables has a front of the bytes
  nothing_listed :
      pick same (pair b bs) long_signs ≡ none → pick same (b ∷ []) short_signs ≡ none → LooksLikeNothing (b ∷ bs)
  nothing_listed no_long no_short [] rest e l = what_looks_like_a_token_is_not_empty l
  nothing_listed no_long no_short (c ∷ s) rest e (like_a_word w) =
      both_ways (letter b) no_letter (subst (λ x. letter x ≡ true) (sym (first_same e)) w.0)
  nothing_listed no_long no_short (c ∷ s) rest e (like_a_number d) =
      both_ways (digit b) no_digit (subst (λ x. digit x ≡ true) (sym (first_same e)) d.0)
  nothing_listed no_long no_short (c ∷ s) rest e (like_a_sign g i) =
      ⊎_elim (λ j. not_long s e j) (λ j. not_short s e j) (in_one_of_two long_signs short_signs i)
    where
      not_long : (s : List ℕ) → b ∷ bs ≡ c ∷ s ++ rest → Entry (c ∷ s) g long_signs → ⊥
      not_long [] q j = let two = a_long_sign_has_two j in omega arith
      not_long (x ∷ []) q j =
          the_listed_are_not_passed_over (c ∷ x ∷ []) long_signs j
          (ap₂ (λ y ys. pick same (pair y ys) long_signs) (sym (first_same q)) (sym (rest_same q)) ∙ no_long)
      not_long (x ∷ y ∷ s) q j = let two = a_long_sign_has_two j in omega arith

      not_short : (s : List ℕ) → b ∷ bs ≡ c ∷ s ++ rest → Entry (c ∷ s) g short_signs → ⊥
      not_short [] q j =
          the_listed_are_not_passed_over (c ∷ []) short_signs j
          (ap (λ y. pick same (y ∷ []) short_signs) (sym (first_same q)) ∙ no_short)
      not_short (x ∷ s) q j = let one = a_short_sign_has_one j in omega arith

  short_sign_piece :
      pick same (pair b bs) long_signs ≡ none → (o : Option Sign) → pick same (b ∷ []) short_signs ≡ o →
      Piece (b ∷ bs) (or_else o 1 (faulty NoToken))
  short_sign_piece no_long (some g) e =
      let i = the_picked_is_listed (b ∷ []) g short_signs e in
      is_spelled (b ∷ []) bs (sign g) refl (a_short_sign_is_longest b bs g i no_long)
      (signed g (in_the_second long_signs short_signs i))
  short_sign_piece no_long none e = is_nothing (nothing_listed no_long e)

-- a sign of two bytes wants two
long_sign_piece :
    (b : ℕ) (bs : List ℕ) (g : Sign) → pick same (pair b bs) long_signs ≡ some g → Piece (b ∷ bs) (got (sign g) 2)
long_sign_piece b [] g e =
    let two = a_long_sign_has_two (the_picked_is_listed (b ∷ []) g long_signs e) in absurd (omega arith)
long_sign_piece b (c ∷ bs) g e =
    let i = the_picked_is_listed (b ∷ c ∷ []) g long_signs e in
    is_spelled (b ∷ c ∷ []) bs (sign g) refl (a_long_sign_is_longest b (c ∷ []) bs g i)
    (signed g (in_the_first long_signs short_signs i))

pub piece_at : (b : ℕ) (bs : List ℕ) → Piece (b ∷ bs) (token_at b bs)
piece_at b bs = by_letter (letter b) refl
  where
    by_long_sign :
        letter b ≡ false → digit b ≡ false → (o : Option Sign) → pick same (pair b bs) long_signs ≡ o →
        Piece (b ∷ bs) (or_else o 2 (or_else (pick same (b ∷ []) short_signs) 1 (faulty NoToken)))
    by_long_sign l d (some g) e = long_sign_piece b bs g e
    by_long_sign l d none e = short_sign_piece b bs l d e (pick same (b ∷ []) short_signs) refl

    by_digit :
        letter b ≡ false → (t : Bool) → digit b ≡ t →
        Piece (b ∷ bs) (elim t [ true ↦ number_of (b ∷ front digit bs) | false ↦ sign_at b bs ])
    by_digit l true d =
        let c = cut_at_front digit bs in
        subst (λ z. Piece (b ∷ z) (number_of (b ∷ front digit bs))) (sym c.0)
        (number_piece b (front digit bs) (behind digit bs) (d, c.1) c.2)
    by_digit l false d = by_long_sign l d (pick same (pair b bs) long_signs) refl

    by_letter :
        (t : Bool) → letter b ≡ t →
        Piece (b ∷ bs) (elim t [
          | true ↦ name_of (b ∷ front name_byte bs)
          | false ↦ elim (digit b) [ true ↦ number_of (b ∷ front digit bs) | false ↦ sign_at b bs ]
        ])
    by_letter true l =
        let c = cut_at_front name_byte bs in
        subst (λ z. Piece (b ∷ z) (name_of (b ∷ front name_byte bs))) (sym c.0)
        (word_piece b (front name_byte bs) (behind name_byte bs) (l, c.1) c.2)
    by_letter false l = by_digit l (digit b) refl
