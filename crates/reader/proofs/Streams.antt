-- The bound on the number of tokens is never met, and one call of the reader unfolds the stream by one token.
use Rattle.std.proofs.Common.{◌≡◌, ℕ, zero, suc, ◌+◌, ◌<◌, ◌≤◌, true, false, eqb, leb, List, [], ◌∷◌, length, drop, sym, refl, ap, ◌∙◌, arith, length-drop, drop-drop}
use mathlib.Core.Option.{Option, none, some}
use Rattle.model.specs.declared.tokens.Sign.{Sign}
use Rattle.model.specs.declared.tokens.Word.{Word}
use Rattle.model.specs.declared.faults.ReaderFault.TheVariants.{NoToken, LargeNumber, LongName}
use Rattle.model.specs.Tokens.{Token, Stream, next}
use Rattle.model.specs.Reading.{blank, letter, digit, name_byte, front, same, pick, words, long_signs, short_signs, worth, Skipped, to, unclosed, skip, comment, spelled, or_else, pair, token_at, name_of, number_of, sign_at, Got, got, faulty, reading, read_on, carry_on}
use Rattle.reader.specs.Pieces.{token_from}
use Rattle.reader.specs.Streams.{stream_from}

abbrev Shorter : ℕ → Skipped → Type 0
Shorter n (to q cs) = length cs ≤ n
Shorter n (unclosed o) = Unit {0}

longer : (m n : ℕ) (s : Skipped) → m ≤ n → Shorter m s → Shorter n s
longer m n (to q cs) h t = omega arith
longer m n (unclosed o) h t = tt

shrinks : (bs : List ℕ) → ((p : ℕ) → Shorter (length bs) (skip p bs)) × ((o p : ℕ) → Shorter (length bs) (comment o p bs))
shrinks [] = (λ p. omega arith, λ o p. tt)
shrinks (b ∷ bs) =
    let ih = shrinks bs in
    let up : (s : Skipped) → Shorter (length bs) s → Shorter (suc (length bs)) s = λ s. longer (length bs) (suc (length bs)) s (omega arith) in (
      λ p. elim (blank b) as (λ t. Shorter (suc (length bs)) (elim t [ true ↦ skip (suc p) bs | false ↦ elim (eqb b 123) [ true ↦ comment p (suc p) bs | false ↦ to p (b ∷ bs) ] ])) [
        | true ↦ up _ (ih.0 (suc p))
        | false ↦ elim (eqb b 123) as (λ t. Shorter (suc (length bs)) (elim t [ true ↦ comment p (suc p) bs | false ↦ to p (b ∷ bs) ])) [ true ↦ up _ (ih.1 p (suc p)) | false ↦ omega arith ]
      ],
      λ o p. elim (eqb b 125) as (λ t. Shorter (suc (length bs)) (elim t [ true ↦ skip (suc p) bs | false ↦ comment o (suc p) bs ])) [ true ↦ up _ (ih.0 (suc p)) | false ↦ up _ (ih.1 o (suc p)) ],
    )

abbrev Grows : Got → Type 0
Grows (got t n) = 0 < n
Grows (faulty f) = Unit {0}

spelled_grows : (s : List ℕ) (o : Option Word) → 0 < length s → Grows (spelled s o)
spelled_grows s none h = h
spelled_grows s (some w) h = h

name_grows : (s : List ℕ) → 0 < length s → Grows (name_of s)
name_grows s h =
    elim (leb (length s) 30) as (λ u. Grows (elim u [ true ↦ spelled s (pick same s words) | false ↦ faulty LongName ])) [
      | true ↦ spelled_grows s (pick same s words) h
      | false ↦ tt
    ]

number_grows : (s : List ℕ) → 0 < length s → Grows (number_of s)
number_grows s h =
    elim (leb (worth 0 s) 2147483647) as (λ u. Grows (elim u [ true ↦ got (Token.number (worth 0 s)) (length s) | false ↦ faulty LargeNumber ])) [
      | true ↦ h
      | false ↦ tt
    ]

or_else_grows : (o : Option Sign) (n : ℕ) (g : Got) → 0 < n → Grows g → Grows (or_else o n g)
or_else_grows none n g h k = k
or_else_grows (some s) n g h k = h

sign_grows : (b : ℕ) (bs : List ℕ) → Grows (sign_at b bs)
sign_grows b bs =
    or_else_grows (pick same (pair b bs) long_signs) 2 _ (omega arith) (or_else_grows (pick same (b ∷ []) short_signs) 1 (faulty NoToken) (omega arith) tt)

-- every token has a byte at least
token_grows : (b : ℕ) (bs : List ℕ) → Grows (token_at b bs)
token_grows b bs =
    let s = b ∷ front name_byte bs in
    let d = b ∷ front digit bs in
    elim (letter b) as (λ u. Grows (elim u [ true ↦ name_of s | false ↦ elim (digit b) [ true ↦ number_of d | false ↦ sign_at b bs ] ])) [
      | true ↦ name_grows s (omega arith)
      | false ↦ elim (digit b) as (λ u. Grows (elim u [ true ↦ number_of d | false ↦ sign_at b bs ])) [
        | true ↦ number_grows d (omega arith)
        | false ↦ sign_grows b bs
      ]
    ]

module _ (k j : ℕ) (ih : (p : ℕ) (bs : List ℕ) → length bs < k → length bs < j → reading k p bs ≡ reading j p bs) where
  carry : (p : ℕ) (b : ℕ) (bs : List ℕ) (g : Got) → Grows g → length bs < k → length bs < j → carry_on (reading k) p (b ∷ bs) g ≡ carry_on (reading j) p (b ∷ bs) g
  carry p b bs (got t n) h x y =
      let l = length-drop n (b ∷ bs) in
      ap (next t p) (ih (p + n) (drop n (b ∷ bs)) (omega arith) (omega arith))
  carry p b bs (faulty f) h x y = refl

  on : (s : Skipped) → Shorter k s → Shorter j s → read_on (reading k) s ≡ read_on (reading j) s
  on (unclosed o) x y = refl
  on (to p []) x y = refl
  on (to p (b ∷ bs)) x y = carry p b bs (token_at b bs) (token_grows b bs) (omega arith) (omega arith)

enough : (k j p : ℕ) (bs : List ℕ) → length bs < k → length bs < j → reading k p bs ≡ reading j p bs
enough zero j p bs x y = absurd (omega arith)
enough (suc k) zero p bs x y = absurd (omega arith)
enough (suc k) (suc j) p bs x y =
    on k j (λ p bs. enough k j p bs) (skip p bs) (longer (length bs) k _ (omega arith) ((shrinks bs).0 p)) (longer (length bs) j _ (omega arith) ((shrinks bs).0 p))

-- the first step

on_token : (go : ℕ → List ℕ → Stream) (q : ℕ) (cs : List ℕ) (t : Token) (n : ℕ) → 0 < length cs → got t n ≡ token_from cs → read_on go (to q cs) ≡ next t q (go (q + n) (drop n cs))
on_token go q [] t n h e = absurd (omega arith)
on_token go q (b ∷ bs) t n h e = ap (carry_on go q (b ∷ bs)) (sym e)

pub first_token : (text : List ℕ) (p q n : ℕ) (t : Token) → q < length text → skip p (drop p text) ≡ to q (drop q text) → got t n ≡ token_from (drop q text) → 0 < n → stream_from text p ≡ next t q (stream_from text (q + n))
first_token text p q n t h s e more =
    let l = length-drop q text in
    let m = length-drop (q + n) text in
    ap (read_on (reading (length text))) s ∙ on_token (reading (length text)) q (drop q text) t n (omega arith) e
    ∙ ap (λ l. next t q (reading (length text) (q + n) l)) (drop-drop n q text)
    ∙ ap (next t q) (enough (length text) (suc (length text)) (q + n) (drop (q + n) text) (omega arith) (omega arith))
