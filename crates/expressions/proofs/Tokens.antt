-- The token ahead: its place, and which tokens are none of the operators.
use Rattle.std.proofs.Common.{◌≡◌, ℕ, suc, ◌<◌, ◌≤◌, true, false, eqb, List, [], ◌∷◌, length, Some, None, Option as Maybe, sym, refl, ap, ◌∙◌, ⊎_elim, true≢false, arith, eqb-true}
use mathlib.Core.Option.{Option, none, some}
use Rattle.std.proofs.lemmas.Bool.{cases_Bool}
use Rattle.model.specs.declared.tokens.Sign.{Sign}
use Rattle.model.specs.declared.tokens.Word.{Word}
use Rattle.model.specs.declared.script.Operator.{Operator}
use Rattle.model.specs.declared.script.Operator.TheVariants as Operators
use Rattle.model.specs.Reading.{pick}
use Rattle.model.specs.Tokens.{Token}
use Rattle.model.specs.Ahead.{Next, next_number, is_sign, is_word}
use Rattle.model.specs.Ahead.{adding, comparing}
use Rattle.reader.specs.declared.tokens.Lexeme.{Lexeme}
use Rattle.reader.specs.Streams.{left_of}
use Rattle.cursor.specs.declared.Cursor.{Cursor}
use Rattle.cursor.specs.Rests.{text_of, ahead_of, next_of, place_of, place_from, left, left_from, Fine, FineFrom}

-- ── places ──────────────────────────────────────────────────────────────────────────────────

low : (text : List ℕ) (m : Maybe Lexeme) → FineFrom text m → length text ≤ 65535 → place_from (length text) m ≤ 65535
low text (Some l) f h = omega (arith, f.1)
low text None f h = h

pub place_low : (c : Cursor) → Fine c → length (text_of c) ≤ 65535 → place_of c ≤ 65535
place_low c f h = low (text_of c) c.ahead f h

-- ── where there is a token ──────────────────────────────────────────────────────────────────

one_less : (n : ℕ) (m : Maybe Lexeme) (t : Token) → next_of m ≡ some t → left_from n m ≡ suc n
one_less n (Some l) t e = refl
one_less n None t e = cc

-- a token that is taken leaves less
pub falls : (c d : Cursor) (t : Token) → ahead_of c ≡ some t → left d ≤ left_of c.reader → left d < left c
falls c d t e h = omega (arith, one_less (left_of c.reader) c.ahead t e)

pub record There (n : Next) : Type 0 where
  pub token : Token
  pub is : n ≡ some token

there : (n : Next) → (n ≡ none → ⊥) → There n
there none h = absurd (h refl)
there (some t) h = record { token = t; is = refl }

pub operator_there : (ops : Next → Option Operator) → ops none ≡ none → (n : Next) (o : Operator) → some o ≡ ops n → There n
operator_there ops z n o e = there n (λ i. let q : some o ≡ none = e ∙ ap ops i ∙ z in let w : ◌≡◌ {A = ℕ} 0 1 = cc in omega arith)

pub sign_there : (g : Sign) → is_sign g none ≡ false → (n : Next) → is_sign g n ≡ true → There n
sign_there g z n e = there n (λ i. true≢false (sym e ∙ ap (is_sign g) i ∙ z))

pub word_there : (w : Word) → is_word w none ≡ false → (n : Next) → is_word w n ≡ true → There n
word_there w z n e = there n (λ i. true≢false (sym e ∙ ap (is_word w) i ∙ z))

-- ── comparisons are no other operators ──────────────────────────────────────────────────────

-- a key that is found in one list of numbers is not in another that has none of its numbers
module _ (n : ℕ) (bs : List (ℕ × Operator)) (o : Operator) (h : pick eqb n bs ≡ some o) where
  abbrev Absent : List (ℕ × Operator) → Type 0
  Absent [] = Unit {0}
  Absent (a ∷ rest) = (pick eqb a.0 bs ≡ none) × Absent rest

  missing : (keys : List (ℕ × Operator)) → Absent keys → pick eqb n keys ≡ none
  missing [] x = refl
  missing (a ∷ rest) x =
      ⊎_elim
      (λ y.
      let e : n ≡ a.0 = eqb-true n a.0 y in
      let q : some o ≡ none = sym h ∙ ap (λ m. pick eqb m bs) e ∙ x.0 in
      let w : ◌≡◌ {A = ℕ} 0 1 = cc in
      absurd (omega arith))
      (λ y. let f : eqb n a.0 ≡ false = y in rw (f, pick) (missing rest x.1))
      (cases_Bool (eqb n a.0))

pub comparing_adds_nothing : (t : Next) (o : Operator) → comparing t ≡ some o → adding t ≡ none
comparing_adds_nothing t o h =
    missing (next_number t) (
    (43, Operators.Equal) ∷ (44, Operators.Unequal) ∷ (45, Operators.Less) ∷ (46, Operators.AtMost) ∷ (47, Operators.Greater) ∷ (48, Operators.AtLeast) ∷ []
    ) o h ((40, Operators.Add) ∷ (41, Operators.Sub) ∷ (28, Operators.Or) ∷ []) (refl, (refl, (refl, tt)))
