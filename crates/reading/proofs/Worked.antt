-- The worked examples, computed.
use Rattle.std.proofs.Common.{◌≡◌, ℕ, Bool, true, false, eqb, List, [], ◌∷◌, map, length, codes, sym, refl, ap, ◌∙◌, subst, append-nil, arith, eq-eqb}
use borrow.Author.Tests.{both_ways}
use Rattle.model.specs.declared.tokens.Word.TheVariants as Words
use Rattle.model.specs.declared.tokens.Sign.TheVariants as Signs
use Rattle.model.specs.Tokens.{Stream, Token}
use Rattle.model.specs.Reading.{read, Got, got, faulty, token_at, words, name_byte, digit}
use Rattle.model.specs.Promise.{Each}
use Rattle.reading.specs.Spelling.{Spells, reserved, named, counted, signed, signs}
use Rattle.reading.specs.Rules.{ReadAs}
use Rattle.reading.specs.Examples.{readings, spellings, no_spellings}
use Rattle.reading.proofs.Lists.{first_same, rest_same}
use Rattle.reading.proofs.Tables.{the_picked_is_listed, the_listed_are_not_passed_over}
use Rattle.reading.proofs.Fronts.{tested_all}
use Rattle.reading.proofs.Shapes.{what_looks_like_a_token_is_not_empty}
use Rattle.reading.proofs.FromReader.Texts.{every_text_is_read_by_the_rules}
use Rattle.reading.proofs.FromRules.Pieces.{what_is_spelled_is_read}
use Rattle.reading.proofs.Spellings.{spelled_looks, longest_at_the_end}

-- ── tables ──────────────────────────────────────────────────────────────────────────────────

module _ {X A : Type 0} (f g : X → A) {Q : X → Type 0} (told : (x : X) → f x ≡ g x → Q x) where
  -- two columns of a table that are computed to be the same tell something of each row
  each_row : (xs : List X) → map f xs ≡ map g xs → Each Q xs
  each_row [] e = tt
  each_row (x ∷ xs) e = (told x (first_same e), each_row xs (rest_same e))

-- ── texts ───────────────────────────────────────────────────────────────────────────────────

read_so : (text : List ℕ) (s : Stream) → read text ≡ s → ReadAs 0 text s
read_so text s e = subst (λ z. ReadAs 0 text z) e (every_text_is_read_by_the_rules text)

pub readings_stand : Each (λ e. ReadAs 0 e.0 e.1) readings
readings_stand = each_row (λ e. read e.0) (λ e. e.1) (λ e. read_so e.0 e.1) readings refl

-- ── spellings ───────────────────────────────────────────────────────────────────────────────

-- the definition finds a token that is all of the bytes
abbrev all_one_token : ℕ → Got → Bool
all_one_token n (got t k) = eqb k n
all_one_token n (faulty f) = false

abbrev is_one_token : List ℕ → Bool
is_one_token [] = false
is_one_token (b ∷ bs) = all_one_token (length (b ∷ bs)) (token_at b bs)

what_spells_is_one_token : (s : List ℕ) (t : Token) → Spells s t → is_one_token s ≡ true
what_spells_is_one_token [] t x = absurd (what_looks_like_a_token_is_not_empty (spelled_looks x))
what_spells_is_one_token (b ∷ s) t x =
    ap (all_one_token (length (b ∷ s))) (
    ap (token_at b) (sym (append-nil s))
    ∙ what_is_spelled_is_read b s [] t (longest_at_the_end (b ∷ s) (spelled_looks x)) x
    )
    ∙ eq-eqb (length (b ∷ s)) (length (b ∷ s)) refl

spells_none : (s : List ℕ) → is_one_token s ≡ false → (t : Token) → Spells s t → ⊥
spells_none s h t x = both_ways (is_one_token s) h (what_spells_is_one_token s t x)

pub spellings_stand : Each (λ e. Spells e.0 e.1) spellings
spellings_stand = (
  reserved Words.Senao (the_picked_is_listed (codes "senao") Words.Senao words refl),
  (
    named (refl, tested_all name_byte (codes "enao1") refl)
        (λ w i. the_listed_are_not_passed_over (codes "senao1") words i refl) (omega arith),
    (
      counted (refl, tested_all digit (codes "42") refl) (omega arith),
      (
        signed Signs.Becomes (the_picked_is_listed (codes ":=") Signs.Becomes signs refl),
        (signed Signs.Colon (the_picked_is_listed (codes ":") Signs.Colon signs refl), tt),
      ),
    ),
  ),
)

pub no_spellings_stand : Each (λ s. (t : Token) → Spells s t → ⊥) no_spellings
no_spellings_stand = each_row is_one_token (λ s. false) spells_none no_spellings refl
