-- What bytes spell: one token at most, and a reserved word exactly when they are listed.
use Rattle.std.proofs.Common.{◌≡◌, ℕ, List, [], ◌∷◌, ◌++◌, sym, refl, ◌∙◌, subst, arith}
use borrow.Author.Tests.{both_ways}
use Rattle.model.specs.declared.tokens.Word.{Word}
use Rattle.model.specs.declared.tokens.Sign.{Sign}
use Rattle.model.specs.Tokens.{Token, word, name, number, sign}
use Rattle.model.specs.Reading.{got, words, digit, letter, pick, same}
use Rattle.reading.specs.Spelling.{Spells, Looks, reserved, like_a_word, named, counted, like_a_number, signed}
use Rattle.reading.specs.Spelling.{like_a_sign, Entry, WordLike, Unlisted}
use Rattle.reading.specs.Rules.{Longest}
use Rattle.reading.specs.Laws.{OneToken, ReservedExactlyWhenListed}
use Rattle.reading.proofs.Lists.{cons_is_not_nil}
use Rattle.reading.proofs.Bytes.{a_letter_is_no_digit}
use Rattle.reading.proofs.Shapes.{what_looks_like_a_token_is_not_empty, a_sign_begins_so}
use Rattle.reading.proofs.Words.{a_listed_word_is_word_like, word_or_name, a_word_spells}
use Rattle.reading.proofs.FromRules.Pieces.{what_is_spelled_is_read}

-- what spells a token looks like one
pub spelled_looks : {s : List ℕ} {t : Token} → Spells s t → Looks s
spelled_looks {s} (reserved w i) = like_a_word (a_listed_word_is_word_like s w i)
spelled_looks (named w u h) = like_a_word w
spelled_looks (counted d h) = like_a_number d
spelled_looks (signed g i) = like_a_sign g i

-- nothing longer stands at the end of a text
pub longest_at_the_end : (s : List ℕ) → Looks s → Longest s []
longest_at_the_end s l = (l, no_more)
  where
    no_more : (more after : List ℕ) → [] ≡ more ++ after → Looks (s ++ more) → more ≡ []
    no_more [] after e m = refl
    no_more (b ∷ more) after e m = absurd (cons_is_not_nil (sym e))

got_one : {t u : Token} {n : ℕ} → got t n ≡ got u n → t ≡ u
got_one e = cc

pub one_token : OneToken
one_token [] t u x y = absurd (what_looks_like_a_token_is_not_empty (spelled_looks x))
one_token (b ∷ s) t u x y =
    let l : Longest (b ∷ s) [] = longest_at_the_end (b ∷ s) (spelled_looks x) in
    got_one (sym (what_is_spelled_is_read b s [] t l x) ∙ what_is_spelled_is_read b s [] u l y)

-- ── reserved words ──────────────────────────────────────────────────────────────────────────

word_one : {w v : Word} → word w ≡ word v → w ≡ v
word_one e = cc

a_name_is_no_word : {s : List ℕ} {w : Word} → name s ≡ word w → ⊥
a_name_is_no_word e = let z : ◌≡◌ {A = ℕ} 0 1 = cc in omega arith

a_number_is_no_word : {n : ℕ} {w : Word} → number n ≡ word w → ⊥
a_number_is_no_word e = let z : ◌≡◌ {A = ℕ} 0 1 = cc in omega arith

a_sign_is_no_word : {g : Sign} {w : Word} → sign g ≡ word w → ⊥
a_sign_is_no_word e = let z : ◌≡◌ {A = ℕ} 0 1 = cc in omega arith

a_word_is_listed : {s : List ℕ} {t : Token} → Spells s t → (v : Word) → t ≡ word v → Entry s v words
a_word_is_listed {s} (reserved w i) v e = subst (λ z. Entry s z words) (word_one e) i
a_word_is_listed (named w u h) v e = absurd (a_name_is_no_word e)
a_word_is_listed (counted d h) v e = absurd (a_number_is_no_word e)
a_word_is_listed (signed g i) v e = absurd (a_sign_is_no_word e)

an_unlisted_word_is_a_name : (s : List ℕ) {t : Token} → WordLike s → Spells s t → Unlisted s words → t ≡ name s
an_unlisted_word_is_a_name s w (reserved v i) u = absurd (u v i)
an_unlisted_word_is_a_name s w (named v i h) u = refl
an_unlisted_word_is_a_name [] w (counted d h) u = absurd d
an_unlisted_word_is_a_name (b ∷ s) w (counted d h) u =
    absurd (both_ways (digit b) (a_letter_is_no_digit b w.0) d.0)
an_unlisted_word_is_a_name [] w (signed g i) u = absurd w
an_unlisted_word_is_a_name (b ∷ s) w (signed g i) u =
    absurd (both_ways (letter b) (a_sign_begins_so b s g i).no_letter w.0)

pub reserved_exactly_when_listed : ReservedExactlyWhenListed
reserved_exactly_when_listed s w h =
    let t : Token = word_or_name s (pick same s words) in
    let sp : Spells s t = a_word_spells s w h (pick same s words) refl in (
      t,
      sp,
      λ v. (a_word_is_listed sp v, λ i. one_token s t (word v) sp (reserved v i)),
      (
        λ e v i. a_name_is_no_word (sym e ∙ one_token s t (word v) sp (reserved v i)),
        λ u. an_unlisted_word_is_a_name s w sp u,
      ),
    )
