-- What the definition skips is a gap by the rules, and it skips all of it.
use Rattle.std.proofs.Common.{◌≡◌, ℕ, suc, ◌+◌, Bool, true, false, eqb, List, [], ◌∷◌, ◌++◌, length, sym, refl, ap, ◌∙◌, subst, append_assoc, arith, length-append, eqb-true}
use Rattle.std.proofs.lemmas.Bool.{not_from_false}
use Rattle.model.specs.Reading.{Skipped, to, unclosed, comment, blank, skip}
use Rattle.reading.specs.Spelling.{All}
use Rattle.reading.specs.Rules.{Gap, no_close, comment_more, nothing, blank_more}
use Rattle.reading.proofs.Bytes.{PastGap}

-- what the rules say of the bytes where skipping them from place p on gives this
pub data Skips (p : ℕ) (bs : List ℕ) : Skipped → Type 0 where
  reaches :
      (gap cs : List ℕ) (q : ℕ) → bs ≡ gap ++ cs → q ≡ p + length gap → Gap gap → PastGap cs → Skips p bs (to q cs)
  finds_open :
      (gap inside : List ℕ) (q : ℕ) → bs ≡ gap ++ (123 ∷ inside) → q ≡ p + length gap → Gap gap →
      All no_close inside → Skips p bs (unclosed q)

-- the same inside a comment that was opened at place o
data Closes (o p : ℕ) (bs : List ℕ) : Skipped → Type 0 where
  closes :
      (inside rest : List ℕ) (q : ℕ) {sk : Skipped} → bs ≡ inside ++ (125 ∷ rest) → q ≡ suc (p + length inside) →
      All no_close inside → Skips q rest sk → Closes o p bs sk
  never : All no_close bs → Closes o p bs (unclosed o)

-- a front that a gap may begin with
module _ (p q : ℕ) (begin bs : List ℕ) (at_q : q ≡ p + length begin)
    (begins : (gap : List ℕ) → Gap gap → Gap (begin ++ gap)) where
  behind_more : {sk : Skipped} → Skips q bs sk → Skips p (begin ++ bs) sk
  behind_more (reaches gap cs r e i g n) =
      let sum = length-append begin gap in
      reaches (begin ++ gap) cs r (ap (λ z. begin ++ z) e ∙ sym (append_assoc begin gap cs)) (omega arith)
      (begins gap g) n
  behind_more (finds_open gap inside r e i g a) =
      let sum = length-append begin gap in
      finds_open (begin ++ gap) inside r (ap (λ z. begin ++ z) e ∙ sym (append_assoc begin gap (123 ∷ inside)))
      (omega arith) (begins gap g) a

behind_comment : {p : ℕ} {bs : List ℕ} {sk : Skipped} → Closes p (suc p) bs sk → Skips p (123 ∷ bs) sk
behind_comment {p} (closes inside rest q {sk} e i a skips) =
    let whole = ap (λ z. 123 ∷ z) (append_assoc inside (125 ∷ []) rest) in
    let sum = length-append inside (125 ∷ []) in
    let one_gap : (gap : List ℕ) → Gap gap → Gap (123 ∷ inside ++ 125 ∷ [] ++ gap) =
    λ gap g. subst Gap (ap (λ z. 123 ∷ z) (sym (append_assoc inside (125 ∷ []) gap))) (comment_more inside gap a g)
    in
    subst (λ z. Skips p z sk) (whole ∙ ap (λ z. 123 ∷ z) (sym e))
    (behind_more p q (123 ∷ inside ++ 125 ∷ []) rest (omega arith) one_gap skips)
behind_comment {p} {bs} (never a) = finds_open [] bs p refl (omega arith) nothing a

one_byte_more :
    {o p : ℕ} {b : ℕ} {bs : List ℕ} {sk : Skipped} → no_close b ≡ true → Closes o (suc p) bs sk → Closes o p (b ∷ bs) sk
one_byte_more {b = b} h (closes inside rest q e i a skips) =
    closes (b ∷ inside) rest q (ap (λ z. b ∷ z) e) (omega arith) (h, a) skips
one_byte_more h (never a) = never (h, a)

by_brace :
    (p b : ℕ) (bs : List ℕ) {sk : Skipped} → Closes p (suc p) bs sk → blank b ≡ false → (t : Bool) → eqb b 123 ≡ t →
    Skips p (b ∷ bs) (elim t [ true ↦ sk | false ↦ to p (b ∷ bs) ])
by_brace p b bs {sk} in_comment no_blank true h =
    subst (λ z. Skips p (z ∷ bs) sk) (sym (eqb-true b 123 h)) (behind_comment in_comment)
by_brace p b bs in_comment no_blank false h = reaches [] (b ∷ bs) p refl (omega arith) nothing (no_blank, h)

by_blank :
    (p b : ℕ) (bs : List ℕ) {sk ck : Skipped} → Skips (suc p) bs sk → Closes p (suc p) bs ck →
    (t : Bool) → blank b ≡ t →
    Skips p (b ∷ bs) (elim t [ true ↦ sk | false ↦ elim (eqb b 123) [ true ↦ ck | false ↦ to p (b ∷ bs) ] ])
by_blank p b bs past in_comment true h =
    behind_more p (suc p) (b ∷ []) bs (omega arith) (λ gap g. blank_more b gap h g) past
by_blank p b bs past in_comment false h = by_brace p b bs in_comment h (eqb b 123) refl

by_close :
    (o p b : ℕ) (bs : List ℕ) {sk ck : Skipped} → Skips (suc p) bs sk → Closes o (suc p) bs ck →
    (t : Bool) → eqb b 125 ≡ t → Closes o p (b ∷ bs) (elim t [ true ↦ sk | false ↦ ck ])
by_close o p b bs past in_comment true h =
    closes [] bs (suc p) (ap (λ z. z ∷ bs) (eqb-true b 125 h)) (omega arith) tt past
by_close o p b bs past in_comment false h = one_byte_more (not_from_false (eqb b 125) h) in_comment

mutual
  pub what_is_skipped : (p : ℕ) (bs : List ℕ) → Skips p bs (skip p bs)
  what_is_skipped p [] = reaches [] [] p refl (omega arith) nothing tt
  what_is_skipped p (b ∷ bs) =
      by_blank p b bs (what_is_skipped (suc p) bs) (what_the_comment_is p (suc p) bs) (blank b) refl

  what_the_comment_is : (o p : ℕ) (bs : List ℕ) → Closes o p bs (comment o p bs)
  what_the_comment_is o p [] = never tt
  what_the_comment_is o p (b ∷ bs) =
      by_close o p b bs (what_is_skipped (suc p) bs) (what_the_comment_is o (suc p) bs) (eqb b 125) refl
