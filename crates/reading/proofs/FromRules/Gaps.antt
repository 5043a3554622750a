-- What is a gap by the rules, the definition skips.
use Rattle.std.proofs.Common.{◌≡◌, ℕ, suc, ◌+◌, true, false, eqb, List, [], ◌∷◌, ◌++◌, length, refl, ap, ◌∙◌, ap₂, append_assoc, arith, length-append}
use borrow.Author.Tests.{not-true}
use Rattle.model.specs.Reading.{comment, skip, to, unclosed}
use Rattle.reading.specs.Spelling.{All}
use Rattle.reading.specs.Rules.{no_close, Gap, nothing, blank_more, comment_more}
use Rattle.reading.proofs.Bytes.{PastGap}

comment_is_passed :
    (o p : ℕ) (inside bs : List ℕ) → All no_close inside →
    comment o p (inside ++ 125 ∷ bs) ≡ skip (suc (p + length inside)) bs
comment_is_passed o p [] bs a = ap (λ q. skip q bs) (omega arith)
comment_is_passed o p (b ∷ inside) bs a =
    ap (λ t. elim t [ true ↦ skip (suc p) (inside ++ 125 ∷ bs) | false ↦ comment o (suc p) (inside ++ 125 ∷ bs) ])
    (not-true (eqb b 125) a.0)
    ∙ comment_is_passed o (suc p) inside bs a.1
    ∙ ap (λ q. skip q bs) (omega arith)

pub gap_is_skipped :
    (p : ℕ) {gap : List ℕ} (cs : List ℕ) → Gap gap → skip p (gap ++ cs) ≡ skip (p + length gap) cs
gap_is_skipped p cs nothing = ap (λ q. skip q cs) (omega arith)
gap_is_skipped p cs (blank_more b bs h g) =
    ap (λ t. elim t [
      | true ↦ skip (suc p) (bs ++ cs)
      | false ↦ elim (eqb b 123) [ true ↦ comment p (suc p) (bs ++ cs) | false ↦ to p (b ∷ bs ++ cs) ]
    ]) h
    ∙ gap_is_skipped (suc p) cs g
    ∙ ap (λ q. skip q cs) (omega arith)
gap_is_skipped p cs (comment_more inside bs a g) =
    let sum = length-append inside (125 ∷ bs) in
    ap (comment p (suc p)) (append_assoc inside (125 ∷ bs) cs)
    ∙ comment_is_passed p (suc p) inside (bs ++ cs) a
    ∙ gap_is_skipped (suc (suc p + length inside)) cs g
    ∙ ap (λ q. skip q cs) (omega arith)

pub nothing_else_is_skipped : (p : ℕ) (cs : List ℕ) → PastGap cs → skip p cs ≡ to p cs
nothing_else_is_skipped p [] n = refl
nothing_else_is_skipped p (b ∷ bs) n =
    ap₂ (λ t u. elim t [
      | true ↦ skip (suc p) bs
      | false ↦ elim u [ true ↦ comment p (suc p) bs | false ↦ to p (b ∷ bs) ]
    ]) n.0 n.1

never_closed : (o p : ℕ) (inside : List ℕ) → All no_close inside → comment o p inside ≡ unclosed o
never_closed o p [] a = refl
never_closed o p (b ∷ inside) a =
    ap (λ t. elim t [ true ↦ skip (suc p) inside | false ↦ comment o (suc p) inside ]) (not-true (eqb b 125) a.0)
    ∙ never_closed o (suc p) inside a.1

pub an_open_comment_is_found : (p : ℕ) (inside : List ℕ) → All no_close inside → skip p (123 ∷ inside) ≡ unclosed p
an_open_comment_is_found p inside a = never_closed p (suc p) inside a
