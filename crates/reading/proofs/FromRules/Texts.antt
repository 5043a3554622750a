-- What the rules say of a text, its reading gives.
use Rattle.std.proofs.Common.{◌≡◌, ℕ, zero, suc, ◌+◌, ◌<◌, List, [], ◌∷◌, ◌++◌, length, sym, ap, ◌∙◌, append-nil, arith, length-append}
use lib.Seq.{drop-append_seam}
use Rattle.model.specs.Tokens.{Stream, next}
use Rattle.model.specs.Reading.{reading, carry_on, token_at, read_on, skip, read}
use Rattle.reading.specs.Rules.{Gap, ReadAs, the_end, a_token, an_excess, an_open_comment, no_token}
use Rattle.reading.proofs.Bytes.{OpensNoGap}
use Rattle.reading.proofs.Shapes.{what_looks_like_a_token_is_not_empty, a_token_opens_no_gap}
use Rattle.reading.proofs.FromRules.Pieces.{what_is_spelled_is_read, what_exceeds_is_a_fault, nothing_is_no_token}
use Rattle.reading.proofs.FromRules.Gaps.{gap_is_skipped, nothing_else_is_skipped, an_open_comment_is_found}

-- behind the gap, the first byte of what looks like a token leads on
past_the_gap :
    (k p : ℕ) {gap : List ℕ} (b : ℕ) (cs : List ℕ) → Gap gap → OpensNoGap b →
    reading (suc k) p (gap ++ (b ∷ cs)) ≡ carry_on (reading k) (p + length gap) (b ∷ cs) (token_at b cs)
past_the_gap k p b cs g n =
    ap (read_on (reading k)) (gap_is_skipped p (b ∷ cs) g ∙ nothing_else_is_skipped _ (b ∷ cs) n)

rules_are_read : {p : ℕ} {bs : List ℕ} {s : Stream} → ReadAs p bs s → (k : ℕ) → length bs < k → reading k p bs ≡ s
rules_are_read (the_end p gap g) zero h = absurd (omega arith)
rules_are_read (the_end p gap g) (suc k) h =
    ap (read_on (reading k))
    (ap (skip p) (sym (append-nil gap)) ∙ gap_is_skipped p [] g ∙ nothing_else_is_skipped (p + length gap) [] tt)
rules_are_read (a_token p gap s rest t more g l sp r) zero h = absurd (omega arith)
rules_are_read (a_token p gap [] rest t more g l sp r) (suc k) h =
    absurd (what_looks_like_a_token_is_not_empty l.0)
rules_are_read (a_token p gap (b ∷ s) rest t more g l sp r) (suc k) h =
    let q : ℕ = p + length gap in
    let whole = length-append gap (b ∷ s ++ rest) in
    let end = length-append s rest in
    past_the_gap k p b (s ++ rest) g (a_token_opens_no_gap b s l.0)
    ∙ ap (carry_on (reading k) q (b ∷ s ++ rest)) (what_is_spelled_is_read b s rest t l sp)
    ∙ ap (λ z. next t q (reading k (q + length (b ∷ s)) z)) (drop-append_seam (b ∷ s) rest)
    ∙ ap (next t q) (rules_are_read r k (omega arith))
rules_are_read (an_excess p gap s rest f g l x) zero h = absurd (omega arith)
rules_are_read (an_excess p gap [] rest f g l x) (suc k) h = absurd (what_looks_like_a_token_is_not_empty l.0)
rules_are_read (an_excess p gap (b ∷ s) rest f g l x) (suc k) h =
    past_the_gap k p b (s ++ rest) g (a_token_opens_no_gap b s l.0)
    ∙ ap (carry_on (reading k) (p + length gap) (b ∷ s ++ rest)) (what_exceeds_is_a_fault b s rest f l x)
rules_are_read (an_open_comment p gap inside g a) zero h = absurd (omega arith)
rules_are_read (an_open_comment p gap inside g a) (suc k) h =
    ap (read_on (reading k)) (gap_is_skipped p (123 ∷ inside) g ∙ an_open_comment_is_found (p + length gap) inside a)
rules_are_read (no_token p gap b bs g n m x) zero h = absurd (omega arith)
rules_are_read (no_token p gap b bs g n m x) (suc k) h =
    past_the_gap k p b bs g (n, m)
    ∙ ap (carry_on (reading k) (p + length gap) (b ∷ bs)) (nothing_is_no_token b bs x)

pub what_the_rules_say_is_read : (text : List ℕ) (s : Stream) → ReadAs 0 text s → read text ≡ s
what_the_rules_say_is_read text s r = rules_are_read r (suc (length text)) (omega arith)
