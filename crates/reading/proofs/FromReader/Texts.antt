-- Every text is read as the rules say.
use Rattle.std.proofs.Common.{ℕ, zero, suc, ◌+◌, ◌<◌, List, [], ◌∷◌, ◌++◌, length, sym, subst, subst₂, append-nil, arith, length-append}
use lib.Seq.{drop-append_seam}
use Rattle.model.specs.declared.faults.ReaderFault.TheVariants.{OpenComment}
use Rattle.model.specs.Tokens.{Token, next, breaks, ends}
use Rattle.model.specs.Reading.{read, reading, carry_on, got, Got, read_on, to, Skipped}
use Rattle.reading.specs.Spelling.{Looks, Spells}
use Rattle.reading.specs.Rules.{ReadAs, Gap, Longest, a_token, an_excess, no_token, the_end, an_open_comment}
use Rattle.reading.proofs.Bytes.{OpensNoGap, PastGap}
use Rattle.reading.proofs.Shapes.{what_looks_like_a_token_is_not_empty}
use Rattle.reading.proofs.FromReader.Pieces.{Piece, is_spelled, is_exceeding, is_nothing, piece_at}
use Rattle.reading.proofs.FromReader.Gaps.{Skips, reaches, finds_open, what_is_skipped}

-- what is read from any place on, of fewer than k bytes, is read by the rules
abbrev ByRules : ℕ → Type 0
ByRules k = (q : ℕ) (bs : List ℕ) → length bs < k → ReadAs q bs (reading k q bs)

not_empty : (s : List ℕ) → Looks s → 0 < length s
not_empty [] l = absurd (what_looks_like_a_token_is_not_empty l)
not_empty (b ∷ s) l = omega arith

module _ (k p : ℕ) (gap : List ℕ) (g : Gap gap) (further : ByRules k) where
  spelled_by_rules :
      (s rest : List ℕ) (t : Token) → Longest s rest → Spells s t → length (gap ++ (s ++ rest)) < suc k →
      ReadAs p (gap ++ (s ++ rest)) (carry_on (reading k) (p + length gap) (s ++ rest) (got t (length s)))
  spelled_by_rules s rest t l sp h =
      let whole = length-append gap (s ++ rest) in
      let end = length-append s rest in
      let some_byte = not_empty s l.0 in
      let q : ℕ = p + length gap in
      subst (λ z. ReadAs p (gap ++ (s ++ rest)) (next t q (reading k (q + length s) z)))
      (sym (drop-append_seam s rest))
      (a_token p gap s rest t (reading k (q + length s) rest) g l sp (further (q + length s) rest (omega arith)))

  piece_by_rules :
      (b : ℕ) (cs : List ℕ) {r : Got} → Piece (b ∷ cs) r → OpensNoGap b → length (gap ++ (b ∷ cs)) < suc k →
      ReadAs p (gap ++ (b ∷ cs)) (carry_on (reading k) (p + length gap) (b ∷ cs) r)
  piece_by_rules b cs (is_spelled s rest t e l sp) n h =
      subst (λ z. ReadAs p (gap ++ z) (carry_on (reading k) (p + length gap) z (got t (length s)))) (sym e)
      (spelled_by_rules s rest t l sp (subst (λ z. length (gap ++ z) < suc k) e h))
  piece_by_rules b cs (is_exceeding s rest f e l x) n h =
      subst (λ z. ReadAs p (gap ++ z) (breaks f (p + length gap))) (sym e) (an_excess p gap s rest f g l x)
  piece_by_rules b cs (is_nothing x) n h = no_token p gap b cs g n.0 n.1 x

  past_gap_by_rules :
      (cs : List ℕ) → PastGap cs → length (gap ++ cs) < suc k →
      ReadAs p (gap ++ cs) (read_on (reading k) (to (p + length gap) cs))
  past_gap_by_rules [] n h = subst (λ z. ReadAs p z (ends (p + length gap))) (sym (append-nil gap)) (the_end p gap g)
  past_gap_by_rules (b ∷ cs) n h = piece_by_rules b cs (piece_at b cs) n h

skipped_by_rules :
    (k p : ℕ) (bs : List ℕ) {sk : Skipped} → Skips p bs sk → ByRules k → length bs < suc k →
    ReadAs p bs (read_on (reading k) sk)
skipped_by_rules k p bs (reaches gap cs q e i g n) further h =
    subst₂ (λ z r. ReadAs p z (read_on (reading k) (to r cs))) (sym e) (sym i)
    (past_gap_by_rules k p gap g further cs n (subst (λ z. length z < suc k) e h))
skipped_by_rules k p bs (finds_open gap inside q e i g a) further h =
    subst₂ (λ z r. ReadAs p z (breaks OpenComment r)) (sym e) (sym i) (an_open_comment p gap inside g a)

read_by_rules : (k : ℕ) → ByRules k
read_by_rules zero p bs h = absurd (omega arith)
read_by_rules (suc k) p bs h = skipped_by_rules k p bs (what_is_skipped p bs) (λ q cs i. read_by_rules k q cs i) h

pub every_text_is_read_by_the_rules : (text : List ℕ) → ReadAs 0 text (read text)
every_text_is_read_by_the_rules text = read_by_rules (suc (length text)) 0 text (omega arith)
