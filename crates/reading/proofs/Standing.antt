-- Where each token of a text stands, from how the rules read it.
use Rattle.std.proofs.Common.{◌≡◌, ℕ, List, [], ◌++◌, length, sym, refl, ◌∙◌, append_assoc, arith, length-append}
use Rattle.model.specs.Tokens.{Token, Stream}
use Rattle.model.specs.Grammar.{at}
use Rattle.model.specs.Promise.{Each}
use Rattle.reading.specs.Spelling.{Spells}
use Rattle.reading.specs.Rules.{Longest, ReadAs, the_end, a_token, an_excess, an_open_comment, no_token}
use Rattle.reading.specs.Laws.{Stands, tokens, EveryTokenIsLongest}
use Rattle.reading.proofs.FromReader.Texts.{every_text_is_read_by_the_rules}

-- a token behind these bytes
stands_behind :
    (text before s rest : List ℕ) {t : Token} {p : ℕ} → text ≡ before ++ (s ++ rest) → length before ≡ p →
    Longest s rest → Spells s t → Stands text (at t p)
stands_behind text before s rest e n l sp =
    record { before = before; spelling = s; rest = rest; parts = e; placed = n; spells = sp; longest = l }

each_stands :
    (text done bs : List ℕ) {p : ℕ} {s : Stream} → text ≡ done ++ bs → length done ≡ p → ReadAs p bs s →
    Each (Stands text) (tokens s)
each_stands text done bs e n (the_end p gap g) = tt
each_stands text done bs e n (a_token p gap s rest t more g l sp r) =
    let sum = length-append done gap in
    let end = length-append (done ++ gap) s in
    let behind_gap = e ∙ sym (append_assoc done gap (s ++ rest)) in
    let behind_token = behind_gap ∙ sym (append_assoc (done ++ gap) s rest) in (
      stands_behind text (done ++ gap) s rest behind_gap (omega arith) l sp,
      each_stands text ((done ++ gap) ++ s) rest behind_token (omega arith) r,
    )
each_stands text done bs e n (an_excess p gap s rest f g l x) = tt
each_stands text done bs e n (an_open_comment p gap inside g a) = tt
each_stands text done bs e n (no_token p gap b cs g h m x) = tt

pub every_token_is_longest : EveryTokenIsLongest
every_token_is_longest text = each_stands text [] text refl refl (every_text_is_read_by_the_rules text)
