-- The parts of a text, from how the rules read it.
use Rattle.std.proofs.Common.{◌≡◌, ℕ, ◌+◌, List, [], ◌∷◌, ◌++◌, length, take, sym, refl, ap, ◌∙◌, ap₂, append_assoc, append-nil, arith, length-append}
use mathlib.Core.Option.{Option, none, some, some-injective, none-ne-some}
use lib.Seq.{take-append_seam}
use Rattle.model.specs.declared.faults.ReaderFault.{ReaderFault}
use Rattle.model.specs.declared.faults.ReaderFault.TheVariants.{NoToken, OpenComment}
use Rattle.model.specs.Tokens.{Stream, Lexeme, breaks}
use Rattle.model.specs.Reading.{read}
use Rattle.model.specs.Grammar.{at}
use Rattle.model.specs.Acceptance.{listed, and_then}
use Rattle.model.specs.Promise.{Each}
use Rattle.reading.specs.Rules.{Gap, ReadAs, the_end, a_token, an_excess, an_open_comment, no_token}
use Rattle.reading.specs.Laws.{bytes, Part, stop, tokens_from, tokens, Right, between, spelled, NothingLost}
use Rattle.reading.proofs.FromReader.Texts.{every_text_is_read_by_the_rules}

-- the parts of some bytes that are read from place p on, and what is left of them behind a fault
record Divided (p : ℕ) (bs : List ℕ) (s : Stream) : Type 0 where
  parts : List Part
  left : List ℕ
  whole : bs ≡ bytes parts ++ left
  stopped : stop s ≡ p + length (bytes parts)
  told : tokens_from p parts ≡ tokens s
  right : Each Right parts
  -- where the reading ends, nothing is left
  complete : (ts : List Lexeme) → listed s ≡ some ts → (left ≡ []) × (ts ≡ tokens s)

-- a fault behind a gap
up_to_fault : (p : ℕ) (gap rest : List ℕ) (f : ReaderFault) → Gap gap →
    Divided p (gap ++ rest) (breaks f (p + length gap))
up_to_fault p gap rest f g =
    record {
      parts = between gap ∷ [];
      left = rest;
      whole = ap (λ z. z ++ rest) (sym (append-nil gap));
      stopped = ap (λ z. p + length z) (sym (append-nil gap));
      told = refl;
      right = (g, tt);
      complete = λ ts e. absurd (none-ne-some ts e);
    }

one_token_more :
    (l : Lexeme) (o : Option (List Lexeme)) {left : List ℕ} {us : List Lexeme} →
    ((ts : List Lexeme) → o ≡ some ts → (left ≡ []) × (ts ≡ us)) →
    (ts : List Lexeme) → and_then l o ≡ some ts → (left ≡ []) × (ts ≡ l ∷ us)
one_token_more l none h ts e = absurd (none-ne-some ts e)
one_token_more l (some rs) h ts e =
    let a = h rs refl in (a.0, sym (some-injective _ _ e) ∙ ap (λ z. l ∷ z) a.1)

divided : {p : ℕ} {bs : List ℕ} {s : Stream} → ReadAs p bs s → Divided p bs s
divided (the_end p gap g) =
    record {
      parts = between gap ∷ [];
      left = [];
      whole = sym (append-nil (gap ++ []) ∙ append-nil gap);
      stopped = ap (λ z. p + length z) (sym (append-nil gap));
      told = refl;
      right = (g, tt);
      complete = λ ts e. (refl, sym (some-injective _ _ e));
    }
divided (a_token p gap s rest t more g l sp r) =
    let d = divided r in
    let sum = length-append gap (s ++ bytes d.parts) in
    let end = length-append s (bytes d.parts) in
    let stopped_there = d.stopped in
    record {
      parts = between gap ∷ spelled s t ∷ d.parts;
      left = d.left;
      whole =
          ap (λ z. gap ++ (s ++ z)) d.whole ∙ ap (λ z. gap ++ z) (sym (append_assoc s (bytes d.parts) d.left))
          ∙ sym (append_assoc gap (s ++ bytes d.parts) d.left);
      stopped = omega arith;
      told = ap (λ z. at t (p + length gap) ∷ z) d.told;
      right = (g, (sp, d.right));
      complete = λ ts e. one_token_more (at t (p + length gap)) (listed more) (λ us f. d.complete us f) ts e;
    }
divided (an_excess p gap s rest f g l x) = up_to_fault p gap (s ++ rest) f g
divided (an_open_comment p gap inside g a) = up_to_fault p gap (123 ∷ inside) OpenComment g
divided (no_token p gap b bs g n m x) = up_to_fault p gap (b ∷ bs) NoToken g

pub nothing_lost : NothingLost
nothing_lost = (
  λ text.
      let d = divided (every_text_is_read_by_the_rules text) in
      let there : stop (read text) ≡ length (bytes d.parts) = omega (arith, d.stopped) in (
        d.parts,
        sym (ap₂ take there d.whole ∙ take-append_seam (bytes d.parts) d.left),
        d.told,
        d.right,
      ),
  λ text ts e.
      let d = divided (every_text_is_read_by_the_rules text) in
      let all = d.complete ts e in (
        d.parts,
        sym (d.whole ∙ ap (λ z. bytes d.parts ++ z) all.0 ∙ append-nil (bytes d.parts)),
        d.told ∙ sym all.1,
        d.right,
      ),
)
