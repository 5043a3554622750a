-- What the judge accepts, the grammar admits, with the same tree.
use Rattle.std.proofs.Common.{◌≡◌, ℕ, List, [], ◌∷◌, refl, ap, subst, arith}
use mathlib.Core.Option.{none, some}
use Rattle.model.specs.declared.faults.Cause.{Cause}
use Rattle.model.specs.Tokens.{ends, Stream, Lexeme, next, breaks, Token}
use Rattle.model.specs.Reading.{read}
use Rattle.model.specs.Tree.{Block}
use Rattle.model.specs.Names.{Scope}
use Rattle.model.specs.Contexts.{Focus, want_programa}
use Rattle.model.specs.Settling.{Settled, at as stays, wrong, settle}
use Rattle.model.specs.Judged.{Judged}
use Rattle.model.specs.Judge.{refused, accepted, afterwards, go_on, verdict, ended, at_start}
use Rattle.model.specs.Grammar.{Program, at}
use Rattle.model.specs.Acceptance.{listed, and_then, Admitted}
use Rattle.grammar.proofs.Streams.{accepted_is_one, outcome}
use Rattle.grammar.proofs.Sound.SoFar.{SoFar, all_read, Goes, goes_to, is_complete, is_refused, at_programa}
use Rattle.grammar.proofs.Sound.Tokens.{judge_keeps}

refused_is_not_accepted : {c : Cause} {p : ℕ} {b : Block} → refused c p ≡ accepted b → ⊥
refused_is_not_accepted e = let z : ◌≡◌ {A = ℕ} 0 1 = cc in omega arith

module _ (room : ℕ) where
  -- the stream ends, and the tokens Y with those of the stream are the program b
  abbrev Makes : Stream → (List Lexeme → List Lexeme) → Block → Type 0
  Makes s Y b = (ts : List Lexeme) × (listed s ≡ some ts) × Program room (Y ts) b

  nothing_more :
      (s : Stream) (Y : List Lexeme → List Lexeme) (a b : Block) →
      Program room (Y []) a → afterwards a s ≡ accepted b → Makes s Y b
  nothing_more (next t p s) Y a b h e = absurd (refused_is_not_accepted e)
  nothing_more (ends p) Y a b h e = ([], refl, subst (λ (c : Block). Program room (Y []) c) (accepted_is_one e) h)
  nothing_more (breaks f p) Y a b h e = absurd (refused_is_not_accepted e)

  with_token :
      (t : Token) (p : ℕ) (s : Stream) (Y Z : List Lexeme → List Lexeme) (b : Block) →
      ((l : List Lexeme) → Z l ≡ Y (at t p ∷ l)) → Makes s Z b → Makes (next t p s) Y b
  with_token t p s Y Z b h m =
      (at t p ∷ m.0, ap (and_then (at t p)) m.1, subst (λ (z : List Lexeme). Program room z b) (h m.0) m.2)

  -- every way to accept the stream from a state on makes a program of what was read and the stream
  abbrev AcceptedMakes : Stream → Type 0
  AcceptedMakes s =
      (cs : List Scope) (f : Focus) (r : SoFar room cs f) (b : Block) → outcome room cs s f ≡ accepted b →
      Makes s (all_read r) b

  past_token :
      (t : Token) (p : ℕ) (s : Stream) → AcceptedMakes s →
      (Y : List Lexeme → List Lexeme) (b : Block) {j : Judged} → Goes room (λ l. Y (at t p ∷ l)) j →
      go_on (verdict room s) p s j ≡ accepted b → Makes (next t p s) Y b
  past_token t p s later Y b (goes_to r h) e = with_token t p s Y (all_read r) b h (later _ _ r b e)
  past_token t p s later Y b (is_complete {b = a} h) e =
      with_token t p s Y (λ l. Y (at t p ∷ l)) b (λ l. refl) (nothing_more s (λ l. Y (at t p ∷ l)) a b h e)
  past_token t p s later Y b is_refused e = absurd (refused_is_not_accepted e)

  the_end_is_refused : (p : ℕ) (sd : Settled) (b : Block) → ended p sd ≡ accepted b → ⊥
  the_end_is_refused p (stays f) b e = refused_is_not_accepted e
  the_end_is_refused p (wrong f) b e = refused_is_not_accepted e

  accepted_makes : (s : Stream) → AcceptedMakes s
  accepted_makes (next t p s) cs f r b e =
      past_token t p s (λ ds h q a z. accepted_makes s ds h q a z) (all_read r) b (judge_keeps r t p) e
  accepted_makes (ends p) cs f r b e = absurd (the_end_is_refused p (settle none f) b e)
  accepted_makes (breaks n p) cs f r b e = absurd (refused_is_not_accepted e)

pub accepted_is_admitted :
    (room : ℕ) (text : List ℕ) (b : Block) → verdict room (read text) at_start ≡ accepted b → Admitted room text b
accepted_is_admitted room text b e = accepted_makes room (read text) [] want_programa at_programa b e
