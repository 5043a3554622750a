-- What the grammar admits, the judge accepts, with the same tree.
use Rattle.std.proofs.Common.{◌≡◌, ℕ, List, [], ◌∷◌, ap, ◌∙◌}
use Rattle.model.specs.declared.tokens.Sign.TheVariants as Signs
use Rattle.model.specs.Tokens.{Lexeme, ends, next, sign, Stream}
use Rattle.model.specs.Reading.{read}
use Rattle.model.specs.Tree.{Block}
use Rattle.model.specs.Blocks.{program_opened}
use Rattle.model.specs.Contexts.{block_start}
use Rattle.model.specs.Judge.{verdict, at_start, accepted}
use Rattle.model.specs.Grammar.{Program, the_program, g}
use Rattle.model.specs.Acceptance.{Admitted}
use Rattle.grammar.proofs.Streams.{◌▷◌, split, listed_is_all}
use Rattle.grammar.proofs.Complete.Declarations.{passes_inside}

accepts_program :
    (room : ℕ) {ts : List Lexeme} {b : Block} → Program room ts b → (z : ℕ) →
    verdict room (ts ▷ ends z) at_start ≡ accepted b
accepts_program room (the_program p q r o n ts v e) z =
    split room (program_opened p ∷ []) ts (g Signs.Period o ∷ []) (ends z) block_start
    ∙ passes_inside room e (next (sign Signs.Period) o (ends z))

pub admitted_is_accepted :
    (room : ℕ) (text : List ℕ) (b : Block) → Admitted room text b → verdict room (read text) at_start ≡ accepted b
admitted_is_accepted room text b h =
    let a : (z : ℕ) × (read text ≡ h.0 ▷ ends z) = listed_is_all (read text) h.0 h.1 in
    ap (λ (r : Stream). verdict room r at_start) a.1 ∙ accepts_program room h.2 a.0
