-- The judge accepts exactly what the grammar admits: the statement. Assumes nothing.
use Rattle.std.specs.Prelude.{◌≡◌, ◌↔◌, List, [], ◌∷◌, ℕ}
use Rattle.std.proofs.Math.Option.{Option, none, some}
use Rattle.model.specs.Tokens.{Lexeme, Stream, next, ends, breaks}
use Rattle.model.specs.Reading.{read}
use Rattle.model.specs.Tree.{Block}
use Rattle.model.specs.Judge.{accepted, verdict, at_start}
use Rattle.model.specs.Grammar.{Program, at}

abbrev pub and_then : Lexeme → Option (List Lexeme) → Option (List Lexeme)
and_then l none = none
and_then l (some ls) = some (l ∷ ls)

-- the tokens of a stream that ends, and none where reading breaks
abbrev pub listed : Stream → Option (List Lexeme)
listed (next t p s) = and_then (at t p) (listed s)
listed (ends p) = some []
listed (breaks f p) = none

-- the text can be read, and the rules make its tokens into this tree
abbrev pub Admitted : ℕ → List ℕ → Block → Type 0
Admitted room text b = (ts : List Lexeme) × (listed (read text) ≡ some ts) × Program room ts b

-- with records for `room` names, a text is accepted with a tree exactly when the grammar gives its tokens that tree
abbrev pub Acceptance : Type 0
Acceptance = (room : ℕ) (text : List ℕ) (b : Block) → (verdict room (read text) at_start ≡ accepted b) ↔ Admitted room text b
