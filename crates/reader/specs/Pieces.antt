-- What the values that the reader's parts hand to each other stand for. Assumes nothing.
use Rattle.std.specs.Prelude.{◌≡◌, ℕ, ◌<◌, ◌≤◌, List, [], ◌∷◌, length, take, drop, Some, None, Ok, Err, Option as Maybe, Result}
use Rattle.std.proofs.Math.Option.{Option, none, some}
use Rattle.model.specs.declared.tokens.Sign.{Sign}
use Rattle.model.specs.declared.faults.ReaderFault.{ReaderFault}
use Rattle.model.specs.declared.faults.ReaderFault.TheVariants.{NoToken, OpenComment}
use Rattle.model.specs.declared.faults.Placed.{Placed}
use Rattle.model.specs.Tokens
use Rattle.model.specs.Reading.{Skipped, to, unclosed, skip, Got, got, faulty, token_at, sign_at, pair, worth}
use Rattle.reader.specs.declared.tokens.Token.{Token}
use Rattle.reader.specs.declared.tokens.Token.TheVariants as TokenIs
use Rattle.reader.specs.declared.tokens.Piece.{Piece}

-- the code's option as the definitions' own
abbrev pub found : {A : Type 0} → Maybe A → Option A
found None = none
found (Some a) = some a

-- ── tokens ──────────────────────────────────────────────────────────────────────────────────

abbrev pub token_of : Token → Tokens.Token
token_of (TokenIs.Word w) = Tokens.word w
token_of (TokenIs.Sign s) = Tokens.sign s
token_of (TokenIs.Name n) = Tokens.name n.now
token_of (TokenIs.Number n) = Tokens.number n

abbrev pub got_of : Result Piece ReaderFault → Got
got_of (Ok p) = got (token_of p.token) p.len
got_of (Err f) = faulty f

-- the token, and the sign, at the front of a text that is not empty

abbrev pub token_from : List ℕ → Got
token_from [] = faulty NoToken
token_from (b ∷ bs) = token_at b bs

abbrev pub sign_from : List ℕ → Got
sign_from [] = faulty NoToken
sign_from (b ∷ bs) = sign_at b bs

abbrev pub pair_from : List ℕ → List ℕ
pair_from [] = []
pair_from (b ∷ bs) = pair b bs

-- a name has 1 to 30 bytes, and a number fits 31 bits
abbrev pub Small : Token → Type 0
Small (TokenIs.Word w) = Unit {0}
Small (TokenIs.Sign s) = Unit {0}
Small (TokenIs.Name n) = (0 < length n.now) × (length n.now ≤ 30)
Small (TokenIs.Number n) = n ≤ 2147483647

-- a name is the front of the text that it was read from
abbrev pub CutFrom : List ℕ → Token → Type 0
CutFrom text (TokenIs.Word w) = Unit {0}
CutFrom text (TokenIs.Sign s) = Unit {0}
CutFrom text (TokenIs.Name n) = n.now ≡ take (length n.now) text
CutFrom text (TokenIs.Number n) = Unit {0}

abbrev pub CutIn : List ℕ → Result Piece ReaderFault → Type 0
CutIn text (Ok p) = CutFrom text p.token
CutIn text (Err f) = Unit {0}

-- a token's length is not 0, and lies within the text
abbrev pub FitsIn : List ℕ → Result Piece ReaderFault → Type 0
FitsIn text (Ok p) = (0 < p.len) × (p.len ≤ length text) × Small p.token
FitsIn text (Err f) = Unit {0}

-- the token g at the front of the text, within it and cut from it, or the fault g
pub record ReadAs (g : Got) (text : List ℕ) (r : Result Piece ReaderFault) : Type 0 where
  pub is : got_of r ≡ g
  pub fits : FitsIn text r
  pub cut : CutIn text r

-- a sign of two bytes was found only where there are two
abbrev pub Two : List ℕ → Maybe Sign → Type 0
Two bs None = Unit {0}
Two bs (Some s) = 1 < length bs

-- what digits are worth, or that this is above the greatest value
abbrev pub Worth : List ℕ → Maybe ℕ → Type 0
Worth ds None = 2147483647 < worth 0 ds
Worth ds (Some v) = (v ≡ worth 0 ds) × (v ≤ 2147483647)

-- ── gaps ────────────────────────────────────────────────────────────────────────────────────

-- where the text goes on behind a comment that began at place o, or that it is not closed
abbrev pub closing : ℕ → List ℕ → Maybe ℕ → Skipped
closing o text None = unclosed o
closing o text (Some q) = skip q (drop q text)

abbrev pub Behind : List ℕ → ℕ → Maybe ℕ → Type 0
Behind text p None = Unit {0}
Behind text p (Some q) = (p < q) × (q ≤ length text)

-- from p on, the next token begins at q, or a comment is never closed
abbrev pub Skips : List ℕ → ℕ → Result ℕ (Placed ReaderFault) → Type 0
Skips text p (Ok q) = (skip p (drop p text) ≡ to q (drop q text)) × (p ≤ q) × (q ≤ length text)
Skips text p (Err b) = (skip p (drop p text) ≡ unclosed b.place) × (b.fault ≡ OpenComment)
