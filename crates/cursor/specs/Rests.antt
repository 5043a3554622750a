-- A cursor as the stream from the token ahead on. Assumes nothing.
use Rattle.std.specs.Prelude.{◌≡◌, ℕ, suc, ◌<◌, ◌≤◌, List, length, drop, Some, None, Ok, Err, Option as Maybe, Result}
use Rattle.std.proofs.Math.Option.{none, some}
use Rattle.model.specs.declared.faults.ReaderFault.{ReaderFault}
use Rattle.model.specs.declared.faults.Fault.{Fault}
use Rattle.model.specs.declared.faults.Cause.{Cause}
use Rattle.model.specs.declared.faults.Cause.TheVariants as Causes
use Rattle.model.specs.declared.faults.GrammarFault.TheVariants.{NotAdmitted, TextEnded}
use Rattle.model.specs.Tokens.{Stream, next, ends, breaks}
use Rattle.model.specs.Ahead.{Next}
use Rattle.reader.specs.Pieces.{token_of, Small, CutFrom}
use Rattle.reader.specs.Streams
use Rattle.reader.specs.Streams.{stream_of, left_of}
use Rattle.reader.specs.declared.tokens.Token.{Token}
use Rattle.reader.specs.declared.tokens.Lexeme.{Lexeme}
use Rattle.cursor.specs.declared.Cursor.{Cursor}

abbrev pub text_of : Cursor → List ℕ
text_of c = Streams.text_of c.reader

-- ── the token ahead ─────────────────────────────────────────────────────────────────────────

abbrev pub from_lexeme : List ℕ → Stream → Maybe Lexeme → Stream
from_lexeme text s (Some l) = next (token_of l.token) l.place s
from_lexeme text s None = ends (length text)

-- what is still to be judged
abbrev pub rest_of : Cursor → Stream
rest_of c = from_lexeme (text_of c) (stream_of c.reader) c.ahead

-- what stands behind the token ahead, and how far it is to its end
abbrev pub behind : Cursor → Stream
behind c = stream_of c.reader

abbrev pub left_behind : Cursor → ℕ
left_behind c = left_of c.reader

abbrev pub next_of : Maybe Lexeme → Next
next_of (Some l) = some (token_of l.token)
next_of None = none

-- the token ahead, and its place; at the end of the text none, at the text's length
abbrev pub ahead_of : Cursor → Next
ahead_of c = next_of c.ahead

abbrev pub place_from : ℕ → Maybe Lexeme → ℕ
place_from n (Some l) = l.place
place_from n None = n

abbrev pub place_of : Cursor → ℕ
place_of c = place_from (length (text_of c)) c.ahead

-- what a bare token stands for, where there is one
abbrev pub token_ahead : Maybe Token → Next
token_ahead (Some t) = some (token_of t)
token_ahead None = none

-- ── how far it is to the end ────────────────────────────────────────────────────────────────

abbrev pub left_from : ℕ → Maybe Lexeme → ℕ
left_from n (Some l) = suc n
left_from n None = 0

-- what falls with every token
abbrev pub left : Cursor → ℕ
left c = left_from (left_of c.reader) c.ahead

-- ── what is known of the token ahead ────────────────────────────────────────────────────────

abbrev pub FineFrom : List ℕ → Maybe Lexeme → Type 0
FineFrom text (Some l) = Small l.token × (l.place < length text) × CutFrom (drop l.place text) l.token
FineFrom text None = Unit {0}

-- it is small, and stands in the text at its place
abbrev pub Fine : Cursor → Type 0
Fine c = FineFrom (text_of c) c.ahead

abbrev pub FineToken : List ℕ → ℕ → Maybe Token → Type 0
FineToken text p (Some t) = Small t × (p < length text) × CutFrom (drop p text) t
FineToken text p None = Unit {0}

-- ── faults ──────────────────────────────────────────────────────────────────────────────────

-- the reader breaks off with this fault
pub record Breaks (s : Stream) (f : Fault) : Type 0 where
  pub fault : ReaderFault
  pub stream : s ≡ breaks fault f.place
  pub cause : f.cause ≡ Causes.Reader fault

-- the fault of a token that may not stand here, or of a text that ends here
abbrev pub stray : Next → Cause
stray (some t) = Causes.Grammar NotAdmitted
stray none = Causes.Grammar TextEnded

-- the token ahead is taken: the next one is ahead, or the reader breaks off
abbrev pub Takes : Cursor → Result (Unit {0}) Fault → Cursor → Type 0
Takes c (Ok u) d = (rest_of d ≡ behind c) × (left d ≤ left_behind c) × Fine d × (text_of d ≡ text_of c)
Takes c (Err f) d = Breaks (behind c) f
