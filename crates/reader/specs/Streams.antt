-- A reader as the stream of what is still to be read. Assumes nothing.
use Rattle.std.specs.Prelude.{◌≡◌, ℕ, suc, ◌-◌, ◌<◌, List, length, drop, Some, None, Ok, Err, Option, Result}
use Rattle.model.specs.declared.faults.ReaderFault.{ReaderFault}
use Rattle.model.specs.declared.faults.Placed.{Placed}
use Rattle.model.specs.Tokens.{Stream, next, ends, breaks}
use Rattle.model.specs.Reading.{reading}
use Rattle.reader.specs.Pieces.{token_of, Small, CutFrom}
use Rattle.reader.specs.declared.tokens.Lexeme.{Lexeme}
use Rattle.reader.specs.declared.Reader.{Reader}

abbrev pub text_of : Reader → List ℕ
text_of r = r.text.now

-- what reading a text gives from place p on; from 0 on it is what reading the whole text gives
abbrev pub stream_from : List ℕ → ℕ → Stream
stream_from text p = reading (suc (length text)) p (drop p text)

abbrev pub stream_of : Reader → Stream
stream_of r = stream_from r.text.now r.at

-- how many bytes are still to be read
abbrev pub left_of : Reader → ℕ
left_of r = length r.text.now - r.at

-- one call takes the stream apart: its first token and place, with the stream behind it; or its end or fault, where it stays
abbrev pub Unfolds : Reader → Result (Option Lexeme) (Placed ReaderFault) → Reader → Type 0
Unfolds before (Ok (Some l)) after = stream_of before ≡ next (token_of l.token) l.place (stream_of after)
Unfolds before (Ok None) after = (stream_of before ≡ ends (length (text_of before))) × (stream_of after ≡ stream_of before)
Unfolds before (Err b) after = (stream_of before ≡ breaks b.fault b.place) × (stream_of after ≡ stream_of before)

-- a token leaves fewer bytes, and is small
abbrev pub Advances : Reader → Result (Option Lexeme) (Placed ReaderFault) → Reader → Type 0
Advances before (Ok (Some l)) after = (left_of after < left_of before) × Small l.token
Advances before (Ok None) after = Unit {0}
Advances before (Err b) after = Unit {0}

-- a token stands in the text at its place
abbrev pub StandsAt : Reader → Result (Option Lexeme) (Placed ReaderFault) → Type 0
StandsAt before (Ok (Some l)) = (l.place < length (text_of before)) × CutFrom (drop l.place (text_of before)) l.token
StandsAt before (Ok None) = Unit {0}
StandsAt before (Err b) = Unit {0}
