-- What is proved of reading: the statements. Assumes nothing.
use Rattle.std.specs.Prelude.{◌≡◌, ℕ, ◌+◌, ◌≤◌, ◌↔◌, List, [], ◌∷◌, ◌++◌, length, take}
use Rattle.std.proofs.Math.Option.{some}
use Rattle.model.specs.declared.tokens.Word.{Word}
use Rattle.model.specs.Tokens.{Stream, Token, Lexeme, ends, breaks, next, word, name}
use Rattle.model.specs.Reading.{read, words}
use Rattle.model.specs.Acceptance.{listed}
use Rattle.model.specs.Promise.{Each}
use Rattle.reading.specs.Spelling.{Spells, WordLike, Entry, Unlisted, Looks}
use Rattle.reading.specs.Rules.{ReadAs, Gap, Longest}

-- ── the rules ───────────────────────────────────────────────────────────────────────────────

-- a text is read as a stream exactly when the rules say so
abbrev pub ExactlyByTheRules : Type 0
ExactlyByTheRules = (text : List ℕ) (s : Stream) → (read text ≡ s) ↔ ReadAs 0 text s

-- ── nothing is lost ─────────────────────────────────────────────────────────────────────────

-- a part of a text: what stands between tokens, or a token's bytes and the token
pub data Part : Type 0 where
  between : List ℕ → Part
  spelled : List ℕ → Token → Part

abbrev pub Right : Part → Type 0
Right (between s) = Gap s
Right (spelled s t) = Spells s t

-- the parts, one behind the other
abbrev pub bytes : List Part → List ℕ
bytes [] = []
bytes (between s ∷ ps) = s ++ bytes ps
bytes (spelled s t ∷ ps) = s ++ bytes ps

-- the tokens among them, each at its place, if the parts begin at place p
abbrev pub tokens_from : ℕ → List Part → List Lexeme
tokens_from p [] = []
tokens_from p (between s ∷ ps) = tokens_from (p + length s) ps
tokens_from p (spelled s t ∷ ps) = record { token = t; place = p } ∷ tokens_from (p + length s) ps

-- the bytes are gaps and spellings, one behind the other, and these are the tokens
abbrev pub MadeOf : List ℕ → List Lexeme → Type 0
MadeOf bs ts = (ps : List Part) × (bytes ps ≡ bs) × (tokens_from 0 ps ≡ ts) × Each Right ps

-- the tokens of a stream, and the place where it ends or breaks

abbrev pub tokens : Stream → List Lexeme
tokens (next t p s) = record { token = t; place = p } ∷ tokens s
tokens (ends p) = []
tokens (breaks f p) = []

abbrev pub stop : Stream → ℕ
stop (next t p s) = stop s
stop (ends p) = p
stop (breaks f p) = p

-- up to the fault that ends the reading, or else to the text's end
abbrev pub NothingLost : Type 0
NothingLost =
    ((text : List ℕ) → MadeOf (take (stop (read text)) text) (tokens (read text)))
    × ((text : List ℕ) (ts : List Lexeme) → listed (read text) ≡ some ts → MadeOf text ts)

-- ── longest pieces ──────────────────────────────────────────────────────────────────────────

-- the token stands in the text at its place, and its bytes are the longest there that look like a token
pub record Stands (text : List ℕ) (l : Lexeme) : Type 0 where
  pub before : List ℕ
  pub spelling : List ℕ
  pub rest : List ℕ
  pub parts : text ≡ before ++ (spelling ++ rest)
  pub placed : length before ≡ l.place
  pub spells : Spells spelling l.token
  pub longest : Longest spelling rest

abbrev pub EveryTokenIsLongest : Type 0
EveryTokenIsLongest = (text : List ℕ) → Each (Stands text) (tokens (read text))

-- ── reserved words ──────────────────────────────────────────────────────────────────────────

-- what looks like a word, of 30 bytes at most, spells a token: a reserved word exactly when the list has it, and a name
-- exactly when it has not
abbrev pub ReservedExactlyWhenListed : Type 0
ReservedExactlyWhenListed =
    (s : List ℕ) → WordLike s → length s ≤ 30 →
    (t : Token) × Spells s t × ((w : Word) → (t ≡ word w) ↔ Entry s w words) × ((t ≡ name s) ↔ Unlisted s words)

-- bytes spell one token at most
abbrev pub OneToken : Type 0
OneToken = (s : List ℕ) (t u : Token) → Spells s t → Spells s u → t ≡ u

-- what spells a token looks like one: so where no longer front looks like a token, no longer front spells one
abbrev pub SpelledLooks : Type 0
SpelledLooks = (s : List ℕ) (t : Token) → Spells s t → Looks s
