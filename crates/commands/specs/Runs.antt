-- What the translation of a command says: the command that was found, its entries, and how the judge goes on.
-- Assumes nothing.
use Rattle.std.specs.Prelude.{◌≡◌, ℕ, pred, ◌+◌, List, ◌++◌, length, Some, Ok, Err, Result}
use Rattle.std.proofs.Math.Option.{some}
use Rattle.scopes.specs.declared.names.Name.{Name}
use Rattle.model.specs.declared.script.Ty.{Ty}
use Rattle.model.specs.declared.table.Entry.{Entry}
use Rattle.model.specs.declared.faults.Fault.{Fault}
use Rattle.model.specs.declared.tokens.Word.{Word}
use Rattle.model.specs.declared.tokens.Word.TheVariants as Words
use Rattle.model.specs.Tokens.{Token}
use Rattle.model.specs.Tree
use Rattle.model.specs.Tree.{Exp, Cmd, Found}
use Rattle.model.specs.Ahead.{Next}
use Rattle.model.specs.Names.{Seen}
use Rattle.model.specs.Contexts.{CommandIn, in_then, in_loop, ExpressionIn, chosen, repeated, left_of, levels_of_command, Focus, want_simple, want_command, past_name, to_assign, leia_open, escreva_open, leia_name, escreva_name, leia_close, escreva_close}
use Rattle.model.specs.Settling.{Settled, at, settle, settle_command}
use Rattle.model.specs.Judged.{on}
use Rattle.model.specs.Judge.{shift, refused}
use Rattle.model.specs.Code.{of_exp, of_cmd, cell_of}
use Rattle.cursor.specs.declared.Cursor.{Cursor}
use Rattle.cursor.specs.Rests.{rest_of, ahead_of, place_of}
use Rattle.cursor.specs.Onward.{onward}
use Rattle.listing.specs.Listings.{Lists, is_over}
use Rattle.scopes.specs.Levels.{Level, laid_of_all, Matches}
use Rattle.commands.specs.declared.Target.{Target}
use Rattle.expressions.specs.declared.Translation.{Translation}
use Rattle.expressions.specs.Says.{Here, here, scopes_at, laid_at, Stands, Went, Kept}

-- a context is as deep as the call says
abbrev pub Deep : Here → CommandIn → Type 0
Deep a k = pred (length (scopes_at a)) + levels_of_command k ≡ a.depth

-- from where the judge starts: for each context, what its focus is settled to at the next token
abbrev pub Start : Type 0
Start = CommandIn → Next → Settled

-- a command is wanted
abbrev pub wanted : Start
wanted k t = at (want_command k)

-- from the start, the judge has come to σ with this cursor, whatever stands around the command
pub record Comes (start : Start) (a : Here) (σ : Start) (c : Cursor) : Type 0 where
  pub path : (room : ℕ) (k : CommandIn) → Deep a k → onward room (rest_of a.from.cursor.now) (scopes_at a) (start k) ≡ onward room (rest_of c) (scopes_at a) (σ k)

-- a command was translated
pub record Done (start : Start) (a : Here) (c : Translation) : Type 0 where
  pub cmd : Cmd
  pub lists : Lists c.listing.now (a.entries ++ of_cmd (laid_at a) (length a.entries) cmd)
  pub comes : Comes start a (λ k t. settle_command t cmd k) c.cursor.now

-- the judge refuses the text
pub record Halts (start : Start) (a : Here) (f : Fault) : Type 0 where
  pub refuses : (room : ℕ) (k : CommandIn) → Deep a k → onward room (rest_of a.from.cursor.now) (scopes_at a) (start k) ≡ refused f.cause f.place

abbrev pub Runs : Start → Here → Translation → Result (Unit {0}) Fault → Type 0
Runs start a c (Ok u) = Done start a c
Runs start a c (Err f) = Halts start a f

-- tokens were taken where nothing was refused, and what is lent is kept
pub record Passed {A : Type 0} (b : Translation) (c : Translation) (r : Result A Fault) : Type 0 where
  pub went : Went b r c
  pub kept : Kept b c

-- whatever blocks are open and whatever entries were laid, the command is translated
pub record Translates (start : Start) (b : Translation) (n : ℕ) (c : Translation) (r : Result (Unit {0}) Fault) : Type 0 where
  pub says : (os : List Level) (es : List Entry) → Stands (here b n os es) → Runs start (here b n os es) c r
  pub went : Went b r c

-- ── commands that begin with a name ─────────────────────────────────────────────────────────

-- what stands at place p is set, whose cell is that of f
abbrev pub Assigns : Found → ℕ → Ty → ℕ → Translation → ℕ → Translation → Result (Unit {0}) Fault → Type 0
Assigns f cell y p b n c r =
    (os : List Level) (es : List Entry) → Stands (here b n os es) → cell ≡ cell_of (laid_of_all os) f → Runs (λ k t. at (to_assign p f y k)) (here b n os es) c r

-- behind the name at place p, whose record matches the declaration that the judge found
abbrev pub GoesOn : Name → ℕ → Translation → ℕ → Translation → Result (Unit {0}) Fault → Type 0
GoesOn v p b n c r =
    (os : List Level) (es : List Entry) (d : Seen) → Stands (here b n os es) → Matches (laid_of_all os) (is_over b.listing.now) (Some v) (some d) →
    Runs (λ k t. settle t (past_name p d.kind d.hops d.inside k)) (here b n os es) c r

-- ── `leia` and `escreva` ────────────────────────────────────────────────────────────────────

-- which of the two it is
pub data Way : Type 0 where
  reads writes : Way

-- behind the keyword at place p, behind the bracket, and behind the name
abbrev pub opens : Way → ℕ → CommandIn → Focus
opens reads p k = leia_open p k
opens writes p k = escreva_open p k

abbrev pub names : Way → ℕ → CommandIn → Focus
names reads p k = leia_name p k
names writes p k = escreva_name p k

abbrev pub closes : Way → ℕ → ℕ → Found → CommandIn → Focus
closes reads p q f k = leia_close p q f k
closes writes p q f k = escreva_close p q f k

abbrev pub keyword_of : Way → Word
keyword_of reads = Words.Leia
keyword_of writes = Words.Escreva

abbrev pub command_of : Way → ℕ → ℕ → Found → Cmd
command_of reads p q f = Tree.leia p q f
command_of writes p q f = Tree.escreva p q f

-- there is a token
pub record Present (n : Next) : Type 0 where
  pub token : Token
  pub is : n ≡ some token

-- the token ahead names a variable of numbers, in this cell
pub record CellFound (w : Way) (p : ℕ) (a : Here) (cell : ℕ) : Type 0 where
  pub found : Found
  pub is : cell ≡ cell_of (laid_at a) found
  pub token : Token
  pub ahead : ahead_of a.from.cursor.now ≡ some token
  pub shifts : (room : ℕ) (k : CommandIn) → shift room (scopes_at a) token (place_of a.from.cursor.now) (names w p k) ≡ on (scopes_at a) (closes w p (place_of a.from.cursor.now) found k)

abbrev pub CellIn : Way → ℕ → Here → Result ℕ Fault → Type 0
CellIn w p a (Ok v) = CellFound w p a v
CellIn w p a (Err f) = Halts (λ k t. at (names w p k)) a f

-- whichever of the two it is, and whatever blocks are open
abbrev pub Cells : Translation → Result ℕ Fault → Type 0
Cells b r = (w : Way) (p n : ℕ) (os : List Level) (es : List Entry) → Stands (here b n os es) → CellIn w p (here b n os es) r

abbrev pub IsThere : Cursor → Result ℕ Fault → Type 0
IsThere c (Ok v) = Present (ahead_of c)
IsThere c (Err f) = Unit {0}

-- the variable in the brackets, and how the judge went on behind them
pub record Named (w : Way) (p : ℕ) (a : Here) (v : Target) (c : Translation) : Type 0 where
  pub found : Found
  pub cell : v.cell ≡ cell_of (laid_at a) found
  pub comes : Comes (λ k t. at (opens w p k)) a (λ k t. settle_command t (command_of w p v.place found) k) c.cursor.now

abbrev pub NameIn : Way → ℕ → Here → Translation → Result Target Fault → Type 0
NameIn w p a c (Ok v) = Named w p a v c
NameIn w p a c (Err f) = Halts (λ k t. at (opens w p k)) a f

abbrev pub Names : Translation → Translation → Result Target Fault → Type 0
Names b c r = (w : Way) (p n : ℕ) (os : List Level) (es : List Entry) → Stands (here b n os es) → NameIn w p (here b n os es) c r

-- ── conditions ──────────────────────────────────────────────────────────────────────────────

-- whether the condition is that of a `se` or of an `enquanto`
pub data Test : Type 0 where
  chooses repeats : Test

-- where the condition stands, and behind it the command
abbrev pub test_in : Test → ℕ → CommandIn → ExpressionIn
test_in chooses p k = chosen p k
test_in repeats p k = repeated p k

abbrev pub then_in : Test → ℕ → Exp → CommandIn → CommandIn
then_in chooses p x k = in_then p x k
then_in repeats p x k = in_loop p x k

-- the word between them
abbrev pub word_of : Test → Word
word_of chooses = Words.Entao
word_of repeats = Words.Faca

abbrev pub testing : Test → ℕ → Start
testing w p k t = at (want_simple (left_of (test_in w p k)))

-- a condition was translated, and the word behind it taken
pub record Tested (w : Test) (p : ℕ) (a : Here) (c : Translation) : Type 0 where
  pub exp : Exp
  pub lists : Lists c.listing.now (a.entries ++ of_exp (laid_at a) exp)
  pub comes : Comes (testing w p) a (λ k t. at (want_command (then_in w p exp k))) c.cursor.now

abbrev pub TestIn : Test → ℕ → Here → Translation → Result (Unit {0}) Fault → Type 0
TestIn w p a c (Ok u) = Tested w p a c
TestIn w p a c (Err f) = Halts (testing w p) a f

-- whichever of the two it is, and whatever blocks are open; the condition is one level further in
abbrev pub Tests : Word → Translation → ℕ → Translation → Result (Unit {0}) Fault → Type 0
Tests word b inside c r = (w : Test) (p n : ℕ) (os : List Level) (es : List Entry) → word ≡ word_of w → inside ≡ n + 1 → Stands (here b n os es) → TestIn w p (here b n os es) c r
