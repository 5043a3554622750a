-- What the translation of a part says: the tree that was found, its entries, and how the judge goes on. Assumes nothing.
use Rattle.std.specs.Prelude.{◌≡◌, ℕ, pred, ◌+◌, ◌<◌, ◌≤◌, List, [], ◌∷◌, ◌++◌, length, pos, Some, None, Ok, Err, Result}
use Rattle.std.proofs.Math.Option.{some}
use Rattle.model.specs.declared.script.Ty.{Ty}
use Rattle.model.specs.declared.script.Operator.{Operator}
use Rattle.model.specs.declared.faults.Cause.TheVariants as Causes
use Rattle.model.specs.declared.faults.MeaningFault.TheVariants.{WrongType}
use Rattle.model.specs.declared.table.Entry.{Entry}
use Rattle.model.specs.declared.faults.Fault.{Fault}
use Rattle.model.specs.Tokens.{Token}
use Rattle.model.specs.Tree.{Exp, constant}
use Rattle.model.specs.Contexts.{FactorIn, past_factor}
use Rattle.model.specs.Judged.{on}
use Rattle.model.specs.Bodies.{shift_factor}
use Rattle.model.specs.Ahead.{Next}
use Rattle.model.specs.Names.{Scope}
use Rattle.model.specs.Settling.{Settled, at}
use Rattle.model.specs.Judge.{refused}
use Rattle.model.specs.Code.{Laid, of_exp, plain, op_code}
use Rattle.cursor.specs.declared.Cursor.{Cursor}
use Rattle.cursor.specs.Rests.{text_of, rest_of, behind, ahead_of, place_of, left, Fine, Breaks, left_behind}
use Rattle.cursor.specs.Onward.{onward}
use Rattle.listing.specs.Listings.{Lists, SameTable, is_over}
use Rattle.scopes.specs.Levels.{Level, scopes_of, laid_of_all, Holds, Calm}
use Rattle.expressions.specs.declared.Translation.{Translation}
use Rattle.expressions.specs.Parts.{Part, In, levels_in, wants, yields}

-- what a call is about: the translation, the open blocks, the entries so far, and how many levels are open
pub record Here : Type 0 where
  pub from : Translation
  pub levels : List Level
  pub entries : List Entry
  pub depth : ℕ

abbrev pub scopes_at : Here → List Scope
scopes_at a = scopes_of a.levels

abbrev pub laid_at : Here → List Laid
laid_at a = laid_of_all a.levels

-- the text is not too long, the names are those of the open blocks, and the entries were laid
pub record Stands (a : Here) : Type 0 where
  pub fine : Fine a.from.cursor.now
  pub short : length (text_of a.from.cursor.now) ≤ 65535
  pub holds : Holds a.from.names.now (is_over a.from.listing.now) a.levels
  pub calm : Calm a.levels
  pub lists : Lists a.from.listing.now a.entries

-- a context is as deep as the call says
abbrev pub Deep : (p : Part) → Here → In p → Type 0
Deep p a k = pred (length (scopes_at a)) + levels_in p k ≡ a.depth

-- the names are left alone, and all that is lent is the same loan
pub record Kept (b c : Translation) : Type 0 where
  pub cursor : c.cursor.ghost_name ≡ b.cursor.ghost_name
  pub names : c.names ≡ b.names
  pub listing : c.listing.ghost_name ≡ b.listing.ghost_name
  pub table : SameTable b.listing.now c.listing.now

-- a part of type y was translated, and the judge has come to σ of it, whatever stands around it
pub record Reached (p : Part) (σ : Exp → Ty → In p → Next → Settled) (a : Here) (y : Ty) (c : Translation) : Type 0 where
  pub exp : Exp
  pub lists : Lists c.listing.now (a.entries ++ of_exp (laid_at a) exp)
  pub moves : (room : ℕ) (k : In p) → Deep p a k → onward room (rest_of a.from.cursor.now) (scopes_at a) (λ t. at (wants p k)) ≡ onward room (rest_of c.cursor.now) (scopes_at a) (σ exp y k)

-- the judge refuses the text, whatever stands around the part
pub record Refuses (p : Part) (a : Here) (f : Fault) : Type 0 where
  pub refuses : (room : ℕ) (k : In p) → Deep p a k → onward room (rest_of a.from.cursor.now) (scopes_at a) (λ t. at (wants p k)) ≡ refused f.cause f.place

abbrev pub Says : (p : Part) → (Exp → Ty → In p → Next → Settled) → Here → Translation → Result Ty Fault → Type 0
Says p σ a c (Ok y) = Reached p σ a y c
Says p σ a c (Err f) = Refuses p a f

-- where nothing was refused, tokens were taken
pub record Further (b c : Translation) : Type 0 where
  pub fewer : left c.cursor.now < left b.cursor.now
  pub fine : Fine c.cursor.now
  pub text : text_of c.cursor.now ≡ text_of b.cursor.now

abbrev pub Went : {A : Type 0} → Translation → Result A Fault → Translation → Type 0
Went b (Ok y) c = Further b c
Went b (Err f) c = Unit {0}

-- ── contracts ───────────────────────────────────────────────────────────────────────────────

abbrev pub here : Translation → ℕ → List Level → List Entry → Here
here b n os es = record { from = b; levels = os; entries = es; depth = n }

-- whatever blocks are open and whatever entries were laid, the part is translated
pub record Translates (p : Part) (σ : Exp → Ty → In p → Next → Settled) (b : Translation) (n : ℕ) (c : Translation) (r : Result Ty Fault) : Type 0 where
  pub says : (os : List Level) (es : List Entry) → Stands (here b n os es) → Says p σ (here b n os es) c r
  pub went : Went b r c
  pub kept : Kept b c

-- the token ahead is taken, which leaves a part of type y
abbrev pub Taken : Cursor → Ty → Result Ty Fault → Cursor → Type 0
Taken c y (Ok z) d = (z ≡ y) × (rest_of d ≡ behind c) × (left d ≤ left_behind c) × Fine d × (text_of d ≡ text_of c)
Taken c y (Err f) d = Breaks (behind c) f

-- the token t is a constant of this value and type
abbrev pub IsConstant : Token → ℕ → Ty → Type 0
IsConstant t v y = (cs : List Scope) (p : ℕ) (k : FactorIn) → shift_factor cs t p k ≡ on cs (past_factor (constant p (pos v)) y k)

-- so is the token ahead, and the value is one of scripts
pub record ConstantAhead (c : Cursor) (v : ℕ) (y : Ty) : Type 0 where
  pub token : Token
  pub is : ahead_of c ≡ some token
  pub means : IsConstant token v y
  pub small : Fine c → v ≤ 2147483647

-- the operator's entry is laid, or the operands do not fit it
abbrev pub Joins : Operator → Ty → Ty → ℕ → Translation → Translation → Result Ty Fault → Type 0
Joins o y z p b c (Ok t) = (Some t ≡ yields o y z) × ((es : List Entry) → Lists b.listing.now es → Lists c.listing.now (es ++ (plain (op_code o) p ∷ [])))
Joins o y z p b c (Err f) = (None ≡ yields o y z) × (f.cause ≡ Causes.Meaning WrongType) × (f.place ≡ place_of b.cursor.now)
