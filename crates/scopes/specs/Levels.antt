-- How records stand for the names of open blocks, and what a record says of the declaration that a name finds.
-- Assumes nothing.
use Rattle.std.specs.Prelude.{◌≡◌, ℕ, suc, pred, ◌+◌, ◌<◌, ◌≤◌, Bool, true, false, List, [], ◌∷◌, ◌++◌, length, take, drop, Some, None, Ok, Err, Option as Maybe, Result, slice_index}
use Rattle.std.proofs.Math.Option.{Option, none, some}
use Rattle.scopes.specs.declared.names.Name.{Name}
use Rattle.model.specs.declared.names.NameKind.TheVariants.{Variable, Procedure, Function}
use Rattle.model.specs.declared.script.Ty.{Ty}
use Rattle.model.specs.Names.{Kind, a_variable, a_procedure, a_function, Known, Scope, Seen, routine_number, alike_numbers, records}
use Rattle.model.specs.Tree
use Rattle.model.specs.Tree.{Role}
use Rattle.model.specs.Blocks.{wait, typed, with_routine_name, opened, with_routine}
use Rattle.model.specs.Code.{Laid, cell_of, begin_of}
use Rattle.model.specs.Judged.{Judged, refuses}
use Rattle.model.specs.declared.faults.Cause.{Cause}
use Rattle.model.specs.declared.faults.Fault.{Fault}
use Rattle.pile.specs.Piles.{SameLoan}
use Rattle.scopes.specs.declared.Scopes.{Scopes}
use Rattle.scopes.specs.Records.{text_of, records_of, room_of, spelling}

-- an open block of the judge, and the entries at which its routines begin, as far as they are declared
pub record Level : Type 0 where
  pub scope : Scope
  pub begins : List ℕ

abbrev pub laid_of : Level → Laid
laid_of o = record { first = o.scope.first; cells = o.scope.cells; begins = o.begins }

abbrev pub scopes_of : List Level → List Scope
scopes_of [] = []
scopes_of (o ∷ os) = o.scope ∷ scopes_of os

abbrev pub laid_of_all : List Level → List Laid
laid_of_all [] = []
laid_of_all (o ∷ os) = laid_of o ∷ laid_of_all os

-- what declarations do to the innermost block; e is the entry at which a routine begins

abbrev pub waited : Level → List ℕ → Level
waited o n = record { scope = wait o.scope n; begins = o.begins }

abbrev pub grouped : Level → Ty → Level
grouped o y = record { scope = typed o.scope y; begins = o.begins }

abbrev pub named : Level → List ℕ → Kind → ℕ → Level
named o n k e = record { scope = with_routine_name o.scope n k; begins = o.begins ++ (e ∷ []) }

abbrev pub entered : Level → ℕ → Role → ℕ → Level
entered o p r c = record { scope = opened o.scope p r c; begins = [] }

abbrev pub ended : Level → Tree.Block → Level
ended o b = record { scope = with_routine o.scope b; begins = o.begins }

-- ── records for names ───────────────────────────────────────────────────────────────────────

-- Where more entries were laid than fit (`over`), the entry of a record says nothing: the table is refused in the end.
-- `last` is the number of the routine whose block stands open inside this one, and `inner` the first cell of that block.

-- a record for what a name stands for, in a block whose cells begin at `first` and whose routines begin at `begins`
abbrev pub StandsFor : Bool → ℕ → List ℕ → Option ℕ → ℕ → Name → Kind → Type 0
StandsFor over first begins last inner n (a_variable y i) = (n.kind ≡ Variable y) × (n.cell ≡ first + i)
StandsFor over first begins last inner n (a_procedure w) = (n.kind ≡ Procedure) × (over ≡ false → n.entry ≡ slice_index begins w)
StandsFor over first begins last inner n (a_function y w) =
    (n.kind ≡ Function y) × (over ≡ false → n.entry ≡ slice_index begins w) × (n.inside ≡ alike_numbers last (some w))
    × (n.inside ≡ true → n.cell ≡ inner)

-- records for names, both newest first
abbrev pub Recorded : List ℕ → Bool → ℕ → List ℕ → Option ℕ → ℕ → List Known → List Name → Type 0
Recorded text over first begins last inner [] [] = Unit {0}
Recorded text over first begins last inner [] (n ∷ ns) = ⊥
Recorded text over first begins last inner (k ∷ ks) [] = ⊥
Recorded text over first begins last inner (k ∷ ks) (n ∷ ns) =
    (k.spelling ≡ spelling text n) × StandsFor over first begins last inner n k.kind × Recorded text over first begins last inner ks ns

-- records for variables that wait for their type
abbrev pub Waiting : List ℕ → ℕ → List (List ℕ × ℕ) → List Name → Type 0
Waiting text first [] [] = Unit {0}
Waiting text first [] (n ∷ ns) = ⊥
Waiting text first (w ∷ ws) [] = ⊥
Waiting text first (w ∷ ws) (n ∷ ns) = (w.0 ≡ spelling text n) × (n.cell ≡ first + w.1) × Waiting text first ws ns

-- all routines among the names have numbers below c
abbrev pub Below : ℕ → List Known → Type 0
Below c [] = Unit {0}
Below c (k ∷ ks) = ((w : ℕ) → routine_number k.kind ≡ some w → w < c) × Below c ks

-- the newest name is the routine of this number, and the others have lower ones
pub record Newest (w : ℕ) (s : Scope) : Type 0 where
  pub named : Known
  pub others : List Known
  pub names : s.known ≡ named ∷ others
  pub number : routine_number named.kind ≡ some w
  pub lower : Below w others
  pub count : s.count ≡ suc w

-- the numbers of a block's routines: where one is open inside it, that is the newest name, and no variable waits
abbrev pub Numbered : Option ℕ → Scope → Type 0
Numbered none s = Below s.count s.known
Numbered (some w) s = Newest w s × (s.waiting ≡ [])

-- the records of one block, and those of the blocks around it
pub record Block (text : List ℕ) (over : Bool) (last : Option ℕ) (inner : ℕ) (o : Level) (around : List Name → Type 0) (ns : List Name) : Type 0 where
  pub top : List Name
  pub own : List Name
  pub outer : List Name
  pub parts : ns ≡ top ++ (own ++ outer)
  pub waiting : Waiting text o.scope.first o.scope.waiting top
  pub known : Recorded text over o.scope.first o.begins last inner o.scope.known own
  pub numbered : Numbered last o.scope
  pub begun : length o.begins ≡ o.scope.count
  pub below : around outer

-- the records, newest first, for the open blocks, innermost first
abbrev pub Knows : List ℕ → Bool → Option ℕ → ℕ → List Level → List Name → Type 0
Knows text over last inner [] ns = ns ≡ []
Knows text over last inner (o ∷ os) ns =
    Block text over last inner o (Knows text over (some o.scope.which) o.scope.first os) ns

-- the records of s are those of the open blocks
abbrev pub Holds : Scopes → Bool → List Level → Type 0
Holds s over os = Knows (text_of s) over none 0 os (records_of s)

-- the same text and the same memory, on loan as before
abbrev pub Keeps : Scopes → Scopes → Type 0
Keeps s t = (text_of t ≡ text_of s) × (room_of t ≡ room_of s) × SameLoan s.records t.records

-- the name is spelled in the text at this place, in at most 30 bytes
abbrev pub SpelledAt : List ℕ → List ℕ → ℕ → Type 0
SpelledAt text n p = (n ≡ take (length n) (drop p text)) × (length n ≤ 30)

-- there is a record left
abbrev pub RoomLeft : Scopes → List Level → Type 0
RoomLeft s os = records (scopes_of os) < room_of s

-- ── what a name finds ───────────────────────────────────────────────────────────────────────

-- no variable waits for its type
abbrev pub Calm : List Level → Type 0
Calm [] = Unit {0}
Calm (o ∷ os) = o.scope.waiting ≡ []

-- a record, and the declaration that the judge finds: they say the same of each kind of name
pub data Matches (ls : List Laid) (over : Bool) : Maybe Name → Option Seen → Type 0 where
  neither : Matches ls over None none
  variables : (n : Name) (y : Ty) (i h : ℕ) (c : Bool) → n.kind ≡ Variable y → n.cell ≡ cell_of ls (record { hops = h; index = i }) →
      Matches ls over (Some n) (some (record { kind = a_variable y i; hops = h; inside = c }))
  procedures : (n : Name) (w h : ℕ) (c : Bool) → n.kind ≡ Procedure → (over ≡ false → n.entry ≡ begin_of ls (record { hops = h; index = w })) →
      Matches ls over (Some n) (some (record { kind = a_procedure w; hops = h; inside = c }))
  functions : (n : Name) (y : Ty) (w h : ℕ) (c : Bool) → n.kind ≡ Function y →
      (over ≡ false → n.entry ≡ begin_of ls (record { hops = h; index = w })) → n.inside ≡ c →
      (c ≡ true → n.cell ≡ cell_of ls (record { hops = pred h; index = 0 })) →
      Matches ls over (Some n) (some (record { kind = a_function y w; hops = h; inside = c }))

-- ── whether a block admits a name ───────────────────────────────────────────────────────────

-- what the judge gives: j where the name is admitted, and the fault where it is not
abbrev pub decided : Judged → Result (Unit {0}) Cause → Judged
decided j (Ok u) = j
decided j (Err k) = refuses k

abbrev pub told : Judged → Result (Unit {0}) Fault → Judged
told j (Ok u) = j
told j (Err f) = refuses f.cause

abbrev pub AtPlace : ℕ → Result (Unit {0}) Fault → Type 0
AtPlace p (Ok u) = Unit {0}
AtPlace p (Err f) = f.place ≡ p
