-- The three calls on a runner and the memory that it is lent. Assumes nothing.
use Rattle.std.specs.Prelude.{true, false, List, [], ◌++◌, ℕ, ◌-◌, min, leb, ℤ, pos, length, take, drop, replicate}
use Rattle.model.specs.Reading.{read}
use Rattle.model.specs.Judge.{Verdict, accepted, refused, verdict, at_start}
use Rattle.model.specs.Code.{of_program}
use Rattle.host.specs.Meaning.{Meaning}
use Rattle.model.specs.Machine.{Machine, no_entry, After, advanced}
use Rattle.model.specs.declared.table.Entry.{Entry}
use Rattle.model.specs.declared.names.Name.{Name}
use Rattle.model.specs.declared.names.NameKind.TheVariants.{Nothing}
use Rattle.model.specs.declared.faults.Cause.{Cause}
use Rattle.model.specs.declared.faults.Cause.TheVariants as Causes
use Rattle.model.specs.declared.faults.RoomFault.TheVariants.{LongText, TableFull}
use Rattle.model.specs.declared.faults.StartRefusal.{StartRefusal}
use Rattle.model.specs.declared.faults.StartRefusal.TheVariants as Starts
use Rattle.model.specs.declared.faults.AdvanceRefusal.{AdvanceRefusal}
use Rattle.model.specs.declared.faults.AdvanceRefusal.TheVariants as Advances
use Rattle.model.specs.declared.told.Told.{Told}
use Rattle.model.specs.declared.told.Told.TheVariants.{Ended, Stopped, Running}

-- without a script; with a table of so many entries; or running it, with the cells in use, how many are filled, and the
-- current entry
pub data Runner : Type 0 where
  empty : Runner
  ready : ℕ → Runner
  started : ℕ → ℕ → ℕ → ℕ → Runner

-- a runner, the pieces of memory, and its host
pub record World : Type 0 where
  pub runner : Runner
  pub table : List Entry
  pub names : List Name
  pub cells : List ℤ
  pub host : Meaning

-- translate: the text, and how many table entries and names are lent; start: entries and cells; advance: entries, cells,
-- and the budget. What is lent is always a front of the piece
pub data Call : Type 0 where
  translate : List ℕ → ℕ → ℕ → Call
  start : ℕ → ℕ → Call
  advance : ℕ → ℕ → ℕ → Call

-- a translate tells the code's length
pub data Answer : Type 0 where
  translated : ℕ → Answer
  faulty : Cause → ℕ → Answer
  begun : Answer
  no_start : StartRefusal → Answer
  no_advance : AdvanceRefusal → Answer
  tells : Told → Answer

-- what a call answers, and the world that it leaves
pub record Then : Type 0 where
  pub world : World
  pub answer : Answer

-- a blank record
abbrev pub no_name : Name
no_name = record { place = 0; length = 0; kind = Nothing; cell = 0; entry = 0 }

-- es and then blanks fill the k that are lent; what lies behind stays
abbrev pub filled_with : {A : Type 0} → A → List A → ℕ → List A → List A
filled_with z es k mem = es ++ replicate (k - length es) z ++ drop k mem

-- ── translate ───────────────────────────────────────────────────────────────────────────────

-- the entries, or the first fault and its place
pub data Translation : Type 0 where
  into : List Entry → Translation
  fault : Cause → ℕ → Translation

-- whether the table holds the entries is judged last
abbrev pub fitted : List ℕ → ℕ → List Entry → Translation
fitted text k es = elim (leb (length es) (min k 65535)) [ true ↦ into es | false ↦ fault (Causes.Room TableFull) (length text) ]

abbrev pub of_verdict : List ℕ → ℕ → Verdict → Translation
of_verdict text k (accepted b) = fitted text k (of_program b)
of_verdict text k (refused c p) = fault c p

-- what a text becomes, with k table entries and j names lent
abbrev pub translation : List ℕ → ℕ → ℕ → Translation
translation text k j =
    elim (leb (length text) 65535) [ true ↦ of_verdict text k (verdict j (read text) at_start) | false ↦ fault (Causes.Room LongText) 65535 ]

-- a translate ends any run; cells and host stay
abbrev pub translated_to : World → ℕ → ℕ → Translation → Then
translated_to w k j (into es) =
    record {
      world = record {
        runner = ready (length es);
        table = filled_with no_entry es k w.table;
        names = filled_with no_name [] j w.names;
        cells = w.cells;
        host = w.host;
      };
      answer = translated (length es);
    }
translated_to w k j (fault c p) =
    record {
      world = record {
        runner = empty;
        table = filled_with no_entry [] k w.table;
        names = filled_with no_name [] j w.names;
        cells = w.cells;
        host = w.host;
      };
      answer = faulty c p;
    }

-- ── start ───────────────────────────────────────────────────────────────────────────────────

-- a refused start or advance leaves everything as it was
abbrev pub refusing : World → Answer → Then
refusing w a = record { world = w; answer = a }

-- the cells in use are cleared, and the table of n entries is begun at entry 0 with none filled
abbrev pub fresh_run : World → ℕ → ℕ → World
fresh_run w n used =
    record {
      runner = started n used 0 0;
      table = w.table;
      names = w.names;
      cells = filled_with (pos 0) [] used w.cells;
      host = w.host;
    }

abbrev pub begin : World → ℕ → ℕ → ℕ → Then
begin w k c n =
    elim (leb n k) [
      | false ↦ refusing w (no_start Starts.ShortTable)
      | true ↦ record { world = fresh_run w n (min c 65535); answer = begun }
    ]

abbrev pub starting : World → ℕ → ℕ → Runner → Then
starting w k c empty = refusing w (no_start Starts.Empty)
starting w k c (ready n) = begin w k c n
starting w k c (started n u f i) = begin w k c n

-- ── advance ─────────────────────────────────────────────────────────────────────────────────

-- a run goes on only where the budget was spent
abbrev pub next_runner : ℕ → ℕ → Machine → Told → Runner
next_runner n u m (Running k) = started n u m.fill m.at
next_runner n u m (Ended k) = ready n
next_runner n u m (Stopped f i p k) = ready n

-- what a run of n entries over u cells leaves
abbrev pub on : World → ℕ → ℕ → After → Then
on w n u a =
    record {
      world = record {
        runner = next_runner n u a.machine a.told;
        table = w.table;
        names = w.names;
        cells = a.machine.memory ++ drop u w.cells;
        host = a.host;
      };
      answer = tells a.told;
    }

abbrev pub advancing : World → ℕ → ℕ → ℕ → Runner → Then
advancing w k c budget empty = refusing w (no_advance Advances.NotRunning)
advancing w k c budget (ready n) = refusing w (no_advance Advances.NotRunning)
advancing w k c budget (started n u f i) =
    elim (leb n k) [
      | false ↦ refusing w (no_advance Advances.ShortTable)
      | true ↦ elim (leb u c) [
        | false ↦ refusing w (no_advance Advances.FewCells)
        | true ↦ on w n u (advanced budget (take n w.table) (record { memory = take u w.cells; fill = f; at = i }) w.host)
      ]
    ]

-- a call on the world
abbrev pub after : Call → World → Then
after (translate text k j) w = translated_to w k j (translation text k j)
after (start k c) w = starting w k c w.runner
after (advance k c budget) w = advancing w k c budget w.runner
