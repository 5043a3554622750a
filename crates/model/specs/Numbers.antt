-- The number of every fault and refusal, and the layer of a text's fault. Assumes nothing.
use Rattle.std.specs.Prelude.{ℕ}
use Rattle.model.specs.declared.faults.ReaderFault.{ReaderFault}
use Rattle.model.specs.declared.faults.ReaderFault.TheVariants.{NoToken, OpenComment, LargeNumber, LongName}
use Rattle.model.specs.declared.faults.GrammarFault.{GrammarFault}
use Rattle.model.specs.declared.faults.GrammarFault.TheVariants.{NotAdmitted, TextEnded, TooDeep}
use Rattle.model.specs.declared.faults.MeaningFault.{MeaningFault}
use Rattle.model.specs.declared.faults.MeaningFault.TheVariants.{NotVisible, Twice, WrongKind, WrongType}
use Rattle.model.specs.declared.faults.RoomFault.{RoomFault}
use Rattle.model.specs.declared.faults.RoomFault.TheVariants.{LongText, NamesFull, TableFull, ManyCells}
use Rattle.model.specs.declared.faults.Layer.{Layer}
use Rattle.model.specs.declared.faults.Layer.TheVariants as Layers
use Rattle.model.specs.declared.faults.Cause.{Cause}
use Rattle.model.specs.declared.faults.Cause.TheVariants as Causes
use Rattle.model.specs.declared.faults.RunFault.{RunFault}
use Rattle.model.specs.declared.faults.RunFault.TheVariants.{ZeroDivisor, NoValue, NothingWaiting, OutputFull, CellsFull, FewValues, NoCell, NoEntry, NoCode}
use Rattle.model.specs.declared.faults.StartRefusal.{StartRefusal}
use Rattle.model.specs.declared.faults.StartRefusal.TheVariants as Starts
use Rattle.model.specs.declared.faults.AdvanceRefusal.{AdvanceRefusal}
use Rattle.model.specs.declared.faults.AdvanceRefusal.TheVariants as Advances

-- ── faults of a text ────────────────────────────────────────────────────────────────────────

abbrev pub reader_number : ReaderFault → ℕ
reader_number NoToken = 10
reader_number OpenComment = 11
reader_number LargeNumber = 12
reader_number LongName = 13

abbrev pub grammar_number : GrammarFault → ℕ
grammar_number NotAdmitted = 20
grammar_number TextEnded = 21
grammar_number TooDeep = 22

abbrev pub meaning_number : MeaningFault → ℕ
meaning_number NotVisible = 30
meaning_number Twice = 31
meaning_number WrongKind = 32
meaning_number WrongType = 33

abbrev pub room_number : RoomFault → ℕ
room_number LongText = 40
room_number NamesFull = 41
room_number TableFull = 42
room_number ManyCells = 43

abbrev pub number : Cause → ℕ
number (Causes.Reader f) = reader_number f
number (Causes.Grammar f) = grammar_number f
number (Causes.Meaning f) = meaning_number f
number (Causes.Room f) = room_number f

abbrev pub layer : Cause → Layer
layer (Causes.Reader f) = Layers.Reader
layer (Causes.Grammar f) = Layers.Grammar
layer (Causes.Meaning f) = Layers.Meaning
layer (Causes.Room f) = Layers.Room

-- ── faults of a run ─────────────────────────────────────────────────────────────────────────

abbrev pub run_number : RunFault → ℕ
run_number ZeroDivisor = 60
run_number NoValue = 61
run_number NothingWaiting = 62
run_number OutputFull = 63
run_number CellsFull = 64
run_number FewValues = 65
run_number NoCell = 66
run_number NoEntry = 67
run_number NoCode = 68

-- ── refused calls ───────────────────────────────────────────────────────────────────────────

abbrev pub start_number : StartRefusal → ℕ
start_number Starts.Empty = 50
start_number Starts.ShortTable = 51

abbrev pub advance_number : AdvanceRefusal → ℕ
advance_number Advances.ShortTable = 51
advance_number Advances.NotRunning = 52
advance_number Advances.FewCells = 53
