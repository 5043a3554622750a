-- What can be said of an example: what its text becomes, what the machine tells, what the person comes to.
-- Assumes nothing.
use Rattle.std.specs.Prelude.{◌≡◌, List, [], ◌∷◌, ◌++◌, map, ℕ, ◌-◌, ℤ, negsuc, length, replicate}
use Rattle.model.specs.declared.table.Entry.{Entry}
use Rattle.model.specs.declared.names.Name.{Name}
use Rattle.model.specs.declared.names.NameKind.TheVariants.{Procedure}
use Rattle.model.specs.declared.told.Told.{Told}
use Rattle.model.specs.declared.told.Told.TheVariants.{Ended, Stopped, Running}
use Rattle.model.specs.Numbers.{number, run_number, start_number, advance_number}
use Rattle.model.specs.Reading.{read}
use Rattle.model.specs.Judge.{Verdict, accepted, refused, verdict, at_start}
use Rattle.model.specs.Person.{Outcome, done, faulted, out_of_turns, by_hand}
use Rattle.model.specs.Code.{entry}
use Rattle.model.specs.Machine.{no_entry}
use Rattle.model.specs.Calls.{World, empty, Call, translate, start, advance, Answer, translated, faulty, begun, no_start, no_advance, tells, after, no_name}

-- ── what the calls answer ───────────────────────────────────────────────────────────────────

-- an answer by numbers: a translate's by the code's length, a fault with its place
pub data Said : Type 0 where
  entries : ℕ → Said
  no_at : ℕ → ℕ → Said
  yes : Said
  no : ℕ → Said
  running ended : ℕ → Said
  -- number, entry, place, steps
  stopped : ℕ → ℕ → ℕ → ℕ → Said

abbrev pub said_of : Told → Said
said_of (Ended k) = ended k
said_of (Stopped f i p k) = stopped (run_number f) i p k
said_of (Running k) = running k

abbrev pub said : Answer → Said
said (translated n) = entries n
said (faulty c p) = no_at (number c) p
said begun = yes
said (no_start r) = no (start_number r)
said (no_advance r) = no (advance_number r)
said (tells t) = said_of t

-- what calls say, one after the other, and the values written in the end
abbrev pub over : List Call → World → List Said × List ℤ
over [] w = ([], w.host.written)
over (c ∷ cs) w =
    let t = after c w in
    let rest = over cs t.world in
    (said t.answer ∷ rest.0, rest.1)

-- an empty runner, memory that holds anything, these values waiting, and room for 5 more
abbrev pub set_up : ℕ → List ℤ → World
set_up cells waiting =
    record {
      runner = empty;
      table = replicate 60 (entry 99 7 7 7);
      names = replicate 10 (record { place = 7; length = 7; kind = Procedure; cell = 7; entry = 7 });
      cells = replicate cells (negsuc 8);
      host = record { waiting = waiting; written = []; room = 5 };
    }

-- the world that translate and start leave, all memory lent
abbrev pub started : List ℕ → ℕ → List ℤ → World
started text cells waiting = (after (start 60 cells) (after (translate text 60 10) (set_up cells waiting)).world).world

-- what translate says, and what it leaves in the table and in the names
abbrev pub translated_as : List ℕ → Said × List Entry × List Name
translated_as text = let t = after (translate text 60 10) (set_up 0 []) in (said t.answer, t.world.table, t.world.names)

-- ── what the person comes to ────────────────────────────────────────────────────────────────

-- the end, or a fault by its number and place, with the values written; or no turn left
pub data Hand : Type 0 where
  finished : List ℤ → Hand
  faulty_at : ℕ → ℕ → List ℤ → Hand
  tired : Hand
  no_script : Hand

abbrev pub came : Outcome (Unit {0}) → Hand
came (done u s) = finished s.host.written
came (faulted f p s) = faulty_at (run_number f) p s.host.written
came (out_of_turns s) = tired

abbrev pub following : Verdict → ℕ → List ℤ → Hand
following (accepted b) turns waiting = came (by_hand b (record { waiting = waiting; written = []; room = 5 }) turns)
following (refused c p) turns waiting = no_script

-- ── facts ───────────────────────────────────────────────────────────────────────────────────

pub data Fact : Type 0 where
  -- a text becomes these entries
  becomes : List ℕ → List Entry → Fact
  -- a text is refused with this number at this place
  is_refused : List ℕ → ℕ → ℕ → Fact
  -- with so many cells and these values waiting, an advance for each budget says this, and these values are written
  runs : List ℕ → ℕ → List ℤ → List ℕ → List Said → List ℤ → Fact
  -- with so many turns and these values waiting, the person comes to this
  follows : List ℕ → ℕ → List ℤ → Hand → Fact

abbrev pub Holds : Fact → Type 0
Holds (becomes text es) = translated_as text ≡ (entries (length es), es ++ replicate (60 - length es) no_entry, replicate 10 no_name)
Holds (is_refused text n p) = translated_as text ≡ (no_at n p, replicate 60 no_entry, replicate 10 no_name)
Holds (runs text cells waiting budgets ss written) = over (map (advance 60 cells) budgets) (started text cells waiting) ≡ (ss, written)
Holds (follows text turns waiting h) = following (verdict 10 (read text) at_start) turns waiting ≡ h
