-- What declarations do to an open block. Assumes nothing.
use Rattle.std.specs.Prelude.{List, [], ◌∷◌, ℕ, suc, ◌+◌}
use Rattle.model.specs.declared.script.Ty.{Ty}
use Rattle.model.specs.Tree.{Cmd, Role, program, Block, block, Routines, no_more, routine}
use Rattle.model.specs.Names.{Kind, a_variable, Known, Scope}

-- ── blocks ──────────────────────────────────────────────────────────────────────────────────

-- the program, whose keyword stands at place p; cell 0 carries function results
abbrev pub program_opened : ℕ → Scope
program_opened p =
    record { place = p; role = program; which = 0; first = 1; cells = 0; known = []; waiting = []; routines = no_more; count = 0 }

-- a routine of block s, with n own cells so far, which follow those of s
abbrev pub opened : Scope → ℕ → Role → ℕ → Scope
opened s p r n =
    record {
      place = p;
      role = r;
      which = s.count;
      first = s.first + s.cells;
      cells = n;
      known = [];
      waiting = [];
      routines = no_more;
      count = 0;
    }

-- the whole block, once its body is known
abbrev pub closed : Scope → Cmd → Block
closed s c = block s.place s.role s.cells s.routines c

-- ── names ───────────────────────────────────────────────────────────────────────────────────

-- a variable more, which waits for its type
abbrev pub wait : Scope → List ℕ → Scope
wait s n =
    record {
      place = s.place;
      role = s.role;
      which = s.which;
      first = s.first;
      cells = suc s.cells;
      known = s.known;
      waiting = (n, s.cells) ∷ s.waiting;
      routines = s.routines;
      count = s.count;
    }

abbrev pub all_known : Ty → List (List ℕ × ℕ) → List Known → List Known
all_known y [] ks = ks
all_known y (w ∷ ws) ks = record { spelling = w.0; kind = a_variable y w.1 } ∷ all_known y ws ks

-- the waiting variables have this type
abbrev pub typed : Scope → Ty → Scope
typed s y =
    record {
      place = s.place;
      role = s.role;
      which = s.which;
      first = s.first;
      cells = s.cells;
      known = all_known y s.waiting s.known;
      waiting = [];
      routines = s.routines;
      count = s.count;
    }

-- the name of a routine more
abbrev pub with_routine_name : Scope → List ℕ → Kind → Scope
with_routine_name s n k =
    record {
      place = s.place;
      role = s.role;
      which = s.which;
      first = s.first;
      cells = s.cells;
      known = record { spelling = n; kind = k } ∷ s.known;
      waiting = s.waiting;
      routines = s.routines;
      count = suc s.count;
    }

-- ── routines ────────────────────────────────────────────────────────────────────────────────

abbrev pub add_routine : Routines → Block → Routines
add_routine no_more b = routine b no_more
add_routine (routine a rs) b = routine a (add_routine rs b)

-- a routine is complete
abbrev pub with_routine : Scope → Block → Scope
with_routine s b =
    record {
      place = s.place;
      role = s.role;
      which = s.which;
      first = s.first;
      cells = s.cells;
      known = s.known;
      waiting = s.waiting;
      routines = add_routine s.routines b;
      count = s.count;
    }
