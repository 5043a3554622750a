-- What the translation of a command says of a text, names and a table that are not held as a translation.
-- Assumes nothing.
use Rattle.std.specs.Prelude.{ℕ, List, Result}
use Rattle.model.specs.declared.table.Entry.{Entry}
use Rattle.model.specs.declared.faults.Fault.{Fault}
use Rattle.cursor.specs.declared.Cursor.{Cursor}
use Rattle.listing.specs.declared.Listing.{Listing}
use Rattle.scopes.specs.declared.Scopes.{Scopes}
use Rattle.scopes.specs.Levels.{Level}
use Rattle.expressions.specs.Says.{here, Stands}
use Rattle.expressions.specs.Apart.{apart}
use Rattle.commands.specs.Runs.{Start, Runs}

-- whatever blocks are open and whatever entries were laid, the command is translated
abbrev pub Translates : Start → Scopes → Cursor → Listing → ℕ → Cursor → Listing → Result (Unit {0}) Fault → Type 0
Translates start names b l n c m r =
    (os : List Level) (es : List Entry) → Stands (here (apart names b l) n os es) → Runs start (here (apart names b l) n os es) (apart names c m) r
