-- What the translation of a part says of a text, names and a table that are not held as a translation. Assumes nothing.
use Rattle.std.specs.Prelude.{ℕ, List, Result}
use Rattle.model.specs.declared.script.Ty.{Ty}
use Rattle.model.specs.declared.table.Entry.{Entry}
use Rattle.model.specs.declared.faults.Fault.{Fault}
use Rattle.model.specs.Tree.{Exp}
use Rattle.model.specs.Ahead.{Next}
use Rattle.model.specs.Settling.{Settled}
use Rattle.cursor.specs.declared.Cursor.{Cursor}
use Rattle.listing.specs.declared.Listing.{Listing}
use Rattle.scopes.specs.declared.Scopes.{Scopes}
use Rattle.scopes.specs.Levels.{Level}
use Rattle.expressions.specs.declared.Translation.{Translation}
use Rattle.expressions.specs.Parts.{Part, In}
use Rattle.expressions.specs.Says.{here, Stands, Says}

-- a translation of these values; where they lie and which loans they are, nothing below reads
abbrev pub apart : Scopes → Cursor → Listing → Translation
apart names c l = record {
  cursor = record { ref_ptr = (0, 0); ghost_name = 0; now = c };
  names = record { ref_ptr = (0, 0); now = names };
  listing = record { ref_ptr = (0, 0); ghost_name = 0; now = l };
}

-- whatever blocks are open and whatever entries were laid, the part is translated
abbrev pub Translates : (p : Part) → (Exp → Ty → In p → Next → Settled) → Scopes → Cursor → Listing → ℕ → Cursor → Listing → Result Ty Fault → Type 0
Translates p σ names b l n c m r =
    (os : List Level) (es : List Entry) → Stands (here (apart names b l) n os es) → Says p σ (here (apart names b l) n os es) (apart names c m) r
