-- What a code makes the machine do. Assumes nothing.
use Rattle.std.specs.Prelude.{ℕ, nat_eq}
use Rattle.model.specs.Machine.{Now, Went, instructions, carried_out}
use Rattle.model.specs.Reading.{pick}

abbrev pub instruction : ℕ → Now → Went
instruction c = carried_out (pick nat_eq c instructions)
