-- The number of each refusal. Assumes nothing.
use Rattle.std.specs.Prelude.{ℕ}
use Rattle.pile.specs.declared.Refusal.{Refusal}
use Rattle.pile.specs.declared.Refusal.TheVariants.{Full, Absent}

abbrev pub number : Refusal → ℕ
number Full = 1
number Absent = 2
