-- Lines and columns of a text. Assumes nothing.
use Rattle.std.specs.Prelude.{ℕ, suc, true, false, List, [], ◌∷◌, ◌==◌}

-- how many lines end in these bytes
abbrev pub newlines : List ℕ → ℕ
newlines [] = 0
newlines (b ∷ bs) = elim (b == 10) [ true ↦ suc (newlines bs) | false ↦ newlines bs ]

-- how many bytes stand behind the last line's end, or, where no line ends, behind k others
abbrev pub since_newline : ℕ → List ℕ → ℕ
since_newline k [] = k
since_newline k (b ∷ bs) = elim (b == 10) [ true ↦ since_newline 0 bs | false ↦ since_newline (suc k) bs ]
