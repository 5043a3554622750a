-- What lent memory holds once its front is written.
use Rattle.std.specs.Prelude.{List, ◌++◌, length, drop}

-- a list with a new front in place of as much of the old one
abbrev pub over : {A : Type 0} → List A → List A → List A
over front old = front ++ drop (length front) old
