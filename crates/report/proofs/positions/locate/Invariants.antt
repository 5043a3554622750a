-- Line and column are those of the bytes gone over.
use Rattle.std.proofs.Common.{◌≡◌, suc, take}
use Rattle.report.specs.Positions.{newlines, since_newline}
use Rattle.report.proofs.positions.locate.Given as goal

abbrev pub invariant-loop-byte : goal.invariant-loop-byte
invariant-loop-byte l =
    (l.line ≡ suc (newlines (take l.byte-index l.text))) × (l.column ≡ suc (since_newline 0 (take l.byte-index l.text)))
