-- The rest of the text comes to what the whole does; each token leaves fewer bytes.
use Rattle.std.proofs.Common.{ℕ, ◌+◌, ◌≤◌, length, Result}
use Rattle.model.specs.declared.faults.Fault.{Fault}
use Rattle.model.specs.Reading.{read}
use Rattle.reader.specs.Streams.{stream_of, left_of}
use Rattle.lpd.specs.Listing.{Listed}
use Rattle.lpd.proofs.show_tokens.Given as goal

abbrev pub invariant-loop-lexeme : goal.invariant-loop-lexeme
invariant-loop-lexeme g l =
    ((r : Result ℕ Fault) → Listed l.count (stream_of l.reader) r → Listed 0 (read l.text) r)
    × (l.count + left_of l.reader ≤ length l.text)

abbrev pub decreases-loop-lexeme : goal.decreases-loop-lexeme
decreases-loop-lexeme g l = left_of l.reader
