-- A run of name bytes is a name, a word, or too long.
use Rattle.std.proofs.Common.{refl}
use Rattle.model.specs.Reading.{name_byte}
use Rattle.reader.proofs.Pieces.{name_long, name_word, name_other}
use Rattle.reader.proofs.names.name_at.Goals as goal
use Rattle.reader.proofs.names.name_at.Goals.{in-Some, in-None}

pub returns-then-len-gt-LONGEST : goal.returns-then-len-gt-LONGEST
returns-then-len-gt-LONGEST c = name_long c.args.rest.now c.run_len-len.result c.requires (c.run_len-len.ensures.longest name_byte (λ b r e. e)) c.if-len-gt-LONGEST.true

pub returns : goal.returns
returns c =
    let xs = c.args.rest.now in
    let n = c.run_len-len.result in
    let run = c.run_len-len.ensures.longest name_byte (λ b r e. e) in
    elim c.match-word_of.branch [
      | in-Some w ↦ rw w.token-is (name_word xs n c.requires run c.if-len-gt-LONGEST.false w.in-Some.word w.in-Some.ensures)
      | in-None w ↦ rw w.token-is (name_other xs n c.requires run c.if-len-gt-LONGEST.false _ refl w.in-None.ensures)
    ]
