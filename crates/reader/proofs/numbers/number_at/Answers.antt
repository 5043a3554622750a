-- A run of digits is a number, or too large.
use Rattle.model.specs.Reading.{digit}
use Rattle.reader.proofs.Pieces.{number_fits, number_big}
use Rattle.reader.proofs.numbers.number_at.Goals as goal

pub returns : goal.returns
returns c =
    let told = c.in-Some.ensures in
    number_fits c.args.rest.now c.run_len-len.result c.requires (c.run_len-len.ensures.longest digit (λ b r e. e)) c.in-Some.value told.0 told.1

pub returns-in_default : goal.returns-in_default
returns-in_default c = number_big c.args.rest.now c.run_len-len.result c.requires (c.run_len-len.ensures.longest digit (λ b r e. e)) c.in_default.ensures
