-- What is read behind the gap is the first step of the stream.
use Rattle.std.proofs.Common.{◌≡◌, length, Ok, ap, ◌∙◌, arith, rules}
use Rattle.std.proofs.lemmas.Slice.{between_to_end}
use Rattle.reader.specs.Pieces.{token_from, token_of}
use Rattle.reader.proofs.Streams.{first_token}
use Rattle.reader.proofs.Reader.next.Goals as goal

pub returns-clause-unfolds : goal.returns-clause-unfolds
returns-clause-unfolds c =
    let text = c.args.self.now.text.now in
    let p = c.args.self.now.at in
    let q = c.in_ok-place.place in
    let gap = c.in_ok-place.ensures in
    let is : c.token_at-read.result ≡ Ok c.in_ok-token.field-0 = search rules in
    let told = rw is at c.token_at-read.ensures in
    first_token text p q c.in_ok-token.field-0.len (token_of c.in_ok-token.field-0.token) (omega arith) gap.0 (told.is ∙ ap token_from (between_to_end text q (length text) (omega arith))) told.fits.0
