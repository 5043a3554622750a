-- The bytes of the text that the record names.
use Rattle.std.proofs.Common.{◌+◌, min, length, ap, ◌∙◌}
use Rattle.std.proofs.lemmas.Slice.Eq.{slice_eq-Decides}
use Rattle.std.proofs.lemmas.Bool.Decides.{Decides-eqb}
use Rattle.model.specs.Reading.{same}
use Rattle.reader.proofs.Spelling.{tested}
use Rattle.scopes.proofs.Scanning.{within}
use Rattle.scopes.proofs.finding.is_spelled.Goals as goal

pub returns : goal.returns
returns c =
    let text = c.args.text.now in
    let known = c.args.known.now in
    let e =
    within text known.place known.length c.min-from.result c.min-to.result (c.min-from.ensures ∙ ap (min (length text)) c.from.ensures)
    (c.min-to.ensures ∙ ap (λ n. min (length text) (c.min-from.result + n)) c.from-2.ensures) in
    tested c.args.name.now _ c.eq.result (slice_eq-Decides Decides-eqb c.args.name.now _ c.eq.result c.eq.ensures) ∙ ap (same c.args.name.now) e
