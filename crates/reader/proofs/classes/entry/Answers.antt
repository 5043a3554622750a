-- A test that passes at every entry passes at this one.
use Rattle.std.proofs.Common.{◌<◌, arith, rules}
use Rattle.reader.specs.Classes.{right}
use Rattle.reader.specs.declared.classes.Class.TheVariants.{Blank}
use Rattle.reader.proofs.Table.{at, classed}
use Rattle.reader.proofs.classes.entry.Goals as goal

pub returns : goal.returns
returns c =
    let small : c.args.b < 256 = search rules in
    classed c.args.b _ (at right c.args.table.now Blank c.requires c.args.b (omega arith))
