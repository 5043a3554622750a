-- What stays of any host is, of a tape host, what it keeps since it was lent.
use Rattle.host.proofs.Selves.{tape_since_itself}
use Rattle.host_tests.proofs.passing.pass_on.Goals as goal

pub returns : goal.returns
returns c =
    let did = c.pass_many.ensures in
    record { after = did.after; stays = did.stays c.args.host.now (tape_since_itself c.args.host.now) }
