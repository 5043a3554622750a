-- A value put is written into the sink's first free place, and past it the sink holds what it held.
use Rattle.std.proofs.Common.{◌+◌, arith}
use Rattle.std.proofs.lemmas.List.{length-set, drop-set-lt}
use Rattle.std.proofs.lemmas.Int.{to_z-of_z}
use Rattle.host.proofs.Fronts.{over_longer_front}
use Rattle.host.proofs.lists.ListHostHost.put.Goals as goal

pub returns-clause-stays : goal.returns-clause-stays
returns-clause-stays c k p =
    let h = c.args.self.now in
    let s = h.sink.now in
    let n = h.filled in
    let v = c.args.value in
    let f = c.ranges.value in
    record {
      memory = p.memory;
      reads = p.reads;
      holds = rw to_z-of_z (over_longer_front k.sink.now s _ n (n + 1) (omega arith) (omega arith) (length-set s n v) (drop-set-lt (n + 1) s n v (omega arith)) p.holds);
      counts = p.counts;
    }
