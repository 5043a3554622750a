-- A host as it is counts as a later moment of itself: where a run over a list host or a tape host begins.
use Rattle.std.proofs.Common.{◌*◌, refl}
use Rattle.host.specs.Lists.{ListSince}
use Rattle.host.specs.Tapes.{TapeSince}
use Rattle.host.specs.declared.lists.ListHost.{ListHost}
use Rattle.host.specs.declared.tapes.TapeHost.{TapeHost}
use Rattle.host.proofs.Fronts.{over_own_front}

pub list_since_itself : (h : ListHost) → ListSince h h
list_since_itself h = record { memory = refl; reads = refl; holds = over_own_front h.filled h.sink.now; counts = refl }

pub tape_since_itself : (h : TapeHost) → TapeSince h h
tape_since_itself h =
    record { memory = refl; reads = refl; holds = over_own_front (5 * h.filled) h.sink.now; marks = λ m. m; counts = refl }
