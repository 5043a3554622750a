-- After i turns a value was passed i times, and what stays of the host has stayed.
use Rattle.std.proofs.Common.{◌≡◌}
use Rattle.host.specs.Meaning.{Stays}
use Rattle.host_tests.specs.Passing.{passed_times}
use Rattle.host_tests.proofs.passing.pass_many.Given as goal

abbrev pub invariant-loop-i : goal.invariant-loop-i
invariant-loop-i g l =
    (g.H.Host.meaning l.host ≡ passed_times l._i (g.H.Host.meaning l.initial.host))
    × Stays g.H.Host.since l.initial.host l.host
