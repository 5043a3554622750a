-- One turn passes one value more.
use Rattle.std.proofs.Common.{ap, ◌∙◌, add-one}
use Rattle.host_tests.specs.Passing.{passed}
use Rattle.host_tests.proofs.passing.pass_many.Goals as goal

pub loop-i-preserved : goal.loop-i-preserved
loop-i-preserved g c =
    let was = c.loop-i.invariant in
    let did = c.pass_one.ensures in
    (rw add-one (did.after ∙ ap passed was.0), λ h p. did.stays h (was.1 h p))
