-- Each turn keeps what the whole budget tells and leaves.
use Rattle.std.proofs.Common.{sym, ◌∙◌}
use Rattle.machine.specs.Carried.{reachable}
use Rattle.machine.proofs.Turns.{turn_goes, turn_halts, turn_stops}
use Rattle.machine.proofs.run.run.Goals as goal

pub returns-in-Ok-Halts : goal.returns-in-Ok-Halts
returns-in-Ok-Halts g c =
    let l = c.loop-steps in
    let s = c.go.new in
    let told =
    turn_halts (reachable c.args.table.now) _ c.args.budget l.steps l.cells s.cells l.at (g.H.Host.meaning l.host) (g.H.Host.meaning s.host) c.in-Ok-Halts.field-0 c.loop-steps-test.true c.reached-code.ensures.all c.in-Ok-Halts.field-0-is c.in-Ok-Halts.ensures.does in
    record {
      does = (sym l.invariant.0 ∙ told.0, told.1 ∙ l.invariant.1);
      stays = λ h since. c.go.ensures.stays h (l.invariant.2 h since);
    }

pub returns-in-Err : goal.returns-in-Err
returns-in-Err g c =
    let l = c.loop-steps in
    let s = c.go.new in
    let told =
    turn_stops (reachable c.args.table.now) _ c.args.budget l.steps l.cells s.cells l.at (g.H.Host.meaning l.host) (g.H.Host.meaning s.host) c.in-Err.fault c.place_of-place.result c.loop-steps-test.true c.reached-code.ensures.all c.place_of-place.ensures c.in-Err.ensures.does in
    record {
      does = (sym l.invariant.0 ∙ told.0, told.1 ∙ l.invariant.1);
      stays = λ h since. c.go.ensures.stays h (l.invariant.2 h since);
    }

pub loop-steps-preserved : goal.loop-steps-preserved
loop-steps-preserved g c =
    let l = c.loop-steps in
    let s = c.go.new in
    let left =
    turn_goes (reachable c.args.table.now) _ c.args.budget l.steps l.cells s.cells l.at c.in-Ok-Goes.to (g.H.Host.meaning l.host) (g.H.Host.meaning s.host) c.in-Ok-Goes.field-0 c.loop-steps-test.true c.reached-code.ensures.all c.in-Ok-Goes.field-0-is c.in-Ok-Goes.ensures.does in (
      sym left.0 ∙ l.invariant.0,
      left.1 ∙ l.invariant.1,
      λ h since. c.go.ensures.stays h (l.invariant.2 h since),
    )
