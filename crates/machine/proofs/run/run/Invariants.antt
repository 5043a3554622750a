-- What is left of the budget, from here, tells and leaves what the whole budget does from the start.
use Rattle.std.proofs.Common.{◌≡◌, ◌-◌}
use Rattle.host.specs.Meaning.{Stays}
use Rattle.pile.specs.Piles.{SameLoan}
use Rattle.model.specs.Machine.{run}
use Rattle.machine.specs.Carried.{machine_of, reachable}
use Rattle.machine.proofs.run.run.Given as goal

abbrev pub invariant-loop-steps : goal.invariant-loop-steps
invariant-loop-steps g l =
    (run (l.budget - l.steps) (reachable l.table) l.steps (machine_of l.cells l.at) (g.H.Host.meaning l.host)
    ≡ run l.budget (reachable l.table) 0 (machine_of l.initial.cells l.initial.at) (g.H.Host.meaning l.initial.host))
    × SameLoan l.initial.cells l.cells × Stays g.H.Host.since l.initial.host l.host
