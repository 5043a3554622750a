-- What the instructions without operands do, they do at the current entry.
use Rattle.std.proofs.Common.{rules}
use Rattle.model.specs.Codes.{START}
use Rattle.model.specs.Machine.{two}
use Rattle.model.specs.Values.{invert, deny}
use Rattle.machine.specs.Ops.{instruction}
use Rattle.machine.proofs.Steps.{instruction_two, done_steps}
use Rattle.machine.proofs.run.perform.Goals as goal

pub returns-in-Start-clause-does : goal.returns-in-Start-clause-does
returns-in-Start-clause-does g c =
    rw c.in-Start.is (done_steps (instruction START) _ _ _ c.args.now.entries _ c.args.now.entry.now _ _ (c.start.ensures c.args.now.entry.now) c.onward.ensures)

pub returns-in-Both-clause-does : goal.returns-in-Both-clause-does
returns-in-Both-clause-does g c =
    rw (c.in-Both.is, instruction_two c.in-Both.o) (done_steps (two c.in-Both.o) _ _ _ c.args.now.entries _ c.args.now.entry.now _ _ (c.both.ensures c.args.now.entry.now) c.onward-in-Both.ensures)

pub returns-in-Inv-clause-does : goal.returns-in-Inv-clause-does
returns-in-Inv-clause-does g c = let does = c.alter.ensures c.args.now.entry.now invert in search rules

pub returns-in-Neg-clause-does : goal.returns-in-Neg-clause-does
returns-in-Neg-clause-does g c = let does = c.alter-in-Neg.ensures c.args.now.entry.now deny in search rules

pub returns-in-Rd-clause-does : goal.returns-in-Rd-clause-does
returns-in-Rd-clause-does g c = let does = c.read.ensures.does c.args.now.entry.now in search rules

pub returns-in-Prn-clause-does : goal.returns-in-Prn-clause-does
returns-in-Prn-clause-does g c = let does = c.print.ensures.does c.args.now.entry.now in search rules

pub returns-in-Jmp-clause-does : goal.returns-in-Jmp-clause-does
returns-in-Jmp-clause-does g c = let does = c.jump.ensures c.args.cells.now in search rules
