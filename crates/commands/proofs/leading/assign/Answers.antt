-- From `:=` on.
use Rattle.std.proofs.Common.{◌≡◌, true, false, arith}
use Rattle.std.proofs.lemmas.Result.{err_from_is_err_and}
use Rattle.model.specs.Types.{same_type}
use Rattle.expressions.proofs.Chains.{moved}
use Rattle.commands.proofs.Setting.{value_refused, value_misfits, value_set}
use Rattle.commands.proofs.leading.assign.Goals as goal

pub returns-in_err-value-clause-says : goal.returns-in_err-value-clause-says
returns-in_err-value-clause-says c =
    let p = err_from_is_err_and c.from_residual-in_err-value.result c.from_residual-in_err-value.ensures.1 in
    rw (p.1, p.2) (λ f os es st e. value_refused (moved c.args.translation.now c.advance.new.self c.in_ok-advance.ensures) c.requires c.args.depth c.args.place c.args.ty f os es st _ _ c.in_err-value.ensures)

pub returns-then-ne-clause-says : goal.returns-then-ne-clause-says
returns-then-ne-clause-says c =
    let g : same_type c.in_ok-value.value c.args.ty ≡ false = grind arith in
    λ f os es st e. value_misfits (moved c.args.translation.now c.advance.new.self c.in_ok-advance.ensures) c.requires c.args.depth c.args.place c.args.ty f os es st c.in_ok-value.ensures g _ c.wrong.ensures

pub returns-clause-says : goal.returns-clause-says
returns-clause-says c =
    let g : same_type c.in_ok-value.value c.args.ty ≡ true = grind arith in
    λ f os es st e.
    value_set (moved c.args.translation.now c.advance.new.self c.in_ok-advance.ensures) c.requires c.args.depth c.args.place c.args.ty f os es st c.in_ok-value.ensures g _ c.lay.ensures.still c.args.cell e c.lay.ensures.lists
