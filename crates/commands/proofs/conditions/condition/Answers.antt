-- An expression of truth, and the word behind it.
use Rattle.std.proofs.Common.{sym, refl}
use Rattle.std.proofs.lemmas.Result.{err_from_is_err_and}
use Rattle.commands.proofs.Testing.{test_refused, test_misfits, test_strays, test_ends}
use Rattle.commands.proofs.conditions.condition.Goals as goal

pub returns-in_err-ty-clause-says : goal.returns-in_err-ty-clause-says
returns-in_err-ty-clause-says c =
    let q = err_from_is_err_and c.from_residual.result c.from_residual.ensures.1 in
    rw (q.1, q.2) (λ w p n os es is d st. test_refused c.args.translation.now c.args.inside w p n os es d st _ _ c.in_err-ty.ensures)

pub returns-then-is_inteiro-clause-says : goal.returns-then-is_inteiro-clause-says
returns-then-is_inteiro-clause-says c =
    λ w p n os es is d st. test_misfits c.args.translation.now c.args.inside w p n os es d st c.in_ok-ty.ensures (sym c.if-is_inteiro.ensures) _ c.wrong.ensures

pub returns-then-not-is_word-clause-says : goal.returns-then-not-is_word-clause-says
returns-then-not-is_word-clause-says c =
    λ w p n os es is d st. test_strays c.args.translation.now c.args.inside w p n os es d st c.in_ok-ty.ensures (sym c.if-is_inteiro.ensures) c.args.word is (sym c.if-not-is_word.ensures) _ c.unexpected.ensures

pub returns-clause-says : goal.returns-clause-says
returns-clause-says c =
    λ w p n os es is d st. test_ends c.args.translation.now c.args.inside w p n os es d st c.in_ok-ty.ensures (sym c.if-is_inteiro.ensures) c.args.word is (sym c.if-not-is_word.ensures) _ refl _ c.advance.ensures
