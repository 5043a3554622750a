-- A command that begins with a name.
use Rattle.std.proofs.lemmas.Result.{err_from_is_err_and}
use Rattle.expressions.proofs.Chains.{moved, further_moved, further_still, any_went, went_behind}
use Rattle.commands.proofs.Setting.{name_breaks, name_goes}
use Rattle.commands.proofs.leading.named.Goals as goal

pub returns-in_err-advance-clause-translates : goal.returns-in_err-advance-clause-translates
returns-in_err-advance-clause-translates c =
    let p = err_from_is_err_and c.from_residual.result c.from_residual.ensures.1 in
    λ i. rw (p.1, p.2) (record { says = λ os es st. name_breaks c.args.translation.now c.args.name.now i c.args.depth os es c.in-Some.is (c.look_up.ensures.matches _ os st.holds st.calm) _ c.in_err-advance.ensures; went = tt })

pub returns-then-is_sign-clause-translates : goal.returns-then-is_sign-clause-translates
returns-then-is_sign-clause-translates c =
    let v = moved c.args.translation.now c.advance.new.self c.in_ok-advance.ensures in
    λ i.
    record {
      says = λ os es st. name_goes c.args.translation.now c.args.name.now i c.args.depth os es c.in-Some.is (c.look_up.ensures.matches _ os st.holds st.calm) st v _ c.entry_place-place.ensures _ _ c.set.ensures.says;
      went = went_behind (record { token = _; is = i }) v _ c.set.result c.set.ensures.passed.went;
    }

pub returns-clause-translates : goal.returns-clause-translates
returns-clause-translates c =
    let v = moved c.args.translation.now c.advance.new.self c.in_ok-advance.ensures in
    λ i.
    record {
      says = λ os es st. name_goes c.args.translation.now c.args.name.now i c.args.depth os es c.in-Some.is (c.look_up.ensures.matches _ os st.holds st.calm) st v _ c.entry_place-place.ensures _ _ (c.invoke.ensures.says c.args.depth);
      went = any_went (further_still (further_moved (record { token = _; is = i }) v) c.invoke.ensures.still) c.invoke.result;
    }
