-- A bracket, the variable, and the bracket that closes.
use Rattle.std.proofs.Common.{sym, refl}
use Rattle.std.proofs.lemmas.Result.{err_from_is_err_and}
use Rattle.model.specs.declared.tokens.Sign.TheVariants as Signs
use Rattle.cursor.specs.Rests.{ahead_of}
use Rattle.expressions.proofs.Tokens.{sign_there}
use Rattle.expressions.proofs.Chains.{ahead_by, moved, kept_then, kept_moved, further_then, further_moved, place_fits, stands_moved}
use Rattle.commands.proofs.Values.{cell_refused, cell_breaks, bracket_open, bracket_breaks, bracket_closed}
use Rattle.commands.proofs.passing.bracketed.Goals as goal

pub returns-in_err-cell-clause-says : goal.returns-in_err-cell-clause-says
returns-in_err-cell-clause-says c =
    let z = err_from_is_err_and c.from_residual-in_err-cell.result c.from_residual-in_err-cell.ensures.1 in
    let v = moved c.args.translation.now c.advance.new.self c.in_ok-advance.ensures in
    rw (z.1, z.2) (λ w p n os es st. cell_refused v (sym c.if-not-is_sign.ensures) w p n os es _ (c.in_err-cell.ensures.says w p n os es (stands_moved st n v)))

pub returns-in_err-advance-2-clause-says : goal.returns-in_err-advance-2-clause-says
returns-in_err-advance-2-clause-says c =
    let z = err_from_is_err_and c.from_residual-in_err-advance-2.result c.from_residual-in_err-advance-2.ensures.1 in
    let v = moved c.args.translation.now c.advance.new.self c.in_ok-advance.ensures in
    rw (z.1, z.2) (λ w p n os es st. cell_breaks v (sym c.if-not-is_sign.ensures) w p n os es _ (c.in_ok-cell.ensures.says w p n os es (stands_moved st n v)) _ c.in_err-advance-2.ensures)

pub returns-then-not-is_sign-2-clause-says : goal.returns-then-not-is_sign-2-clause-says
returns-then-not-is_sign-2-clause-says c =
    let v = moved c.args.translation.now c.advance.new.self c.in_ok-advance.ensures in
    λ w p n os es st.
    bracket_open v (sym c.if-not-is_sign.ensures) w p n os es _ (c.in_ok-cell.ensures.says w p n os es (stands_moved st n v)) (moved (ahead_by c.args.translation.now c.advance.new.self) c.advance-2.new.self c.in_ok-advance-2.ensures) (sym c.if-not-is_sign-2.ensures) _ c.unexpected-then-not-is_sign-2.ensures

pub returns-in_err-advance-3-clause-says : goal.returns-in_err-advance-3-clause-says
returns-in_err-advance-3-clause-says c =
    let z = err_from_is_err_and c.from_residual-in_err-advance-3.result c.from_residual-in_err-advance-3.ensures.1 in
    let v = moved c.args.translation.now c.advance.new.self c.in_ok-advance.ensures in
    rw (z.1, z.2) (λ w p n os es st.
    bracket_breaks v (sym c.if-not-is_sign.ensures) w p n os es _ (c.in_ok-cell.ensures.says w p n os es (stands_moved st n v)) (moved (ahead_by c.args.translation.now c.advance.new.self) c.advance-2.new.self c.in_ok-advance-2.ensures) (sym c.if-not-is_sign-2.ensures) _ c.in_err-advance-3.ensures)

pub returns-clause-says : goal.returns-clause-says
returns-clause-says c =
    let v = moved c.args.translation.now c.advance.new.self c.in_ok-advance.ensures in
    λ w p n os es st.
    let s = stands_moved st n v in
    bracket_closed v (sym c.if-not-is_sign.ensures) w p n os es _ (c.in_ok-cell.ensures.says w p n os es s) (moved (ahead_by c.args.translation.now c.advance.new.self) c.advance-2.new.self c.in_ok-advance-2.ensures) (sym c.if-not-is_sign-2.ensures) _ c.in_ok-advance-3.ensures.0 _ (c.entry_place-place.ensures (place_fits s c.advance.new.self s.fine refl))

pub returns-clause-passed : goal.returns-clause-passed
returns-clause-passed c =
    let v = moved c.args.translation.now c.advance.new.self c.in_ok-advance.ensures in
    let d = ahead_by c.args.translation.now c.advance.new.self in
    let u = moved d c.advance-2.new.self c.in_ok-advance-2.ensures in
    let t = moved (ahead_by d c.advance-2.new.self) c.advance-3.new.self c.in_ok-advance-3.ensures in
    let o = sign_there Signs.OpenBracket refl (ahead_of c.args.translation.now.cursor.now) (sym c.if-not-is_sign.ensures) in
    let q = sign_there Signs.CloseBracket refl (ahead_of c.advance-2.new.self) (sym c.if-not-is_sign-2.ensures) in
    let there = c.in_ok-cell.ensures.there in
    record {
      went = further_then (further_moved o v) (further_then (further_moved (record { token = there.token; is = there.is }) u) (further_moved q t));
      kept = kept_then (kept_moved v) (kept_then (kept_moved u) (kept_moved t));
    }
