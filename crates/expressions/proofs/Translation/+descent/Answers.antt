-- Each way through the ring, by the lemma of its turn.
use Rattle.std.proofs.Common.{◌≡◌, true, false, Ok, Err, sym, refl, ap, arith}
use Rattle.model.specs.declared.tokens.Sign.TheVariants as Signs
use Rattle.model.specs.Tree.{negated, denied}
use Rattle.model.specs.Types.{is_inteiro}
use Rattle.model.specs.Settling.{settle_factor}
use Rattle.model.specs.Code.{of_exp, plain}
use Rattle.model.specs.Codes.{INV, NEG}
use Rattle.cursor.specs.Rests.{ahead_of, place_of}
use Rattle.scopes.specs.Levels.{laid_of_all}
use Rattle.expressions.specs.Parts.{expression, simple, factor, growing, whole}
use Rattle.expressions.specs.Rows.{row_of}
use Rattle.expressions.proofs.Tokens.{sign_there}
use Rattle.expressions.proofs.Chains.{moved, kept_ahead}
use Rattle.expressions.proofs.Joining.{in_row, in_expression, operator_breaks, right_refused, joins}
use Rattle.expressions.proofs.Opening.{told, sign_within, bracket_within, denial_within, sign_misfits, plus_fits, minus_fits, inner_refused, inner_misfits, inner_fits, behind_tree, bracket_open, bracket_breaks, bracket_closed, refused_alike, term_begins, expression_begins, simple_begins, row_ends, expression_ends}
use Rattle.expressions.proofs.Translation.+descent.Goals as goal

-- ── expressions ─────────────────────────────────────────────────────────────────────────────

pub expression-returns-in_err-left : goal.expression-returns-in_err-left
expression-returns-in_err-left t c =
    told _ _ c.from_residual.ensures.1 (refused_alike (whole expression) (expression_begins _ c.in_err-left.ensures))

pub expression-returns-in_default : goal.expression-returns-in_default
expression-returns-in_default t c = expression_ends (expression_begins _ c.in_ok-left.ensures) c.in_default.ensures

pub expression-returns-in_err-advance : goal.expression-returns-in_err-advance
expression-returns-in_err-advance t c =
    told _ _ c.from_residual-in_err-advance.ensures.1 (operator_breaks in_expression (expression_begins _ c.in_ok-left.ensures) c.in-Some.operator c.in-Some.ensures (whole expression) _ _ (kept_ahead refl refl refl) c.in_err-advance.ensures)

pub expression-returns-in_err-right : goal.expression-returns-in_err-right
expression-returns-in_err-right t c =
    told _ _ c.from_residual-in_err-right.ensures.1 (right_refused in_expression (expression_begins _ c.in_ok-left.ensures) c.in-Some.operator c.in-Some.ensures (moved c.row.new.self c.advance.new.self c.in_ok-advance.ensures) (whole expression) _ _ c.in_err-right.ensures)

pub expression-returns : goal.expression-returns
expression-returns t c =
    joins in_expression (expression_begins _ c.in_ok-left.ensures) c.in-Some.operator c.in-Some.ensures (moved c.row.new.self c.advance.new.self c.in_ok-advance.ensures) c.in_ok-right.ensures _ c.entry_place-place.ensures _ c.join.ensures.still c.join.ensures.kept c.join.result c.join.ensures.joins

-- ── rows ────────────────────────────────────────────────────────────────────────────────────

pub row-returns-in_err-advance : goal.row-returns-in_err-advance
row-returns-in_err-advance t c =
    told _ _ c.from_residual-in_err-advance.ensures.1 (operator_breaks (in_row c.args.row) c.loop-operator.invariant c.in-Some.operator c.in-Some.ensures (whole (row_of c.args.row)) _ _ (kept_ahead refl refl refl) c.in_err-advance.ensures)

pub row-returns-in_err-right : goal.row-returns-in_err-right
row-returns-in_err-right t c =
    told _ _ c.from_residual-in_err-right.ensures.1 (right_refused (in_row c.args.row) c.loop-operator.invariant c.in-Some.operator c.in-Some.ensures (moved c.loop-operator.self c.advance.new.self c.in_ok-advance.ensures) (whole (row_of c.args.row)) _ _ c.in_err-right.ensures)

pub row-returns-in_err-left-2 : goal.row-returns-in_err-left-2
row-returns-in_err-left-2 t c =
    let q = c.in_err-left-2.ensures in
    told _ _ c.from_residual-in_err-left-2.ensures.1 (refused_alike (whole (row_of c.args.row)) (joins (in_row c.args.row) c.loop-operator.invariant c.in-Some.operator c.in-Some.ensures (moved c.loop-operator.self c.advance.new.self c.in_ok-advance.ensures) c.in_ok-right.ensures _ c.entry_place-place.ensures _ q.still q.kept (Err _) q.joins))

pub row-loop-operator-preserved : goal.row-loop-operator-preserved
row-loop-operator-preserved t c =
    let q = c.in_ok-left-2.ensures in
    joins (in_row c.args.row) c.loop-operator.invariant c.in-Some.operator c.in-Some.ensures (moved c.loop-operator.self c.advance.new.self c.in_ok-advance.ensures) c.in_ok-right.ensures _ c.entry_place-place.ensures _ q.still q.kept (Ok _) q.joins

pub row-returns : goal.row-returns
row-returns t c = row_ends c.args.row c.loop-operator.invariant c.in_default.ensures

pub first-returns-in-Factors : goal.first-returns-in-Factors
first-returns-in-Factors t c = rw c.in-Factors.is (term_begins _ c.factor.ensures)

-- ── signs ───────────────────────────────────────────────────────────────────────────────────

pub lead-returns : goal.lead-returns
lead-returns t c = simple_begins c.args.self.now (sym c.if-is_sign.ensures) (sym c.if-is_sign-2.ensures) _ c.row.ensures

pub signed-returns-in_err-ty : goal.signed-returns-in_err-ty
signed-returns-in_err-ty t c =
    let w = sign_within c.args.sign c.requires.one c.args.self.now c.args.depth c.requires.is c.advance.new.self c.in_ok-advance.ensures in
    told _ _ c.from_residual-in_err-ty.ensures.1 (inner_refused w (growing simple) _ _ c.in_err-ty.ensures)

pub signed-returns-then-not-is_inteiro : goal.signed-returns-then-not-is_inteiro
signed-returns-then-not-is_inteiro t c =
    let b = c.args.self.now in
    let w = sign_within c.args.sign c.requires.one c.args.self.now c.args.depth c.requires.is c.advance.new.self c.in_ok-advance.ensures in
    inner_misfits w c.in_ok-ty.ensures (growing simple) (
    λ x k. sign_misfits (place_of b.cursor.now) x c.in_ok-ty.ty k (ahead_of c.row.new.self.cursor.now) c.args.sign c.requires.one (sym c.if-not-is_inteiro.ensures)) _ c.wrong.ensures

pub signed-returns-then-eq : goal.signed-returns-then-eq
signed-returns-then-eq t c =
    let b = c.args.self.now in
    let w = sign_within c.args.sign c.requires.one c.args.self.now c.args.depth c.requires.is c.advance.new.self c.in_ok-advance.ensures in
    let minus : c.args.sign ≡ Signs.Minus = grind arith in
    inner_fits w c.in_ok-ty.ensures (growing simple) (negated (place_of b.cursor.now)) _ c.lay.ensures.still c.lay.ensures.kept (
    λ os es x low l. behind_tree _ es (of_exp (laid_of_all os) x) _ _ (ap (plain INV) (c.entry_place-place.ensures low)) (c.lay.ensures.lists _ l)) (
    λ x k. minus_fits (place_of b.cursor.now) x c.in_ok-ty.ty k (ahead_of c.row.new.self.cursor.now) c.args.sign minus (sym c.if-not-is_inteiro.ensures))

pub signed-returns-else-eq : goal.signed-returns-else-eq
signed-returns-else-eq t c =
    let b = c.args.self.now in
    let w = sign_within c.args.sign c.requires.one c.args.self.now c.args.depth c.requires.is c.advance.new.self c.in_ok-advance.ensures in
    let plus : c.args.sign ≡ Signs.Plus = grind arith in
    inner_fits w c.in_ok-ty.ensures (growing simple) (λ x. x) _ refl (kept_ahead refl refl refl) (λ os es x low l. l) (
    λ x k. plus_fits (place_of b.cursor.now) x c.in_ok-ty.ty k (ahead_of c.row.new.self.cursor.now) c.args.sign plus (sym c.if-not-is_inteiro.ensures))

-- ── factors ─────────────────────────────────────────────────────────────────────────────────

pub factor-returns-in-Some-Name : goal.factor-returns-in-Some-Name
factor-returns-in-Some-Name t c = c.use_of.ensures c.args.depth

pub factor-returns-in-Some-Number : goal.factor-returns-in-Some-Number
factor-returns-in-Some-Number t c = c.constant.ensures c.args.depth

pub factor-returns-in-Some-Word-Verdadeiro : goal.factor-returns-in-Some-Word-Verdadeiro
factor-returns-in-Some-Word-Verdadeiro t c = c.constant-in-Some-Word-Verdadeiro.ensures c.args.depth

pub factor-returns-in-Some-Word-Falso : goal.factor-returns-in-Some-Word-Falso
factor-returns-in-Some-Word-Falso t c = c.constant-in-Some-Word-Falso.ensures c.args.depth

-- ── brackets and `nao` ──────────────────────────────────────────────────────────────────────

pub denial-returns-in_err-ty : goal.denial-returns-in_err-ty
denial-returns-in_err-ty t c =
    let w = denial_within c.args.self.now c.args.depth c.if-depth-ge-DEEPEST.false c.requires c.advance.new.self c.in_ok-advance.ensures in
    told _ _ c.from_residual-in_err-ty.ensures.1 (inner_refused w (whole factor) _ _ c.in_err-ty.ensures)

pub denial-returns-then-is_inteiro : goal.denial-returns-then-is_inteiro
denial-returns-then-is_inteiro t c =
    let w = denial_within c.args.self.now c.args.depth c.if-depth-ge-DEEPEST.false c.requires c.advance.new.self c.in_ok-advance.ensures in
    let g : is_inteiro c.in_ok-ty.ty ≡ true = sym c.if-is_inteiro.ensures in
    inner_misfits w c.in_ok-ty.ensures (whole factor) (λ x k. rw (g, settle_factor) refl) _ c.wrong.ensures

pub denial-returns : goal.denial-returns
denial-returns t c =
    let b = c.args.self.now in
    let w = denial_within c.args.self.now c.args.depth c.if-depth-ge-DEEPEST.false c.requires c.advance.new.self c.in_ok-advance.ensures in
    let g : is_inteiro c.in_ok-ty.ty ≡ false = sym c.if-is_inteiro.ensures in
    inner_fits w c.in_ok-ty.ensures (whole factor) (denied (place_of b.cursor.now)) _ c.lay.ensures.still c.lay.ensures.kept (
    λ os es x low l. behind_tree _ es (of_exp (laid_of_all os) x) _ _ (ap (plain NEG) (c.entry_place-place.ensures low)) (c.lay.ensures.lists _ l)) (λ x k. rw (g, settle_factor) refl)

pub bracket-returns-in_err-ty : goal.bracket-returns-in_err-ty
bracket-returns-in_err-ty t c =
    let w = bracket_within c.args.self.now c.args.depth c.if-depth-ge-DEEPEST.false c.requires c.advance.new.self c.in_ok-advance.ensures in
    told _ _ c.from_residual-in_err-ty.ensures.1 (inner_refused w (whole factor) _ _ c.in_err-ty.ensures)

pub bracket-returns-then-not-is_sign : goal.bracket-returns-then-not-is_sign
bracket-returns-then-not-is_sign t c =
    let w = bracket_within c.args.self.now c.args.depth c.if-depth-ge-DEEPEST.false c.requires c.advance.new.self c.in_ok-advance.ensures in
    bracket_open w c.in_ok-ty.ensures (sym c.if-not-is_sign.ensures) _ c.unexpected.ensures

pub bracket-returns-in_err-advance-2 : goal.bracket-returns-in_err-advance-2
bracket-returns-in_err-advance-2 t c =
    let w = bracket_within c.args.self.now c.args.depth c.if-depth-ge-DEEPEST.false c.requires c.advance.new.self c.in_ok-advance.ensures in
    let i = sym c.if-not-is_sign.ensures in
    told _ _ c.from_residual-in_err-advance-2.ensures.1 (bracket_breaks w c.in_ok-ty.ensures (sign_there Signs.CloseBracket refl _ i) i _ _ (kept_ahead refl refl refl) c.in_err-advance-2.ensures)

pub bracket-returns : goal.bracket-returns
bracket-returns t c =
    let w = bracket_within c.args.self.now c.args.depth c.if-depth-ge-DEEPEST.false c.requires c.advance.new.self c.in_ok-advance.ensures in
    let i = sym c.if-not-is_sign.ensures in
    bracket_closed w c.in_ok-ty.ensures (sign_there Signs.CloseBracket refl _ i) i (moved c.expression.new.self c.advance-2.new.self c.in_ok-advance-2.ensures)
