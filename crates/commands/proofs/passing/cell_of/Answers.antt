-- Which variable a name stands for.
use Rattle.std.proofs.Common.{◌≡◌, refl, ap, ◌∙◌, arith}
use Rattle.model.specs.declared.faults.Cause.TheVariants as Causes
use Rattle.model.specs.declared.faults.MeaningFault.TheVariants.{WrongKind}
use Rattle.model.specs.declared.names.NameKind.TheVariants.{Variable}
use Rattle.model.specs.declared.script.Ty.TheVariants.{Inteiro}
use Rattle.model.specs.Tokens
use Rattle.model.specs.Names.{a_variable, visible}
use Rattle.model.specs.Settling.{at}
use Rattle.cursor.specs.Rests.{place_of}
use Rattle.expressions.specs.Says.{here, scopes_at, laid_at}
use Rattle.expressions.proofs.Uses.{variable_seen}
use Rattle.commands.specs.Runs.{names}
use Rattle.commands.proofs.Coming.{begun, then_halts}
use Rattle.commands.proofs.Values.{sees, sees_no_cell}
use Rattle.commands.proofs.passing.cell_of.Goals as goal
use Rattle.commands.proofs.passing.cell_of.Goals.{in_default-kind-via-in-Variable+else-is_inteiro, in_default-kind-via-in_default-kind}

pub returns-in-Variable : goal.returns-in-Variable
returns-in-Variable c =
    let b = c.args.translation.now in
    let s = c.args.name.now in
    let i : c.in-Variable.ty ≡ Inteiro = grind arith in
    λ w p n os es st.
    let a = here b n os es in
    let v = variable_seen (laid_at a) b.listing.now.over c.in-Some.known c.look_up.result (visible s (scopes_at a)) (c.look_up.ensures.matches b.listing.now.over os st.holds st.calm) c.in-Some.is Inteiro (c.in-Variable.is ∙ ap Variable i) in
    record { found = record { hops = v.hops; index = v.index }; is = v.cell; token = Tokens.name s; ahead = c.requires; shifts = λ room k. sees room (scopes_at a) s (place_of b.cursor.now) p k w (record { kind = a_variable Inteiro v.index; hops = v.hops; inside = v.inside }) v.is }

pub returns-in_default-kind : goal.returns-in_default-kind
returns-in_default-kind c =
    let b = c.args.translation.now in
    let s = c.args.name.now in
    let none : c.in-Some.known.kind ≡ Variable Inteiro → ⊥ = λ e. elim c.in_default-kind.branch [ in_default-kind-via-in-Variable+else-is_inteiro v ↦ let x = v.in-Variable in let y = v.if-is_inteiro in grind arith | in_default-kind-via-in_default-kind v ↦ let x = v.in_default-kind in grind arith ] in
    λ w p n os es st.
    let a = here b n os es in
    then_halts (begun (λ k t. at (names w p k)) a) (Tokens.name s) c.requires (names w p) (λ k. refl) (Causes.Meaning WrongKind) (λ room k. sees_no_cell room (scopes_at a) s (place_of b.cursor.now) p k w (laid_at a) b.listing.now.over c.look_up.result _ (c.look_up.ensures.matches b.listing.now.over os st.holds st.calm) refl c.in-Some.known c.in-Some.is none) _ c.wrong-in_default-kind.ensures.0 c.wrong-in_default-kind.ensures.1
