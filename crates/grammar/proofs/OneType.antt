-- Types that a test finds the same are the same, and what operators take and yield.
use Rattle.std.proofs.Common.{◌≡◌, true, sym, refl, ap, ◌∙◌, subst, subst₂, true≢false}
use Rattle.model.specs.declared.script.Ty.{Ty}
use Rattle.model.specs.declared.script.Operator.{Operator}
use Rattle.model.specs.declared.script.Operator.TheVariants as Operators
use Rattle.model.specs.declared.script.Ty.TheVariants.{Inteiro, Booleano}
use Rattle.model.specs.Tokens.{Token}
use Rattle.model.specs.Types.{same_type, takes, alike, fitting, Takes, giving, numbers, truths}
use Rattle.model.specs.Grammar.{g}
use Rattle.grammar.specs.Operators.{Compares, equal, unequal, less, at_most, greater, at_least, Fits, of_add, of_sub}
use Rattle.grammar.specs.Operators.{of_mult, of_divi, of_and, of_or, of_equal, of_unequal, of_less, of_at_most}
use Rattle.grammar.specs.Operators.{of_greater, of_at_least, TypesTold}

pub a_type_is_itself : (y : Ty) → same_type y y ≡ true
a_type_is_itself Inteiro = refl
a_type_is_itself Booleano = refl

pub found_same : (y z : Ty) → same_type y z ≡ true → y ≡ z
found_same Inteiro Inteiro e = refl
found_same Inteiro Booleano e = absurd (true≢false (sym e))
found_same Booleano Inteiro e = absurd (true≢false (sym e))
found_same Booleano Booleano e = refl

comparing_takes_alike : {t : Token} {o : Operator} → Compares t o → takes o ≡ alike
comparing_takes_alike equal = refl
comparing_takes_alike unequal = refl
comparing_takes_alike less = refl
comparing_takes_alike at_most = refl
comparing_takes_alike greater = refl
comparing_takes_alike at_least = refl

module _ {t : Token} {o : Operator} (c : Compares t o) where
  pub one_type_compares : (y : Ty) → fitting (takes o) y y ≡ true
  one_type_compares y = ap (λ (a : Takes). fitting a y y) (comparing_takes_alike c) ∙ a_type_is_itself y

  pub compared_are_one_type : (y z : Ty) → fitting (takes o) y z ≡ true → y ≡ z
  compared_are_one_type y z e =
      found_same y z (sym (ap (λ (a : Takes). fitting a y z) (comparing_takes_alike c)) ∙ e)

  pub comparing_gives_booleano : giving (takes o) ≡ Booleano
  comparing_gives_booleano = ap giving (comparing_takes_alike c)

-- ── every operator ──────────────────────────────────────────────────────────────────────────

numbers_are_inteiro : (y z : Ty) → fitting numbers y z ≡ true → (y ≡ Inteiro) × (z ≡ Inteiro)
numbers_are_inteiro Inteiro Inteiro e = (refl, refl)
numbers_are_inteiro Inteiro Booleano e = absurd (true≢false (sym e))
numbers_are_inteiro Booleano Inteiro e = absurd (true≢false (sym e))
numbers_are_inteiro Booleano Booleano e = absurd (true≢false (sym e))

truths_are_booleano : (y z : Ty) → fitting truths y z ≡ true → (y ≡ Booleano) × (z ≡ Booleano)
truths_are_booleano Inteiro Inteiro e = absurd (true≢false (sym e))
truths_are_booleano Inteiro Booleano e = absurd (true≢false (sym e))
truths_are_booleano Booleano Inteiro e = absurd (true≢false (sym e))
truths_are_booleano Booleano Booleano e = (refl, refl)

module _ {o : Operator} {y z v : Ty} where
  on_numbers : Fits o Inteiro Inteiro Inteiro → fitting numbers y z ≡ true → Inteiro ≡ v → Fits o y z v
  on_numbers f e g =
      let a = numbers_are_inteiro y z e in
      subst (λ u. Fits o y z u) g (subst₂ (λ u x. Fits o u x Inteiro) (sym a.0) (sym a.1) f)

  on_truths : Fits o Booleano Booleano Booleano → fitting truths y z ≡ true → Booleano ≡ v → Fits o y z v
  on_truths f e g =
      let a = truths_are_booleano y z e in
      subst (λ u. Fits o y z u) g (subst₂ (λ u x. Fits o u x Booleano) (sym a.0) (sym a.1) f)

  on_one_type : Fits o y y Booleano → fitting alike y z ≡ true → Booleano ≡ v → Fits o y z v
  on_one_type f e g = subst₂ (λ x u. Fits o y x u) (found_same y z e) g f

what_fits : (o : Operator) (y z v : Ty) → fitting (takes o) y z ≡ true → giving (takes o) ≡ v → Fits o y z v
what_fits Operators.Add y z v e g = on_numbers of_add e g
what_fits Operators.Sub y z v e g = on_numbers of_sub e g
what_fits Operators.Mult y z v e g = on_numbers of_mult e g
what_fits Operators.Divi y z v e g = on_numbers of_divi e g
what_fits Operators.And y z v e g = on_truths of_and e g
what_fits Operators.Or y z v e g = on_truths of_or e g
what_fits Operators.Equal y z v e g = on_one_type (of_equal y) e g
what_fits Operators.Unequal y z v e g = on_one_type (of_unequal y) e g
what_fits Operators.Less y z v e g = on_one_type (of_less y) e g
what_fits Operators.AtMost y z v e g = on_one_type (of_at_most y) e g
what_fits Operators.Greater y z v e g = on_one_type (of_greater y) e g
what_fits Operators.AtLeast y z v e g = on_one_type (of_at_least y) e g

fits_so : {o : Operator} {y z v : Ty} → Fits o y z v → (fitting (takes o) y z ≡ true) × (giving (takes o) ≡ v)
fits_so of_add = (refl, refl)
fits_so of_sub = (refl, refl)
fits_so of_mult = (refl, refl)
fits_so of_divi = (refl, refl)
fits_so of_and = (refl, refl)
fits_so of_or = (refl, refl)
fits_so (of_equal y) = (a_type_is_itself y, refl)
fits_so (of_unequal y) = (a_type_is_itself y, refl)
fits_so (of_less y) = (a_type_is_itself y, refl)
fits_so (of_at_most y) = (a_type_is_itself y, refl)
fits_so (of_greater y) = (a_type_is_itself y, refl)
fits_so (of_at_least y) = (a_type_is_itself y, refl)

pub types_told : TypesTold
types_told o y z v = (λ e. what_fits o y z v e.0 e.1, fits_so)
