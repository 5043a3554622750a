-- A choice by a test, once the answer is known.
use Rattle.std.proofs.Common.{◌≡◌, Bool, true, false, ap}

abbrev pub choose : {A : Type 0} → Bool → A → A → A
choose b x y = elim b [ true ↦ x | false ↦ y ]

pub choose_true : {A : Type 0} {b : Bool} (x y : A) → b ≡ true → choose b x y ≡ x
choose_true x y e = ap (λ (c : Bool). choose c x y) e

pub choose_false : {A : Type 0} {b : Bool} (x y : A) → b ≡ false → choose b x y ≡ y
choose_false x y e = ap (λ (c : Bool). choose c x y) e
