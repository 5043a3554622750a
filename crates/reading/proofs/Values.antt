-- What digits are worth, counted on from the left, is the sum of their values by place.
use Rattle.std.proofs.Common.{◌≡◌, ℕ, ◌+◌, ◌-◌, ◌*◌, List, [], ◌∷◌, length, ◌∙◌, ap₂, mul_assoc, mul_comm, mul-add, arith}
use Rattle.model.specs.Reading.{worth}
use Rattle.reading.specs.Spelling.{tens, value}

ten_times : (n d t v : ℕ) → (n * 10 + d) * t + v ≡ n * (10 * t) + (d * t + v)
ten_times n d t v =
    let a : (n * 10 + d) * t ≡ n * (10 * t) + d * t =
    mul_comm (n * 10 + d) t ∙ mul-add t (n * 10) d
    ∙ ap₂ (λ x y. x + y) (mul_comm t (n * 10) ∙ mul_assoc n 10 t) (mul_comm t d) in
    omega (arith, a)

worth_by_place : (n : ℕ) (ds : List ℕ) → worth n ds ≡ n * tens (length ds) + value ds
worth_by_place n [] = omega arith
worth_by_place n (d ∷ ds) = worth_by_place (n * 10 + (d - 48)) ds ∙ ten_times n (d - 48) (tens (length ds)) (value ds)

pub worth_is_value : (ds : List ℕ) → worth 0 ds ≡ value ds
worth_is_value ds = worth_by_place 0 ds ∙ omega arith
