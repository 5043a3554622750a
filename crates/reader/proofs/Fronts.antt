-- The longest front of bytes that pass a test, and what digits are worth, a byte at a time.
use Rattle.std.proofs.Common.{◌≡◌, ℕ, suc, ◌+◌, ◌-◌, ◌*◌, ◌<◌, ◌≤◌, Bool, true, false, List, [], ◌∷◌, length, get_or, take, drop, cond, refl, ap, arith, drop-cons}
use Rattle.std.specs.List.{prefix_len}
use Rattle.model.specs.Reading.{front, worth}

pub front_prefix : (p : ℕ → Bool) (xs : List ℕ) → front p xs ≡ take (prefix_len p xs) xs
front_prefix p [] = refl
front_prefix p (x ∷ xs) =
    elim (p x) as (λ t. elim t [ true ↦ x ∷ front p xs | false ↦ [] ] ≡ take (cond t (1 + prefix_len p xs) 0) (x ∷ xs)) [
      | true ↦ let e : 1 + prefix_len p xs ≡ suc (prefix_len p xs) = omega arith in rw e (ap (λ l. x ∷ l) (front_prefix p xs))
      | false ↦ refl
    ]

worth_above : (v : ℕ) (ds : List ℕ) → v ≤ worth v ds
worth_above v [] = omega arith
worth_above v (d ∷ ds) = let h = worth_above (v * 10 + (d - 48)) ds in omega arith

-- more digits never make it less
pub worth_past : (ds : List ℕ) (i v : ℕ) → i < length ds → v * 10 + (get_or ds i 0 - 48) ≤ worth v (drop i ds)
worth_past ds i v h = rw (drop-cons ds i 0 h) (worth_above (v * 10 + (get_or ds i 0 - 48)) (drop (suc i) ds))
