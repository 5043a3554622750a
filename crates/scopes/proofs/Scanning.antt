-- The newest record that is spelled so, and the bytes that a record names.
use Rattle.std.proofs.Common.{◌≡◌, ℕ, min, ◌-◌, ◌+◌, true, false, List, [], ◌∷◌, length, take, drop, refl, ⊎_elim, arith, rules}
use Rattle.std.specs.List.{find}
use Rattle.std.proofs.lemmas.Bool.{cases_Bool}
use Rattle.std.proofs.lemmas.List.{same_lists, places}
use Rattle.model.specs.Reading.{same}
use Rattle.scopes.specs.declared.names.Name.{Name}
use Rattle.scopes.specs.Records.{spelling, newest}

-- the first record that passes the test is the newest
pub found_newest : (text s : List ℕ) (ns : List Name) → find (λ n. same s (spelling text n)) ns ≡ newest text s ns
found_newest text s [] = refl
found_newest text s (n ∷ ns) =
    ⊎_elim
    (λ y. let g : same s (spelling text n) ≡ true = y in rw (g, newest, find) refl)
    (λ y. let g : same s (spelling text n) ≡ false = y in rw (g, newest, find) (found_newest text s ns))
    (cases_Bool (same s (spelling text n)))

-- a part of a text, cut where the text ends
pub within : (text : List ℕ) (place len from to : ℕ) → from ≡ min (length text) place → to ≡ min (length text) (from + len) → take (to - from) (drop from text) ≡ take len (drop place text)
within text place len from to f t = same_lists _ _ (search (rules, places)) (λ k d g. grind (arith, places))
