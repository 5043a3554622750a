-- A list whose front is written a piece at a time over what it held.
use Rattle.std.proofs.Common.{◌≡◌, ℕ, zero, suc, ◌+◌, ◌-◌, ◌≤◌, List, [], ◌∷◌, ◌++◌, length, take, drop, sym, refl, ap, ◌∙◌, arith}
use Rattle.std.proofs.lemmas.List.{take-append-drop, length-take-le, drop-drop, drop_at}
use Rattle.host.specs.Memory.{over}

-- writing a list's own front over it changes nothing
pub over_own_front : {A : Type 0} (n : ℕ) (xs : List A) → xs ≡ over (take n xs) xs
over_own_front zero xs = refl
over_own_front (suc n) [] = refl
over_own_front (suc n) (x ∷ xs) = ap (λ zs. x ∷ zs) (over_own_front n xs)

-- xs has a front of n written over old, and ys is xs with the front written on up to m
pub over_longer_front : {A : Type 0} (old xs ys : List A) (n m : ℕ) → n ≤ m → m ≤ length xs → length ys ≡ length xs → drop m ys ≡ drop m xs → xs ≡ over (take n xs) old → ys ≡ over (take m ys) old
over_longer_front old xs ys n m h k l d e =
    let a : length (take n xs) ≡ n = length-take-le n xs (omega arith) in
    let b : m ≡ length (take m ys) = sym (length-take-le m ys (omega arith)) in
    let j : n + (m - n) ≡ m = omega arith in
    let p : drop n xs ≡ drop n old = ap (drop n) e ∙ drop_at (take n xs) (drop (length (take n xs)) old) n a ∙ ap (λ i. drop i old) a in
    let q : drop (n + (m - n)) xs ≡ drop (n + (m - n)) old = sym (drop-drop (m - n) n xs) ∙ ap (drop (m - n)) p ∙ drop-drop (m - n) n old in
    let t : drop m xs ≡ drop m old = rw j at q in
    sym (take-append-drop m ys) ∙ ap (λ zs. take m ys ++ zs) (d ∙ t ∙ ap (λ i. drop i old) b)
