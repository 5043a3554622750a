-- Values in fives of bytes: reading one where it stands, and writing one behind the others.
use Rattle.std.proofs.Common.{◌≡◌, ℕ, zero, suc, ◌+◌, ◌*◌, ◌/◌, ◌%◌, ◌<◌, ◌≤◌, List, [], ◌∷◌, ◌++◌, length, get_or, take, drop, ℤ, sym, refl, ap, ◌∙◌, arith, rules, w32, SFits, to_z, of_z}
use native.Mathlib.Nat.{div-div-eq-div-mul}
use Rattle.std.proofs.lemmas.List.{drop-drop, length-take-le, places}
use Rattle.std.proofs.lemmas.Slice.{drop-put_mid, take-put_mid}
use borrow.Rule.Slice.PartMut.{put_mid}
use Rattle.std.proofs.lemmas.Int.{to_z-of_z, ints}
use Rattle.std.proofs.lemmas.Bool.{eq-eqb}
use Rattle.host.specs.Tapes.{four_of, value_of, tape_of, values_of, fives_of}

-- where a tape begins with 86, the four bytes behind it are the first value
first_marked : (t : List ℕ) → 5 ≤ length t → get_or t 0 0 ≡ 86 → values_of t ≡ value_of (get_or t 1 0) (get_or t 2 0) (get_or t 3 0) (get_or t 4 0) ∷ values_of (drop 5 t)
first_marked [] h x = absurd (omega arith)
first_marked (m ∷ []) h x = absurd (omega arith)
first_marked (m ∷ a ∷ []) h x = absurd (omega arith)
first_marked (m ∷ a ∷ b ∷ []) h x = absurd (omega arith)
first_marked (m ∷ a ∷ b ∷ c ∷ []) h x = absurd (omega arith)
first_marked (m ∷ a ∷ b ∷ c ∷ d ∷ rest) h x = let e = eq-eqb m 86 x in rw e

-- past n values of s, the tape t begins with 86, and v is its first value
pub next_marked : (s t : List ℕ) (n : ℕ) (v : ℤ) → t ≡ drop (5 * n) s → 5 ≤ length t → get_or t 0 0 ≡ 86 → v ≡ value_of (get_or t 1 0) (get_or t 2 0) (get_or t 3 0) (get_or t 4 0) → values_of (drop (5 * n) s) ≡ v ∷ values_of (drop (5 * (n + 1)) s)
next_marked s t n v e h m r =
    let k : 5 * n + 5 ≡ 5 * (n + 1) = omega arith in
    let rest : drop 5 t ≡ drop (5 * (n + 1)) s = ap (drop 5) e ∙ drop-drop 5 (5 * n) s ∙ ap (λ j. drop j s) k in
    ap values_of (sym e) ∙ first_marked t h m ∙ ap (λ w. w ∷ values_of (drop 5 t)) (sym r) ∙ ap (λ ys. v ∷ values_of ys) rest

-- the bytes of a number make it up again
four_bytes : (o : ℕ) → o < 4294967296 → o / 16777216 % 256 * 16777216 + o / 65536 % 256 * 65536 + o / 256 % 256 * 256 + o % 256 ≡ o
four_bytes o l =
    let p : o / 65536 ≡ o / 256 / 256 = sym (div-div-eq-div-mul o 256 256) in
    let q : o / 16777216 ≡ o / 65536 / 256 = sym (div-div-eq-div-mul o 65536 256) in
    let x : o ≡ 256 * (o / 256) + o % 256 = omega arith in
    let y : o / 256 ≡ 256 * (o / 65536) + o / 256 % 256 = rw p (omega arith) in
    let z : o / 65536 ≡ 256 * (o / 16777216) + o / 65536 % 256 = rw q (omega arith) in
    let t : o / 16777216 % 256 ≡ o / 16777216 = omega arith in
    omega (arith, x, y, z, t)

-- the mark and the bytes of a value are read as that value
fives_of_one : (v : ℤ) → SFits w32 v → fives_of (86 ∷ four_of v) ≡ v ∷ []
fives_of_one v f =
    let l : of_z w32 v < 4294967296 = omega (arith, ints) in
    ap (λ x. x ∷ []) (ap (to_z w32) (four_bytes (of_z w32 v) l) ∙ to_z-of_z w32 v f)

-- bytes behind whole fives are read on their own
fives_append : (xs ys : List ℕ) (n : ℕ) → length xs ≡ 5 * n → fives_of (xs ++ ys) ≡ fives_of xs ++ fives_of ys
fives_append [] ys n h = refl
fives_append (m ∷ []) ys n h = absurd (omega arith)
fives_append (m ∷ a ∷ []) ys n h = absurd (omega arith)
fives_append (m ∷ a ∷ b ∷ []) ys n h = absurd (omega arith)
fives_append (m ∷ a ∷ b ∷ c ∷ []) ys n h = absurd (omega arith)
fives_append (m ∷ a ∷ b ∷ c ∷ d ∷ rest) ys zero h = absurd (omega arith)
fives_append (m ∷ a ∷ b ∷ c ∷ d ∷ rest) ys (suc n) h = ap (λ zs. value_of a b c d ∷ zs) (fives_append rest ys n (omega arith))

tape_append : (vs ws : List ℤ) → tape_of (vs ++ ws) ≡ tape_of vs ++ tape_of ws
tape_append [] ws = refl
tape_append (v ∷ vs) ws = ap (λ zs. 86 ∷ (four_of v ++ zs)) (tape_append vs ws)

-- on a tape of values each five is marked, so none is passed over
pub tape_values : (vs : List ℤ) → values_of (tape_of vs) ≡ fives_of (tape_of vs)
tape_values [] = refl
tape_values (v ∷ vs) = rw (tape_values vs)

-- a sink with n values, and five bytes written behind them: the mark and the bytes of v
abbrev pub one_more : List ℕ → ℕ → ℕ → List ℕ → List ℕ
one_more xs n k ys = put_mid (5 * n) k xs ys

pub length_one_more : (xs : List ℕ) (n k : ℕ) (ys : List ℕ) → n < length xs / 5 → k ≡ 5 → length ys ≡ 5 → length (one_more xs n k ys) ≡ length xs
length_one_more xs n k ys h e l = search (rules, places)

pub drop_one_more : (xs : List ℕ) (n k : ℕ) (ys : List ℕ) → n < length xs / 5 → k ≡ 5 → length ys ≡ 5 → drop (5 * (n + 1)) (one_more xs n k ys) ≡ drop (5 * (n + 1)) xs
drop_one_more xs n k ys h e l = drop-put_mid (5 * n) k xs ys (5 * (n + 1)) (omega arith) (omega arith) (l ∙ sym e)

take_one_more : (xs : List ℕ) (n k : ℕ) (ys : List ℕ) (v : ℤ) → n < length xs / 5 → ys ≡ 86 ∷ four_of v → take (5 * (n + 1)) (one_more xs n k ys) ≡ take (5 * n) xs ++ (86 ∷ four_of v)
take_one_more xs n k ys v h e =
    let l : length ys ≡ 5 = ap length e in
    take-put_mid (5 * n) k xs ys (5 * (n + 1)) (omega arith) (omega arith) ∙ ap (λ zs. take (5 * n) xs ++ zs) e

pub fives_one_more : (xs : List ℕ) (n k : ℕ) (ys : List ℕ) (v : ℤ) → SFits w32 v → n < length xs / 5 → ys ≡ 86 ∷ four_of v → fives_of (take (5 * (n + 1)) (one_more xs n k ys)) ≡ fives_of (take (5 * n) xs) ++ (v ∷ [])
fives_one_more xs n k ys v f h e =
    let l = length-take-le (5 * n) xs (omega arith) in
    ap fives_of (take_one_more xs n k ys v h e) ∙ fives_append (take (5 * n) xs) (86 ∷ four_of v) n l ∙ ap (λ vs. fives_of (take (5 * n) xs) ++ vs) (fives_of_one v f)

pub marked_one_more : (xs : List ℕ) (n k : ℕ) (ys : List ℕ) (v : ℤ) → SFits w32 v → n < length xs / 5 → ys ≡ 86 ∷ four_of v → take (5 * n) xs ≡ tape_of (fives_of (take (5 * n) xs)) → take (5 * (n + 1)) (one_more xs n k ys) ≡ tape_of (fives_of (take (5 * (n + 1)) (one_more xs n k ys)))
marked_one_more xs n k ys v f h e m =
    let vs = fives_of (take (5 * n) xs) in
    take_one_more xs n k ys v h e ∙ ap (λ zs. zs ++ (86 ∷ four_of v)) m ∙ sym (tape_append vs (v ∷ [])) ∙ ap tape_of (sym (fives_one_more xs n k ys v f h e))
