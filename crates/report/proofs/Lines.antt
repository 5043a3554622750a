-- Lines and columns, one byte on.
use Rattle.std.proofs.Common.{◌≡◌, ℕ, suc, ◌+◌, ◌<◌, ◌≤◌, true, false, eqb, List, [], ◌∷◌, ◌++◌, length, get_or, take, refl, ap, ◌∙◌, arith, eq-eqb, ne_eqb}
use Rattle.std.proofs.lemmas.List.{take_more, length-take}
use Rattle.report.specs.Positions.{newlines, since_newline}

newlines_snoc : (xs ys : List ℕ) → newlines (xs ++ ys) ≡ newlines xs + newlines ys
newlines_snoc [] ys = omega arith
newlines_snoc (x ∷ xs) ys =
    elim (eqb x 10) as (λ u. elim u [ true ↦ suc (newlines (xs ++ ys)) | false ↦ newlines (xs ++ ys) ] ≡ elim u [ true ↦ suc (newlines xs) | false ↦ newlines xs ] + newlines ys) [
      | true ↦ omega (arith, newlines_snoc xs ys)
      | false ↦ newlines_snoc xs ys
    ]

since_append : (k : ℕ) (xs ys : List ℕ) → since_newline k (xs ++ ys) ≡ since_newline (since_newline k xs) ys
since_append k [] ys = refl
since_append k (x ∷ xs) ys =
    elim (eqb x 10) as (λ u. elim u [ true ↦ since_newline 0 (xs ++ ys) | false ↦ since_newline (suc k) (xs ++ ys) ] ≡ since_newline (elim u [ true ↦ since_newline 0 xs | false ↦ since_newline (suc k) xs ]) ys) [
      | true ↦ since_append 0 xs ys
      | false ↦ since_append (suc k) xs ys
    ]

newlines_few : (xs : List ℕ) → newlines xs ≤ length xs
newlines_few [] = omega arith
newlines_few (x ∷ xs) =
    let h = newlines_few xs in
    elim (eqb x 10) as (λ u. elim u [ true ↦ suc (newlines xs) | false ↦ newlines xs ] ≤ suc (length xs)) [ true ↦ omega (arith, h) | false ↦ omega (arith, h) ]

since_few : (k : ℕ) (xs : List ℕ) → since_newline k xs ≤ k + length xs
since_few k [] = omega arith
since_few k (x ∷ xs) =
    let h = since_few 0 xs in
    let g = since_few (suc k) xs in
    elim (eqb x 10) as (λ u. elim u [ true ↦ since_newline 0 xs | false ↦ since_newline (suc k) xs ] ≤ k + suc (length xs)) [ true ↦ omega (arith, h) | false ↦ omega (arith, g) ]

-- a line and a column are at most the bytes before them
pub newlines_within : (text : List ℕ) (i : ℕ) → newlines (take i text) ≤ i
newlines_within text i = omega (arith, newlines_few (take i text), length-take i text)

pub since_within : (text : List ℕ) (i : ℕ) → since_newline 0 (take i text) ≤ i
since_within text i = omega (arith, since_few 0 (take i text), length-take i text)

module _ (text : List ℕ) (i : ℕ) (h : i < length text) where
  more : take (i + 1) text ≡ take i text ++ (get_or text i 0 ∷ [])
  more = take_more text i 0 h

  pub newline_here : get_or text i 0 ≡ 10 → newlines (take (i + 1) text) ≡ newlines (take i text) + 1
  newline_here is =
      ap newlines more ∙ newlines_snoc (take i text) (get_or text i 0 ∷ [])
      ∙ ap (λ b. newlines (take i text) + elim b [ true ↦ 1 | false ↦ 0 ]) (eq-eqb (get_or text i 0) 10 is)

  pub no_newline_here : (get_or text i 0 ≡ 10 → ⊥) → newlines (take (i + 1) text) ≡ newlines (take i text)
  no_newline_here not =
      ap newlines more ∙ newlines_snoc (take i text) (get_or text i 0 ∷ [])
      ∙ ap (λ b. newlines (take i text) + elim b [ true ↦ 1 | false ↦ 0 ]) (ne_eqb (get_or text i 0) 10 not) ∙ omega arith

  pub since_here : get_or text i 0 ≡ 10 → since_newline 0 (take (i + 1) text) ≡ 0
  since_here is =
      ap (since_newline 0) more ∙ since_append 0 (take i text) (get_or text i 0 ∷ [])
      ∙ ap (λ b. elim b [ true ↦ 0 | false ↦ suc (since_newline 0 (take i text)) ]) (eq-eqb (get_or text i 0) 10 is)

  pub since_on : (get_or text i 0 ≡ 10 → ⊥) → since_newline 0 (take (i + 1) text) ≡ suc (since_newline 0 (take i text))
  since_on not =
      ap (since_newline 0) more ∙ since_append 0 (take i text) (get_or text i 0 ∷ [])
      ∙ ap (λ b. elim b [ true ↦ 0 | false ↦ suc (since_newline 0 (take i text)) ]) (ne_eqb (get_or text i 0) 10 not)
