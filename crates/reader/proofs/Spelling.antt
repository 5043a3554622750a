-- Reserved words by their length.
use Rattle.std.proofs.Common.{◌≡◌, sym, ℕ, Bool, true, false, ◌&&◌, cond, eqb, List, [], ◌∷◌, length, map, filter, Some, Bor, Decides, refl, ap, ◌∙◌, ⊎_elim, rules, eq-eqb}
use mathlib.Core.Option.{Option, some}
use borrow.Author.Tests.{both_ways}
use Rattle.std.proofs.lemmas.Slice.Eq.{compares_Decides}
use Rattle.std.proofs.lemmas.Bool.{cases_Bool}
use Rattle.std.specs.Cmp.Lexicographic.{pointwise}
use Rattle.std.specs.List.{find}
use Rattle.std.specs.Option.{option_map}
use Rattle.model.specs.declared.tokens.Word.{Word}
use Rattle.model.specs.Reading.{same, pick, words}
use Rattle.reader.specs.Pieces.{found}

decides : (xs ys : List ℕ) → Decides (same xs ys) (xs ≡ ys)
decides = compares_Decides same (record { empty = refl; shorter = λ y ys. refl; longer = λ x xs. refl; heads = λ x y xs ys. refl })

pub tested : (xs ys : List ℕ) (r : Bool) → Decides r (xs ≡ ys) → r ≡ same xs ys
tested xs ys r h = search (rules, decides)

apart : (s w : List ℕ) → eqb (length s) (length w) ≡ false → same s w ≡ false
apart s w h = ⊎_elim (λ y. absurd (both_ways _ h (eq-eqb _ _ (ap length ((decides s w).0 y))))) (λ n. n) (cases_Bool (same s w))

-- a word of another length is not the name
by_length : (s : List ℕ) (ws : List (List ℕ × Word)) → pick same s (filter (λ w. eqb (length s) (length w.0)) ws) ≡ pick same s ws
by_length s [] = refl
by_length s (e ∷ ws) =
    ⊎_elim
    (λ (y : eqb (length s) (length e.0) ≡ true). rw (y, filter) (ap (λ r. elim (same s e.0) [ true ↦ some e.1 | false ↦ r ]) (by_length s ws)))
    (λ (n : eqb (length s) (length e.0) ≡ false). rw (n, filter) (rw (apart s e.0 n, pick) (by_length s ws)))
    (cases_Bool (eqb (length s) (length e.0)))

same_eq : (xs ys : List ℕ) → pointwise eqb xs ys ≡ same xs ys
same_eq [] [] = refl
same_eq [] (y ∷ ys) = refl
same_eq (x ∷ xs) [] = refl
same_eq (x ∷ xs) (y ∷ ys) = ap (λ t. eqb x y && t) (same_eq xs ys)

-- the first choice that is spelled so
pub by_choice : (s : List ℕ) (es : List (Bor (List ℕ) × Word)) → found (option_map (λ e. e.1) (find (λ e. pointwise eqb s e.0.now) es)) ≡ pick same s (map (λ e. (e.0.now, e.1)) es)
by_choice s [] = refl
by_choice s (e ∷ es) =
    rw same_eq (elim (same s e.0.now) as (λ t. found (option_map (λ e. e.1) (cond t (Some e) (find (λ e. pointwise eqb s e.0.now) es))) ≡ elim t [ true ↦ some e.1 | false ↦ pick same s (map (λ e. (e.0.now, e.1)) es) ]) [
      | true ↦ refl
      | false ↦ by_choice s es
    ])

pub by_size : (s : List ℕ) (n : ℕ) (r : Option Word) → r ≡ pick same s (filter (λ w. eqb n (length w.0)) words) → length s ≡ n → r ≡ pick same s words
by_size s n r h e = h ∙ ap (λ k. pick same s (filter (λ w. eqb k (length w.0)) words)) (sym e) ∙ by_length s words
