-- The rule of the byte-class table holds at every entry, by one test that is computed over all of them.
use Rattle.std.proofs.Common.{◌≡◌, ℕ, zero, suc, ◌+◌, ◌<◌, Bool, true, false, ◌&&◌, T, eqb, List, [], ◌∷◌, length, get_or, sym, refl, ◌∙◌, subst, le_of_suc-le-suc, not-suc-le-zero, add-zero, add-suc, suc-add, zero-add}
use Rattle.model.specs.Reading.{blank, letter, digit}
use Rattle.reader.specs.Classes.{is_blank, is_brace, is_letter, is_digit, Classed, alike, right, every}
use Rattle.reader.specs.declared.classes.Class.{Class}

both_left : (a b : Bool) → T (a && b) → T a
both_left true b t = tt
both_left false b t = t

both_right : (a b : Bool) → T (a && b) → T b
both_right true b t = t
both_right false b t = absurd t

module _ {A : Type 0} where
  from : (f : ℕ → A → Bool) (xs : List A) (d : A) (i : ℕ) → T (every f i xs) → (k : ℕ) → k < length xs → T (f (i + k) (get_or xs k d))
  from f [] d i t k h = absurd (not-suc-le-zero h)
  from f (x ∷ xs) d i t zero h = subst (λ (m : ℕ). T (f m x)) (sym (add-zero i)) (both_left (f i x) (every f (suc i) xs) t)
  from f (x ∷ xs) d i t (suc k) h =
      subst (λ (m : ℕ). T (f m (get_or xs k d))) (suc-add i k ∙ sym (add-suc i k))
      (from f xs d (suc i) (both_right (f i x) (every f (suc i) xs) t) k (le_of_suc-le-suc h))

  pub at : (f : ℕ → A → Bool) (xs : List A) (d : A) → T (every f 0 xs) → (k : ℕ) → k < length xs → T (f k (get_or xs k d))
  at f xs d t k h = subst (λ (m : ℕ). T (f m (get_or xs k d))) (zero-add k) (from f xs d 0 t k h)

alike_is : (a b : Bool) → T (alike a b) → a ≡ b
alike_is true true t = refl
alike_is true false t = absurd t
alike_is false true t = absurd t
alike_is false false t = refl

pub classed : (b : ℕ) (c : Class) → T (right b c) → Classed b c
classed b c t =
    let t1 = both_right (alike (blank b) (is_blank c)) _ t in
    let t2 = both_right (alike (eqb b 123) (is_brace c)) _ t1 in
    let t3 = both_right (alike (letter b) (is_letter c)) _ t2 in
    record {
      blanks = alike_is _ _ (both_left _ _ t);
      braces = alike_is _ _ (both_left _ _ t1);
      letters = alike_is _ _ (both_left _ _ t2);
      digits = alike_is _ _ (both_left _ _ t3);
      names = alike_is _ _ (both_right (alike (digit b) (is_digit c)) _ t3);
    }
