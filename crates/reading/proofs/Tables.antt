-- Entries of a table, and what is picked from it.
use Rattle.std.proofs.Common.{◌≡◌, ℕ, Bool, true, false, not, ◌&&◌, ◌⊎◌, List, [], ◌∷◌, ◌++◌, Decides, sym, refl, ap, ◌∙◌, subst₂, inl, inr, ⊎_elim}
use mathlib.Core.Option.{Option, none, some, some-injective, none-ne-some}
use borrow.Author.Tests.{not-true}
use Rattle.std.proofs.lemmas.Slice.Eq.{compares_Decides}
use Rattle.std.proofs.lemmas.Bool.{and_parts}
use Rattle.model.specs.Reading.{same, pick}
use Rattle.reading.specs.Spelling.{Entry, this, later}

-- ── the same bytes ──────────────────────────────────────────────────────────────────────────

pub decides : (xs ys : List ℕ) → Decides (same xs ys) (xs ≡ ys)
decides =
    compares_Decides same (
    record { empty = refl; shorter = λ y ys. refl; longer = λ x xs. refl; heads = λ x y xs ys. refl }
    )

-- ── what holds of every entry ───────────────────────────────────────────────────────────────

abbrev pub every : {A : Type 0} → (List ℕ → Bool) → List (List ℕ × A) → Bool
every f [] = true
every f (e ∷ es) = f e.0 && every f es

pub an_entry_passes :
    {A : Type 0} (f : List ℕ → Bool) {s : List ℕ} {a : A} {es : List (List ℕ × A)} →
    Entry s a es → every f es ≡ true → f s ≡ true
an_entry_passes f {s} (this {es}) h = (and_parts (f s) (every f es) h).0
an_entry_passes f (later {e} {es} i) h = an_entry_passes f i (and_parts (f e.0) (every f es) h).1

-- no key stands twice
abbrev pub distinct : {A : Type 0} → List (List ℕ × A) → Bool
distinct [] = true
distinct (e ∷ es) = every (λ k. not (same k e.0)) es && distinct es

-- ── what is picked ──────────────────────────────────────────────────────────────────────────

module _ {A : Type 0} (s : List ℕ) where
  abbrev first_or : Bool → A → Option A → Option A
  first_or b a o = elim b [ true ↦ some a | false ↦ o ]

  pub the_listed_is_picked :
      {a : A} (es : List (List ℕ × A)) → distinct es ≡ true → Entry s a es → pick same s es ≡ some a
  the_listed_is_picked [] d i = elim i [ ]
  the_listed_is_picked {a} (_ ∷ es) d this = ap (λ b. first_or b a (pick same s es)) ((decides s s).1 refl)
  the_listed_is_picked (e ∷ es) d (later i) =
      let p = and_parts (every (λ k. not (same k e.0)) es) (distinct es) d in
      ap (λ b. first_or b e.1 (pick same s es))
      (not-true (same s e.0) (an_entry_passes (λ k. not (same k e.0)) i p.0))
      ∙ the_listed_is_picked es p.1 i

  pub the_picked_is_listed : (a : A) (es : List (List ℕ × A)) → pick same s es ≡ some a → Entry s a es
  the_picked_is_listed a [] h = absurd (none-ne-some a h)
  the_picked_is_listed a (e ∷ es) h = by_test (λ i. the_picked_is_listed a es i) (same s e.0) refl h
    where
      by_test :
          (pick same s es ≡ some a → Entry s a es) → (b : Bool) → same s e.0 ≡ b →
          first_or b e.1 (pick same s es) ≡ some a → Entry s a (e ∷ es)
      by_test further true q i =
          subst₂ (λ k x. Entry s a ((k, x) ∷ es)) ((decides s e.0).0 q) (sym (some-injective e.1 a i)) this
      by_test further false q i = later (further i)

  pub the_listed_are_not_passed_over : {a : A} (es : List (List ℕ × A)) → Entry s a es → pick same s es ≡ none → ⊥
  the_listed_are_not_passed_over [] i h = elim i [ ]
  the_listed_are_not_passed_over {a} (_ ∷ es) this h =
      none-ne-some a (sym h ∙ ap (λ b. first_or b a (pick same s es)) ((decides s s).1 refl))
  the_listed_are_not_passed_over (e ∷ es) (later i) h =
      by_test (λ q. the_listed_are_not_passed_over es i q) (same s e.0) h
    where
      by_test : (pick same s es ≡ none → ⊥) → (b : Bool) → first_or b e.1 (pick same s es) ≡ none → ⊥
      by_test further true q = none-ne-some e.1 (sym q)
      by_test further false q = further q

-- ── two tables ──────────────────────────────────────────────────────────────────────────────

module _ {A : Type 0} {s : List ℕ} {a : A} where
  pub in_one_of_two : (xs ys : List (List ℕ × A)) → Entry s a (xs ++ ys) → Entry s a xs ⊎ Entry s a ys
  in_one_of_two [] ys i = inr i
  in_one_of_two (x ∷ xs) ys this = inl this
  in_one_of_two (x ∷ xs) ys (later i) = ⊎_elim (λ e. inl (later e)) (λ e. inr e) (in_one_of_two xs ys i)

  pub in_the_first : (xs ys : List (List ℕ × A)) → Entry s a xs → Entry s a (xs ++ ys)
  in_the_first [] ys i = elim i [ ]
  in_the_first (x ∷ xs) ys this = this
  in_the_first (x ∷ xs) ys (later i) = later (in_the_first xs ys i)

  pub in_the_second : (xs ys : List (List ℕ × A)) → Entry s a ys → Entry s a (xs ++ ys)
  in_the_second [] ys i = i
  in_the_second (x ∷ xs) ys i = later (in_the_second xs ys i)
