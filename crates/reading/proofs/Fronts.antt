-- The longest front of bytes that pass a test.
use Rattle.std.proofs.Common.{◌≡◌, ℕ, Bool, true, false, ◌&&◌, List, [], ◌∷◌, ◌++◌, refl, ap, ◌∙◌}
use Rattle.std.proofs.lemmas.Bool.{and_parts}
use Rattle.model.specs.Reading.{front}
use Rattle.reading.specs.Spelling.{All}

module _ (p : ℕ → Bool) where
  -- the bytes do not begin with one that passes
  abbrev pub Stops : List ℕ → Type 0
  Stops [] = Unit {0}
  Stops (b ∷ bs) = p b ≡ false

  -- the bytes behind the longest front that passes
  abbrev pub behind : List ℕ → List ℕ
  behind [] = []
  behind (b ∷ bs) = elim (p b) [ true ↦ behind bs | false ↦ b ∷ bs ]

  -- what a test of the first byte makes of the rest
  abbrev Cut : List ℕ → List ℕ → List ℕ → Type 0
  Cut bs f r = (bs ≡ f ++ r) × All p f × Stops r

  pub cut_at_front : (bs : List ℕ) → Cut bs (front p bs) (behind bs)
  cut_at_front [] = (refl, tt, tt)
  cut_at_front (b ∷ bs) = by_test (cut_at_front bs) (p b) refl
    where
      by_test :
          Cut bs (front p bs) (behind bs) → (t : Bool) → p b ≡ t →
          Cut (b ∷ bs) (elim t [ true ↦ b ∷ front p bs | false ↦ [] ]) (elim t [ true ↦ behind bs | false ↦ b ∷ bs ])
      by_test c true h = (ap (λ l. b ∷ l) c.0, (h, c.1), c.2)
      by_test c false h = (refl, tt, h)

  pub front_of_all : (s rest : List ℕ) → All p s → Stops rest → front p (s ++ rest) ≡ s
  front_of_all [] [] a e = refl
  front_of_all [] (b ∷ bs) a e = ap (λ t. elim t [ true ↦ b ∷ front p bs | false ↦ [] ]) e
  front_of_all (b ∷ s) rest a e =
      ap (λ t. elim t [ true ↦ b ∷ front p (s ++ rest) | false ↦ [] ]) a.0
      ∙ ap (λ l. b ∷ l) (front_of_all s rest a.1 e)

  pub all_and_one_more : (s : List ℕ) (b : ℕ) → All p s → p b ≡ true → All p (s ++ b ∷ [])
  all_and_one_more [] b a h = (h, tt)
  all_and_one_more (x ∷ s) b a h = (a.0, all_and_one_more s b a.1 h)

  pub all_behind : (s more : List ℕ) → All p (s ++ more) → All p more
  all_behind [] more a = a
  all_behind (b ∷ s) more a = all_behind s more a.1

  -- as a test
  abbrev pub all_pass : List ℕ → Bool
  all_pass [] = true
  all_pass (b ∷ bs) = p b && all_pass bs

  pub tested_all : (bs : List ℕ) → all_pass bs ≡ true → All p bs
  tested_all [] h = tt
  tested_all (b ∷ bs) h = let q = and_parts (p b) (all_pass bs) h in (q.0, tested_all bs q.1)
