-- The records of a group get their type.
use Rattle.std.proofs.Common.{◌≡◌, ℕ, List, [], ◌∷◌, ◌++◌, map, reverse, length, take, drop, sym, refl, ap, ◌∙◌, arith, length-append, length-drop, length-take}
use Rattle.std.proofs.lemmas.List.{map-append, length-map, reverse-append}
use Rattle.pile.specs.declared.Pile.{Pile}
use Rattle.pile.specs.Piles.{memory, front, fill_of, Updated}
use Rattle.scopes.specs.declared.names.Name.{Name}
use Rattle.scopes.proofs.Counting.{newer_part, older_part}

module _ (p q : Pile Name) (from : ℕ) (g : Name → Name) (u : Updated p from g q) where
  pub same_room : length (memory q) ≡ length (memory p)
  same_room =
      ap length u.2 ∙ omega (
        arith,
        ap length u.1,
        length-append (front q) (drop (fill_of p) (memory p)),
        length-append (take from (front p)) (map g (drop from (front p))),
        length-map (drop from (front p)) g,
        length-take from (front p),
        length-drop from (front p),
        length-take p.fill (memory p),
        length-drop (fill_of p) (memory p),
      )

  reversed : (ys : List Name) → reverse (map g ys) ≡ map g (reverse ys)
  reversed [] = refl
  reversed (y ∷ ys) =
      reverse-append (map g (y ∷ [])) (map g ys) ∙ ap (λ zs. zs ++ (g y ∷ [])) (reversed ys) ∙ sym (map-append g (reverse ys) (y ∷ [])) ∙ ap (map g) (sym (reverse-append (y ∷ []) ys))

  pub newest_made : (new old : List Name) → reverse (front p) ≡ new ++ old → from ≡ length old → reverse (front q) ≡ map g new ++ old
  newest_made new old r l =
      ap reverse u.1 ∙ reverse-append (take from (front p)) (map g (drop from (front p)))
      ∙ ap (λ ys. ys ++ reverse (take from (front p))) (reversed (drop from (front p)) ∙ ap (map g) (newer_part (front p) new old from r l))
      ∙ ap (λ ys. map g new ++ ys) (older_part (front p) new old from r l)
