-- Comments, a byte at a time.
use Rattle.std.proofs.Common.{◌≡◌, ℕ, ◌+◌, ◌<◌, ◌≤◌, List, ◌∷◌, length, get_or, drop, refl, add-one, drop_of_length-le, drop-cons, eq-eqb, ne_eqb}
use Rattle.model.specs.Reading.{unclosed, skip, comment}

module _ (text : List ℕ) (p : ℕ) (h : p < length text) where
  one : drop p text ≡ get_or text p 0 ∷ drop (p + 1) text
  one = rw add-one (drop-cons text p 0 h)

  pub comment_on : (o : ℕ) → (get_or text p 0 ≡ 125 → ⊥) → comment o p (drop p text) ≡ comment o (p + 1) (drop (p + 1) text)
  comment_on o ne = rw one (rw (ne_eqb _ 125 ne, comment) (rw add-one refl))

  pub comment_end : (o : ℕ) → get_or text p 0 ≡ 125 → comment o p (drop p text) ≡ skip (p + 1) (drop (p + 1) text)
  comment_end o is = rw one (rw (eq-eqb _ 125 is, comment) (rw add-one refl))

pub comment_out : (text : List ℕ) (p o : ℕ) → length text ≤ p → comment o p (drop p text) ≡ unclosed o
comment_out text p o h = rw (drop_of_length-le text h) refl
