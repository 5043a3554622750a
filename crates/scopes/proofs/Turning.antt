-- What the calls of a pile do to its elements, newest first.
use Rattle.std.proofs.Common.{◌≡◌, ℕ, ◌≤◌, reverse, length, take, Ok, Err, Result, ap, ◌∙◌, arith, length-take, MatchResult}
use Rattle.std.proofs.lemmas.List.{length-reverse}
use Rattle.pile.specs.declared.Pile.{Pile}
use Rattle.pile.specs.declared.Refusal.{Refusal}
use Rattle.pile.specs.Piles.{memory, front, fill_of, Shortened, TooLow}
use Rattle.scopes.specs.declared.names.Name.{Name}

pub as_filled : (p : Pile Name) → length (reverse (front p)) ≡ fill_of p
as_filled p = length-reverse (front p) ∙ length-take p.fill (memory p)

pub cut_back : (p q : Pile Name) (n : ℕ) (r : Result (Unit {0}) Refusal) → MatchResult r (λ _. Shortened p n q) (λ e. TooLow p n e q) →
    n ≤ length (reverse (front p)) → reverse (front q) ≡ reverse (take n (front p))
cut_back p q n (Ok u) y h = ap reverse y.2
cut_back p q n (Err e) y h = absurd (omega (arith, as_filled p, y.0))
