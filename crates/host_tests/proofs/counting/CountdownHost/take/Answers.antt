-- The next number is the first that waits.
use Rattle.std.proofs.Common.{◌≡◌, ℕ, zero, suc, ◌-◌, ◌≤◌, ◌∷◌, pos, refl, arith, rules}
use Rattle.host_tests.specs.Counting.{down_from}
use Rattle.host_tests.proofs.counting.CountdownHost.take.Goals as goal

down_from_more : (n : ℕ) → (n ≡ 0 → ⊥) → down_from n ≡ pos n ∷ down_from (n - 1)
down_from_more zero h = absurd (h refl)
down_from_more (suc n) h = let e : suc n - 1 ≡ n = omega arith in rw e

pub returns : goal.returns
returns c =
    let some : 1 ≤ c.args.self.now.next = search rules in
    let e = down_from_more c.args.self.now.next (λ z. omega arith) in
    search rules
