-- Every call carries the promise.
use mathlib.Core.Path.{◌≡◌, refl, sym, subst}
use mathlib.Core.List.{List, [], ◌∷◌, ◌++◌}
use Prim.Native.Nat.{ℕ, suc}
use native.Mathlib.Omega.{arith}
use Rattle.model.specs.Promise.{Kept, History, one_more, set_up, over, Lent, ComesToo}
use Rattle.model.specs.Calls.{after, World, Call, translate, start, advance}
use Rattle.model.specs.Person.{by_hand}
use Rattle.promise.specs.Carried.{PromisedBy, Carries, Carried}
use Rattle.promise.specs.InUse.{in_use, in_use_after}
use Rattle.faithful.proofs.Lockstep.Program.{steps}
use Rattle.promise.proofs.Invariant.{Between}
use Rattle.promise.proofs.Histories.{between, between_next}
use Rattle.promise.proofs.Promised.{comes_too, kept}

over_one_more : (cs : List Call) (c : Call) (h : History) → over (cs ++ c ∷ []) h ≡ one_more (over cs h) c
over_one_more [] c h = refl
over_one_more (d ∷ cs) c h = over_one_more cs c (one_more h d)

-- no call changes how much memory there is, so what is lent to a call that was met is lent from the set-up
lent_from_set_up : (w : World) (u : ℕ) (h : History) (c : Call) → Between w u h → Lent h.world c → Lent w c
lent_from_set_up w u h (translate text k j) i le = (omega (arith, le.0, i.tables), omega (arith, le.1, i.names))
lent_from_set_up w u h (start k c) i le = (omega (arith, le.0, i.tables), omega (arith, le.1, i.cells))
lent_from_set_up w u h (advance k c n) i le = (omega (arith, le.0, i.tables), omega (arith, le.1, i.cells), le.2)

-- what follows from the invariant is carried by every call
pub carries : (P : History → Type 0) → ((w : World) (u : ℕ) (h : History) → Between w u h → P h) →
    (met : World) (c : Call) → Carries P met c
carries P gives met c w cs e le is lent =
    let h : History = over cs (set_up w) in
    let u : ℕ = in_use cs (set_up w) 0 in
    let i : Between w u h = between w cs e le in
    let lent1 : Lent w c = lent_from_set_up w u h c i (subst (λ m. Lent m c) (sym is) lent) in
    subst P (sym (over_one_more cs c (set_up w))) (gives w (in_use_after c (after c h.world).answer u)
    (one_more h c) (between_next w u h c i lent1))

pub promised_by : (met : World) (c : Call) → PromisedBy met c
promised_by met c =
    record {
      kept = carries Kept kept met c;
      comes = λ b first t co.
          let n : ℕ = suc (steps b first t) in
          (n, carries (ComesToo b first (by_hand b first t) n) (comes_too b first t co) met c);
    }

pub carried : Carried
carried =
    record {
      each = promised_by;
      fixed = λ b first t co.
          let n : ℕ = suc (steps b first t) in
          (n, carries (ComesToo b first (by_hand b first t) n) (comes_too b first t co));
    }
