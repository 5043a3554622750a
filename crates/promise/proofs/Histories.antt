-- After every list of calls, from every set-up, what holds between calls holds.
use mathlib.Core.Path.{◌≡◌, refl, sym, subst}
use mathlib.Core.Bool.{true≢false}
use mathlib.Core.List.{List, [], ◌∷◌}
use mathlib.Core.Option.{none}
use Prim.Native.Nat.{ℕ}
use Rattle.model.specs.Calls.{World, empty, Call, translate, start, advance, translation, after}
use Rattle.model.specs.Promise.{History, one_more, set_up, over, Each, Lent}
use Rattle.promise.specs.InUse.{in_use_after, in_use}
use Rattle.promise.proofs.Invariant.{Between, RunnerStands}
use Rattle.promise.proofs.Advances.{advances}
use Rattle.promise.proofs.Starts.{starts}
use Rattle.promise.proofs.Translates.{translates, translation_is}

pub between_next : (w0 : World) (u : ℕ) (h : History) (c : Call) → Between w0 u h → Lent w0 c →
    Between w0 (in_use_after c (after c h.world).answer u) (one_more h c)
between_next w0 u h (translate text k j) i le =
    translates w0 u h text k j (translation text k j) i le (translation_is text k j)
between_next w0 u h (start k c) i le = starts w0 u h k c i le h.world.runner i.runner
between_next w0 u h (advance k c n) i le = advances w0 u h k c n i h.world.runner i.runner

between_over : (w0 : World) (cs : List Call) (u : ℕ) (h : History) → Between w0 u h → Each (Lent w0) cs →
    Between w0 (in_use cs h u) (over cs h)
between_over w0 [] u h i le = i
between_over w0 (c ∷ cs) u h i le =
    between_over w0 cs (in_use_after c (after c h.world).answer u) (one_more h c)
    (between_next w0 u h c i le.0) le.1

at_set_up : (w0 : World) → w0.runner ≡ empty → Between w0 0 (set_up w0)
at_set_up w0 e =
    record {
      tables = refl;
      names = refl;
      cells = refl;
      runner = subst (λ r. RunnerStands w0.table w0.cells w0.host none none 0 r) (sym e) tt;
      runs = λ s x. absurd (true≢false cc);
      sound = tt;
    }

pub between : (w : World) (cs : List Call) → w.runner ≡ empty → Each (Lent w) cs →
    Between w (in_use cs (set_up w) 0) (over cs (set_up w))
between w cs e le = between_over w cs 0 (set_up w) (at_set_up w e) le
