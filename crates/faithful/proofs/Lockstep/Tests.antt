-- The tests of the machine, where they are true and where they are false.
use mathlib.Core.Path.{◌≡◌, refl}
use mathlib.Core.Bool.{true≢false, Bool, true, false}
use Rattle.model.specs.Machine.{Went}

-- ── a step that depends on a test ───────────────────────────────────────────────────────────

pub by_test : (Q : Went → Type 0) (b : Bool) (x y : Went) → (b ≡ true → Q x) → (b ≡ false → Q y) →
    Q (elim b [ true ↦ x | false ↦ y ])
by_test Q true x y f g = f refl
by_test Q false x y f g = g refl

pub when_true : (Q : Went → Type 0) (x y : Went) (b : Bool) → b ≡ true → Q x → Q (elim b [ true ↦ x | false ↦ y ])
when_true Q x y true e q = q
when_true Q x y false e q = absurd (true≢false cc)

pub when_false : (Q : Went → Type 0) (x y : Went) (b : Bool) → b ≡ false → Q y → Q (elim b [ true ↦ x | false ↦ y ])
when_false Q x y false e q = q
when_false Q x y true e q = absurd (true≢false cc)
