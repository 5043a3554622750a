-- An accepted script is well scoped.
use mathlib.Core.Path.{◌≡◌, subst}
use mathlib.Core.List.{List}
use mathlib.Core.Bool.{true≢false}
use mathlib.Core.Option.{none}
use Prim.Native.Nat.{ℕ}
use Rattle.model.specs.Promise.{Script}
use Rattle.model.specs.Tokens.{Stream, next, ends, breaks}
use Rattle.model.specs.Tree.{Block}
use Rattle.model.specs.Reading.{read}
use Rattle.model.specs.Contexts.{State}
use Rattle.model.specs.Settling.{Settled, wrong, at, settle}
use Rattle.model.specs.Judged.{Judged, goes, completes, refuses}
use Rattle.model.specs.Judge.{accepted, afterwards, judge, go_on, verdict, at_start, ended}
use Rattle.faithful.proofs.Scoped.Trees.{WellScoped}
use Rattle.faithful.proofs.Scoped.Tokens.{JudgedScoped, StateScoped, judge_scoped}

never_ended : (p : ℕ) (x : Settled) (b : Block) → ended p x ≡ accepted b → ⊥
never_ended p (at f) b e = true≢false cc
never_ended p (wrong n) b e = true≢false cc

afterwards_scoped : (b b1 : Block) (ts : Stream) → WellScoped b → afterwards b ts ≡ accepted b1 → WellScoped b1
afterwards_scoped b b1 (next t p ts) o e = absurd (true≢false cc)
afterwards_scoped b b1 (ends p) o e = let w : b ≡ b1 = cc in subst WellScoped w o
afterwards_scoped b b1 (breaks n p) o e = absurd (true≢false cc)

verdict_scoped : (room : ℕ) (ts : Stream) (s : State) (b : Block) → StateScoped s → verdict room ts s ≡ accepted b →
    WellScoped b
verdict_scoped room (next t p ts) s b o e =
    go (judge room s t p) (judge_scoped room s t p o) e (λ s1 o1 e1. verdict_scoped room ts s1 b o1 e1)
  where
    go : (j : Judged) → JudgedScoped j → go_on (verdict room ts) p ts j ≡ accepted b →
        ((s1 : State) → StateScoped s1 → verdict room ts s1 ≡ accepted b → WellScoped b) → WellScoped b
    go (goes s1) oj d ih = ih s1 oj d
    go (completes b1) oj d ih = afterwards_scoped b1 b ts oj d
    go (refuses n) oj d ih = absurd (true≢false cc)
verdict_scoped room (ends p) s b o e = absurd (never_ended p (settle none s.focus) b e)
verdict_scoped room (breaks n p) s b o e = absurd (true≢false cc)

pub accepted_scoped : (text : List ℕ) (b : Block) → Script text b → WellScoped b
accepted_scoped text b sc = verdict_scoped sc.0 (read text) at_start b (tt, tt) sc.1
