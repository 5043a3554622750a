-- The bound on how deep turns nest is never met first: a person who comes to no end or fault has no turn left.
use mathlib.Core.Path.{◌≡◌, refl}
use mathlib.Core.List.{List, [], ◌∷◌}
use mathlib.Core.Bool.{Bool, true, false}
use Prim.Native.Nat.{ℕ, zero, suc, ◌≤◌}
use native.Mathlib.Omega.{arith}
use lib.IntN.{ℤ, pos}
use lib.ListN.{drop}
use Rattle.model.specs.declared.faults.RunFault.{RunFault}
use Rattle.model.specs.Tree.{Found, Exp, Cmd, Block, constant, variable, call, negated, denied, joined, assign, invoke, then_do, se_senao}
use Rattle.model.specs.Values.{Result, value, fails, combine, invert, deny, eqZ}
use Rattle.model.specs.Person.{Scene, Outcome, done, faulted, out_of_turns, ◌then◌, Follow, body_of, callee, called, with_chain, fresh, yield, look, reads, writes, evaluate, execute, loops, follows}
use Rattle.model.specs.Tree
use Rattle.faithful.proofs.Following.Calls.{turn_at, result, returned}
use Rattle.faithful.proofs.Following.Outcomes.{Again}

data Spent {A : Type 0} (t : ℕ) : Outcome A → Type 0 where
  spent_done : {v : A} {s : Scene} → s.turns ≤ t → Spent t (done v s)
  spent_fault : {k : RunFault} {p : ℕ} {s : Scene} → Spent t (faulted k p s)
  spent_out : {s : Scene} → s.turns ≡ 0 → Spent t (out_of_turns s)

le_refl : (n : ℕ) → n ≤ n
le_refl n = omega arith

spent_more : {A : Type 0} {t u : ℕ} {o : Outcome A} → t ≤ u → Spent t o → Spent u o
spent_more le (spent_done h) = spent_done (omega arith)
spent_more le spent_fault = spent_fault
spent_more le (spent_out h) = spent_out h

spent_then : {A B : Type 0} {t : ℕ} {o : Outcome A} {k : A → Scene → Outcome B} → Spent t o →
    ((v : A) (s : Scene) → s.turns ≤ t → Spent s.turns (k v s)) → Spent t (o then k)
spent_then (spent_done {v} {s} h) f = spent_more h (f v s h)
spent_then spent_fault f = spent_fault
spent_then (spent_out h) f = spent_out h

spent_turn : {A : Type 0} (t : ℕ) (s : Scene) (K : Scene → Outcome A) → s.turns ≡ t →
    ((u : ℕ) → suc u ≡ t → Spent u
    (K (record { chain = s.chain; host = s.host; events = s.events; turns = u }))) → Spent t (turn_at t s K)
spent_turn zero s K e f = spent_out e
spent_turn (suc t) s K e f = spent_more (omega arith) (f t refl)

spent_choice : {A : Type 0} {t : ℕ} (b : Bool) (F G : Outcome A) → Spent t F → Spent t G →
    Spent t (elim b [ true ↦ F | false ↦ G ])
spent_choice true F G f g = f
spent_choice false F G f g = g

spent_result : (p : ℕ) (r : Result) (s : Scene) → Spent s.turns (yield p s r)
spent_result p (value z) s = spent_done {s = s} (omega arith)
spent_result p (fails k) s = spent_fault

spent_reads : (p : ℕ) (f : Found) (s : Scene) (r : List ℤ) → Spent s.turns (reads p f s r)
spent_reads p f s [] = spent_fault
spent_reads p f s (v ∷ vs) = spent_done (le_refl s.turns)

spent_writes : (p : ℕ) (v : ℤ) (s : Scene) (r : ℕ) → Spent s.turns (writes p v s r)
spent_writes p v s zero = spent_fault
spent_writes p v s (suc r) = spent_done (le_refl s.turns)

abbrev BlockDeep : ℕ → Follow → Type 0
BlockDeep d fo = (b : Block) (s : Scene) → suc s.turns ≤ d → Spent s.turns (fo b s)

abbrev LoopDeep : ℕ → Again → Type 0
LoopDeep d again = (p : ℕ) (x : Exp) (c : Cmd) (s : Scene) → s.turns ≤ d → Spent s.turns (again p x c s)

module _ (d : ℕ) (fo : Follow) (ih : BlockDeep d fo) where
  call_deep : (f : Found) (s : Scene) → s.turns ≤ d → Spent s.turns (called fo s f)
  call_deep f s le =
      spent_turn s.turns s (λ t. fo (callee t f) (with_chain t (fresh (callee t f) ∷ drop f.hops t.chain))
      then λ _ u. done (result u) (returned f.hops t u)) refl (λ u e.
      spent_then (ih (callee s f) (record {
        chain = fresh (callee s f) ∷ drop f.hops s.chain;
        host = s.host;
        events = s.events;
        turns = u;
      }) (omega arith)) (λ x s2 le2. spent_done (le_refl s2.turns)))

  exp_deep : (x : Exp) (s : Scene) → s.turns ≤ d → Spent s.turns (evaluate fo x s)
  exp_deep (constant p v) s le = spent_done {s = s} (omega arith)
  exp_deep (variable p f) s le = spent_done {s = s} (omega arith)
  exp_deep (call p f) s le = call_deep f s le
  exp_deep (negated p x) s le = spent_then (exp_deep x s le) (λ v s1 le1. spent_result p (invert v) s1)
  exp_deep (denied p x) s le = spent_then (exp_deep x s le) (λ v s1 le1. spent_result p (deny v) s1)
  exp_deep (joined o p x y) s le =
      spent_then (exp_deep x s le) (λ v s1 le1. spent_then (exp_deep y s1 (omega arith))
      (λ w s2 le2. spent_result p (combine o v w) s2))

  module _ (again : Again) (il : LoopDeep d again) where
    cmd_deep : (c : Cmd) (s : Scene) → s.turns ≤ d → Spent s.turns (execute fo again c s)
    cmd_deep (assign p f x) s le = spent_then (exp_deep x s le) (λ v s1 le1. spent_done (le_refl s1.turns))
    cmd_deep (invoke p f) s le = spent_then (call_deep f s le) (λ v s1 le1. spent_done {s = s1} (omega arith))
    cmd_deep (Tree.leia p p2 f) s le = spent_reads p f s s.host.waiting
    cmd_deep (Tree.escreva p p2 f) s le = spent_writes p (look s.chain f) s s.host.room
    cmd_deep (then_do c e) s le = spent_then (cmd_deep c s le) (λ u s1 le1. cmd_deep e s1 (omega arith))
    cmd_deep (Tree.se p x c) s le =
        spent_then (exp_deep x s le) (λ v s1 le1. spent_choice (eqZ v (pos 0)) (done tt s1) (execute fo again c s1)
        (spent_done {s = s1} (omega arith)) (cmd_deep c s1 (omega arith)))
    cmd_deep (se_senao p x c p2 e) s le =
        spent_then (exp_deep x s le) (λ v s1 le1. spent_choice (eqZ v (pos 0)) (execute fo again e s1)
        (execute fo again c s1) (cmd_deep e s1 (omega arith)) (cmd_deep c s1 (omega arith)))
    cmd_deep (Tree.enquanto p x c) s le = il p x c s le

both_deep : (d : ℕ) → BlockDeep d (follows d) × LoopDeep d (loops d)
both_deep zero = (λ b s le. absurd (omega arith), λ p x c s le. spent_out {s = s} (omega arith))
both_deep (suc d) = (
  λ b s le. cmd_deep d (follows d) (both_deep d).0 (loops d) (both_deep d).1 (body_of b) s (omega arith),
  λ p x c s le.
      spent_turn s.turns s
      (λ t. evaluate (follows d) x t then λ v u.
      elim (eqZ v (pos 0)) [
        | true ↦ done tt u
        | false ↦ (execute (follows d) (loops d) c u then λ _ w. loops d p x c w)
      ]) refl (λ t eq.
      spent_then (exp_deep d (follows d) (both_deep d).0 x
      (record { chain = s.chain; host = s.host; events = s.events; turns = t }) (omega arith)) (λ v s1 le1.
      spent_choice (eqZ v (pos 0)) (done tt s1) (execute (follows d) (loops d) c s1 then λ _ w. loops d p x c w)
      (spent_done {s = s1} (omega arith))
      (spent_then (cmd_deep d (follows d) (both_deep d).0 (loops d) (both_deep d).1 c s1 (omega arith))
      (λ u s3 le3. (both_deep d).1 p x c s3 (omega arith))))),
)

none_when_out : {A : Type 0} {t : ℕ} {s : Scene} → Spent {A = A} t (out_of_turns s) → s.turns ≡ 0
none_when_out (spent_out h) = h

pub no_turn_left : (b : Block) (s s1 : Scene) → follows (suc s.turns) b s ≡ out_of_turns s1 → s1.turns ≡ 0
no_turn_left b s s1 e = none_when_out (rw e at ((both_deep (suc s.turns)).0 b s (omega arith)))
