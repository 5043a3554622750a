-- With more turns the person gets at least as far: the same end, the same fault, or the same events and more.
use mathlib.Core.Path.{◌≡◌, refl, sym, ◌∙◌, ap}
use mathlib.Core.Bool.{Bool, true, false}
use mathlib.Core.List.{List, [], ◌∷◌, ◌++◌, append_assoc, append-nil}
use Prim.Native.Nat.{ℕ, zero, suc, ◌+◌}
use native.Mathlib.Nat.{suc-add}
use lib.IntN.{ℤ, pos}
use lib.ListN.{drop}
use Rattle.model.specs.declared.faults.RunFault.{RunFault}
use Rattle.model.specs.Tree.{Found, Exp, Cmd, Block, constant, variable, call, negated, denied, joined, assign, invoke, then_do, se_senao}
use Rattle.model.specs.Values.{Result, value, fails, combine, invert, deny, eqZ}
use Rattle.model.specs.Person.{Scene, Event, took, wrote, Outcome, done, faulted, out_of_turns, ◌then◌, Follow, body_of, callee, called, with_chain, fresh, yield, put_cell, look, reads, writes, evaluate, execute, loops, follows, by_hand}
use Rattle.model.specs.Tree
use Rattle.faithful.specs.Turns.{with_turns, AtLeastAsFar, MoreTurns}
use Rattle.faithful.proofs.Following.Outcomes.{Again}
use Rattle.faithful.proofs.Following.Calls.{result, returned, turn_at}

-- ── events only grow ────────────────────────────────────────────────────────────────────────

abbrev scene_of : {A : Type 0} → Outcome A → Scene
scene_of (done v s) = s
scene_of (faulted f p s) = s
scene_of (out_of_turns s) = s

-- an outcome whose events begin with these
abbrev Grown : {A : Type 0} → List Event → Outcome A → Type 0
Grown es o = (rest : List Event) × ((scene_of o).events ≡ es ++ rest)

grown_same : {A : Type 0} (s : Scene) (v : A) → Grown s.events (done v s)
grown_same s v = ([], sym (append-nil s.events))

-- a command that ends
abbrev ends : Scene → Outcome (Unit {0})
ends s = done tt s

grown_end : (s : Scene) → Grown s.events (ends s)
grown_end s = ([], sym (append-nil s.events))

grown_then : {A B : Type 0} (es : List Event) (o : Outcome A) (f : A → Scene → Outcome B) → Grown es o →
    ((v : A) (s : Scene) → Grown s.events (f v s)) → Grown es (o then f)
grown_then es (done v s) f g h =
    let x = h v s in (g.0 ++ x.0, x.1 ∙ (ap (λ z. z ++ x.0) g.1 ∙ append_assoc es g.0 x.0))
grown_then es (faulted i p s) f g h = g
grown_then es (out_of_turns s) f g h = g

grown_turn : {A : Type 0} (t : ℕ) (s : Scene) (f : Scene → Outcome A) →
    ((u : ℕ) → Grown s.events (f (record { chain = s.chain; host = s.host; events = s.events; turns = u }))) →
    Grown s.events (turn_at t s f)
grown_turn zero s f h = ([], sym (append-nil s.events))
grown_turn (suc t) s f h = h t

grown_choice : {A : Type 0} (es : List Event) (b : Bool) (F G : Outcome A) → Grown es F → Grown es G →
    Grown es (elim b [ true ↦ F | false ↦ G ])
grown_choice es true F G f g = f
grown_choice es false F G f g = g

grown_yield : (p : ℕ) (s : Scene) (r : Result) → Grown s.events (yield p s r)
grown_yield p s (value v) = grown_same s v
grown_yield p s (fails f) = ([], sym (append-nil s.events))

grown_reads : (p : ℕ) (f : Found) (s : Scene) (ws : List ℤ) → Grown s.events (reads p f s ws)
grown_reads p f s [] = ([], sym (append-nil s.events))
grown_reads p f s (v ∷ vs) = (took v ∷ [], refl)

grown_writes : (p : ℕ) (v : ℤ) (s : Scene) (r : ℕ) → Grown s.events (writes p v s r)
grown_writes p v s zero = ([], sym (append-nil s.events))
grown_writes p v s (suc r) = (wrote v ∷ [], refl)

abbrev BlockGrows : Follow → Type 0
BlockGrows fo = (b : Block) (s : Scene) → Grown s.events (fo b s)

abbrev LoopGrows : Again → Type 0
LoopGrows again = (p : ℕ) (x : Exp) (c : Cmd) (s : Scene) → Grown s.events (again p x c s)

-- what a call does in its turn
abbrev in_turn : Follow → Found → Scene → Outcome ℤ
in_turn fo f t =
    fo (callee t f) (with_chain t (fresh (callee t f) ∷ drop f.hops t.chain)) then λ _ u.
    done (result u) (returned f.hops t u)

module _ (fo : Follow) (gf : BlockGrows fo) where
  in_turn_grows : (f : Found) (t : Scene) → Grown t.events (in_turn fo f t)
  in_turn_grows f t =
      grown_then t.events (fo (callee t f) (with_chain t (fresh (callee t f) ∷ drop f.hops t.chain)))
      (λ _ u. done (result u) (returned f.hops t u))
      (gf (callee t f) (with_chain t (fresh (callee t f) ∷ drop f.hops t.chain)))
      (λ v u. grown_same (returned f.hops t u) (result u))

  call_grows : (f : Found) (s : Scene) → Grown s.events (called fo s f)
  call_grows f s =
      grown_turn s.turns s (in_turn fo f)
      (λ u. in_turn_grows f (record { chain = s.chain; host = s.host; events = s.events; turns = u }))

  exp_grows : (x : Exp) (s : Scene) → Grown s.events (evaluate fo x s)
  exp_grows (constant p v) s = grown_same s v
  exp_grows (variable p f) s = grown_same s (look s.chain f)
  exp_grows (call p f) s = call_grows f s
  exp_grows (negated p x) s =
      grown_then s.events (evaluate fo x s) (λ v t. yield p t (invert v)) (exp_grows x s)
      (λ v t. grown_yield p t (invert v))
  exp_grows (denied p x) s =
      grown_then s.events (evaluate fo x s) (λ v t. yield p t (deny v)) (exp_grows x s)
      (λ v t. grown_yield p t (deny v))
  exp_grows (joined o p x y) s =
      grown_then s.events (evaluate fo x s) (λ v t. (evaluate fo y t then λ w u. yield p u (combine o v w)))
      (exp_grows x s)
      (λ v t. grown_then t.events (evaluate fo y t) (λ w u. yield p u (combine o v w)) (exp_grows y t)
      (λ w u. grown_yield p u (combine o v w)))

  module _ (again : Again) (ga : LoopGrows again) where
    cmd_grows : (c : Cmd) (s : Scene) → Grown s.events (execute fo again c s)
    cmd_grows (assign p f x) s =
        grown_then s.events (evaluate fo x s) (λ v t. ends (with_chain t (put_cell t.chain f v))) (exp_grows x s)
        (λ v t. grown_end (with_chain t (put_cell t.chain f v)))
    cmd_grows (invoke p f) s =
        grown_then s.events (called fo s f) (λ _ t. ends t) (call_grows f s) (λ v t. grown_end t)
    cmd_grows (Tree.leia p q f) s = grown_reads p f s s.host.waiting
    cmd_grows (Tree.escreva p q f) s = grown_writes p (look s.chain f) s s.host.room
    cmd_grows (then_do c d) s =
        grown_then s.events (execute fo again c s) (λ _ t. execute fo again d t) (cmd_grows c s)
        (λ v t. cmd_grows d t)
    cmd_grows (Tree.se p x c) s =
        grown_then s.events (evaluate fo x s)
        (λ v t. elim (eqZ v (pos 0)) [ true ↦ ends t | false ↦ execute fo again c t ]) (exp_grows x s)
        (λ v t. grown_choice t.events (eqZ v (pos 0)) (ends t) (execute fo again c t) (grown_end t) (cmd_grows c t))
    cmd_grows (se_senao p x c q d) s =
        grown_then s.events (evaluate fo x s)
        (λ v t. elim (eqZ v (pos 0)) [ true ↦ execute fo again d t | false ↦ execute fo again c t ]) (exp_grows x s)
        (λ v t. grown_choice t.events (eqZ v (pos 0)) (execute fo again d t) (execute fo again c t)
        (cmd_grows d t) (cmd_grows c t))
    cmd_grows (Tree.enquanto p x c) s = ga p x c s

-- what a loop does in its turn
abbrev round : ℕ → ℕ → Exp → Cmd → Scene → Outcome (Unit {0})
round d p x c t =
    evaluate (follows d) x t then λ v u.
    elim (eqZ v (pos 0)) [ true ↦ ends u | false ↦ (execute (follows d) (loops d) c u then λ _ w. loops d p x c w) ]

round_rest_grows : (d : ℕ) → BlockGrows (follows d) → LoopGrows (loops d) →
    (p : ℕ) (x : Exp) (c : Cmd) (v : ℤ) (u : Scene) →
    Grown u.events
    (elim (eqZ v (pos 0)) [ true ↦ ends u | false ↦ (execute (follows d) (loops d) c u then λ _ w. loops d p x c w) ])
round_rest_grows d gf gl p x c v u =
    grown_choice u.events (eqZ v (pos 0)) (ends u) (execute (follows d) (loops d) c u then λ _ w. loops d p x c w)
    (grown_end u)
    (grown_then u.events (execute (follows d) (loops d) c u) (λ _ w. loops d p x c w)
    (cmd_grows (follows d) gf (loops d) gl c u) (λ _ w. gl p x c w))

round_grows : (d : ℕ) → BlockGrows (follows d) → LoopGrows (loops d) → (p : ℕ) (x : Exp) (c : Cmd) (t : Scene) →
    Grown t.events (round d p x c t)
round_grows d gf gl p x c t =
    grown_then t.events (evaluate (follows d) x t)
    (λ v u. elim (eqZ v (pos 0)) [
      | true ↦ ends u
      | false ↦ (execute (follows d) (loops d) c u then λ _ w. loops d p x c w)
    ])
    (exp_grows (follows d) gf x t) (round_rest_grows d gf gl p x c)

both_grow : (d : ℕ) → BlockGrows (follows d) × LoopGrows (loops d)
both_grow zero = (λ b s. ([], sym (append-nil s.events)), λ p x c s. ([], sym (append-nil s.events)))
both_grow (suc d) = (
  λ b s. cmd_grows (follows d) (both_grow d).0 (loops d) (both_grow d).1 (body_of b) s,
  λ p x c s.
      grown_turn s.turns s (round d p x c)
      (λ u. round_grows d (both_grow d).0 (both_grow d).1 p x c
      (record { chain = s.chain; host = s.host; events = s.events; turns = u })),
)

-- ── more turns ──────────────────────────────────────────────────────────────────────────────

-- where one person comes to, and where one with k turns more does
data Further {A : Type 0} (k : ℕ) : Outcome A → Outcome A → Type 0 where
  same_end : {v : A} {s : Scene} → Further k (done v s) (done v (with_turns k s))
  same_fault : {f : RunFault} {p : ℕ} {s : Scene} → Further k (faulted f p s) (faulted f p (with_turns k s))
  goes_on : {s : Scene} {o : Outcome A} → Grown s.events o → Further k (out_of_turns s) o

module _ (k : ℕ) where
  further_then : {A B : Type 0} {o o1 : Outcome A} (f f1 : A → Scene → Outcome B) → Further k o o1 →
      ((v : A) (s : Scene) → Further k (f v s) (f1 v (with_turns k s))) →
      ((v : A) (s : Scene) → Grown s.events (f1 v s)) →
      Further k (o then f) (o1 then f1)
  further_then f f1 (same_end {v} {s}) h g = h v s
  further_then f f1 same_fault h g = same_fault
  further_then f f1 (goes_on {s} {o} x) h g = goes_on (grown_then s.events o f1 x g)

  further_turn : {A : Type 0} (t : ℕ) (s : Scene) (f f1 : Scene → Outcome A) →
      ((u : ℕ) → Further k (f (record { chain = s.chain; host = s.host; events = s.events; turns = u }))
      (f1 (record { chain = s.chain; host = s.host; events = s.events; turns = u + k }))) →
      ((u : Scene) → Grown u.events (f1 u)) → Further k (turn_at t s f) (turn_at (t + k) (with_turns k s) f1)
  further_turn zero s f f1 h g =
      goes_on (grown_turn (0 + k) (with_turns k s) f1
      (λ u. g (record { chain = s.chain; host = s.host; events = s.events; turns = u })))
  further_turn (suc t) s f f1 h g = rw suc-add (h t)

  further_choice : {A : Type 0} (b : Bool) (F G F1 G1 : Outcome A) → Further k F F1 → Further k G G1 →
      Further k (elim b [ true ↦ F | false ↦ G ]) (elim b [ true ↦ F1 | false ↦ G1 ])
  further_choice true F G F1 G1 f g = f
  further_choice false F G F1 G1 f g = g

  further_yield : (p : ℕ) (s : Scene) (r : Result) → Further k (yield p s r) (yield p (with_turns k s) r)
  further_yield p s (value v) = same_end
  further_yield p s (fails f) = same_fault

  further_reads : (p : ℕ) (f : Found) (s : Scene) (ws : List ℤ) →
      Further k (reads p f s ws) (reads p f (with_turns k s) ws)
  further_reads p f s [] = same_fault
  further_reads p f s (v ∷ vs) = same_end

  further_writes : (p : ℕ) (v : ℤ) (s : Scene) (r : ℕ) → Further k (writes p v s r) (writes p v (with_turns k s) r)
  further_writes p v s zero = same_fault
  further_writes p v s (suc r) = same_end

  abbrev BlockFurther : Follow → Follow → Type 0
  BlockFurther fo fo1 = (b : Block) (s : Scene) → Further k (fo b s) (fo1 b (with_turns k s))

  abbrev LoopFurther : Again → Again → Type 0
  LoopFurther again again1 =
      (p : ℕ) (x : Exp) (c : Cmd) (s : Scene) → Further k (again p x c s) (again1 p x c (with_turns k s))

  module _ (fo fo1 : Follow) (hf : BlockFurther fo fo1) (gf : BlockGrows fo1) where
    call_further : (f : Found) (s : Scene) → Further k (called fo s f) (called fo1 (with_turns k s) f)
    call_further f s =
        further_turn s.turns s (in_turn fo f) (in_turn fo1 f)
        (λ u.
        let t : Scene = record { chain = s.chain; host = s.host; events = s.events; turns = u } in
        further_then (λ _ w. done (result w) (returned f.hops t w))
        (λ _ w. done (result w) (returned f.hops (with_turns k t) w))
        (hf (callee t f) (with_chain t (fresh (callee t f) ∷ drop f.hops t.chain)))
        (λ v w. same_end) (λ v w. grown_same (returned f.hops (with_turns k t) w) (result w)))
        (in_turn_grows fo1 gf f)

    exp_further : (x : Exp) (s : Scene) → Further k (evaluate fo x s) (evaluate fo1 x (with_turns k s))
    exp_further (constant p v) s = same_end
    exp_further (variable p f) s = same_end
    exp_further (call p f) s = call_further f s
    exp_further (negated p x) s =
        further_then (λ v t. yield p t (invert v)) (λ v t. yield p t (invert v)) (exp_further x s)
        (λ v t. further_yield p t (invert v)) (λ v t. grown_yield p t (invert v))
    exp_further (denied p x) s =
        further_then (λ v t. yield p t (deny v)) (λ v t. yield p t (deny v)) (exp_further x s)
        (λ v t. further_yield p t (deny v)) (λ v t. grown_yield p t (deny v))
    exp_further (joined o p x y) s =
        further_then (λ v t. (evaluate fo y t then λ w u. yield p u (combine o v w)))
        (λ v t. (evaluate fo1 y t then λ w u. yield p u (combine o v w))) (exp_further x s)
        (λ v t. further_then (λ w u. yield p u (combine o v w)) (λ w u. yield p u (combine o v w)) (exp_further y t)
        (λ w u. further_yield p u (combine o v w)) (λ w u. grown_yield p u (combine o v w)))
        (λ v t. grown_then t.events (evaluate fo1 y t) (λ w u. yield p u (combine o v w)) (exp_grows fo1 gf y t)
        (λ w u. grown_yield p u (combine o v w)))

    module _ (again again1 : Again) (ha : LoopFurther again again1) (ga : LoopGrows again1) where
      cmd_further : (c : Cmd) (s : Scene) → Further k (execute fo again c s) (execute fo1 again1 c (with_turns k s))
      cmd_further (assign p f x) s =
          further_then (λ v t. ends (with_chain t (put_cell t.chain f v)))
          (λ v t. ends (with_chain t (put_cell t.chain f v))) (exp_further x s) (λ v t. same_end)
          (λ v t. grown_end (with_chain t (put_cell t.chain f v)))
      cmd_further (invoke p f) s =
          further_then (λ _ t. ends t) (λ _ t. ends t) (call_further f s) (λ v t. same_end) (λ v t. grown_end t)
      cmd_further (Tree.leia p q f) s = further_reads p f s s.host.waiting
      cmd_further (Tree.escreva p q f) s = further_writes p (look s.chain f) s s.host.room
      cmd_further (then_do c d) s =
          further_then (λ _ t. execute fo again d t) (λ _ t. execute fo1 again1 d t) (cmd_further c s)
          (λ v t. cmd_further d t) (λ v t. cmd_grows fo1 gf again1 ga d t)
      cmd_further (Tree.se p x c) s =
          further_then (λ v t. elim (eqZ v (pos 0)) [ true ↦ ends t | false ↦ execute fo again c t ])
          (λ v t. elim (eqZ v (pos 0)) [ true ↦ ends t | false ↦ execute fo1 again1 c t ]) (exp_further x s)
          (λ v t. further_choice (eqZ v (pos 0)) (ends t) (execute fo again c t) (ends (with_turns k t))
          (execute fo1 again1 c (with_turns k t))
          same_end (cmd_further c t))
          (λ v t. grown_choice t.events (eqZ v (pos 0)) (ends t) (execute fo1 again1 c t) (grown_end t)
          (cmd_grows fo1 gf again1 ga c t))
      cmd_further (se_senao p x c q d) s =
          further_then (λ v t. elim (eqZ v (pos 0)) [ true ↦ execute fo again d t | false ↦ execute fo again c t ])
          (λ v t. elim (eqZ v (pos 0)) [ true ↦ execute fo1 again1 d t | false ↦ execute fo1 again1 c t ])
          (exp_further x s)
          (λ v t. further_choice (eqZ v (pos 0)) (execute fo again d t) (execute fo again c t)
          (execute fo1 again1 d (with_turns k t))
          (execute fo1 again1 c (with_turns k t)) (cmd_further d t) (cmd_further c t))
          (λ v t. grown_choice t.events (eqZ v (pos 0)) (execute fo1 again1 d t) (execute fo1 again1 c t)
          (cmd_grows fo1 gf again1 ga d t) (cmd_grows fo1 gf again1 ga c t))
      cmd_further (Tree.enquanto p x c) s = ha p x c s

  loop_further : (d d1 : ℕ) → BlockFurther (follows d) (follows d1) → LoopFurther (loops d) (loops d1) →
      LoopFurther (loops (suc d)) (loops (suc d1))
  loop_further d d1 hf hl p x c s =
      let g = both_grow d1 in
      further_turn s.turns s (round d p x c) (round d1 p x c)
      (λ u.
      let t : Scene = record { chain = s.chain; host = s.host; events = s.events; turns = u } in
      further_then
      (λ v w. elim (eqZ v (pos 0)) [
        | true ↦ ends w
        | false ↦ (execute (follows d) (loops d) c w then λ _ z. loops d p x c z)
      ])
      (λ v w. elim (eqZ v (pos 0)) [
        | true ↦ ends w
        | false ↦ (execute (follows d1) (loops d1) c w then λ _ z. loops d1 p x c z)
      ])
      (exp_further (follows d) (follows d1) hf g.0 x t)
      (λ v w. further_choice (eqZ v (pos 0)) (ends w) (execute (follows d) (loops d) c w then λ _ z. loops d p x c z)
      (ends (with_turns k w)) (execute (follows d1) (loops d1) c (with_turns k w) then λ _ z. loops d1 p x c z) same_end
      (further_then (λ _ z. loops d p x c z) (λ _ z. loops d1 p x c z)
      (cmd_further (follows d) (follows d1) hf g.0 (loops d) (loops d1) hl g.1 c w)
      (λ _ z. hl p x c z) (λ _ z. g.1 p x c z)))
      (round_rest_grows d1 g.0 g.1 p x c))
      (round_grows d1 g.0 g.1 p x c)

  both_further : (d : ℕ) → BlockFurther (follows d) (follows (d + k)) × LoopFurther (loops d) (loops (d + k))
  both_further zero = (
    λ b s. goes_on ((both_grow (0 + k)).0 b (with_turns k s)),
    λ p x c s. goes_on ((both_grow (0 + k)).1 p x c (with_turns k s)),
  )
  both_further (suc d) =
      let h = both_further d in
      let g = both_grow (d + k) in
      rw suc-add (
        λ b s. cmd_further (follows d) (follows (d + k)) h.0 g.0 (loops d) (loops (d + k)) h.1 g.1
            (body_of b) s,
        loop_further d (d + k) h.0 h.1,
      )

as_far : (k : ℕ) (o o1 : Outcome (Unit {0})) → Further k o o1 → AtLeastAsFar k o o1
as_far k o o1 same_end = refl
as_far k o o1 same_fault = refl
as_far k o o1 (goes_on {o = done v s} g) = g
as_far k o o1 (goes_on {o = faulted f p s} g) = g
as_far k o o1 (goes_on {o = out_of_turns s} g) = g

pub more_turns : MoreTurns
more_turns b first t k =
    as_far k (by_hand b first t) (by_hand b first (t + k))
    (rw suc-add at ((both_further k (suc t)).0 b
    (record { chain = fresh b ∷ []; host = first; events = []; turns = t })))
