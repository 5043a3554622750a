-- What it is for the ideal machine to follow the person, and how such runs are put together.
use mathlib.Core.Path.{◌≡◌, refl, ◌∙◌}
use mathlib.Core.List.{List, ◌∷◌}
use Prim.Native.Nat.{ℕ, suc, ◌+◌, ◌≤◌}
use native.Mathlib.Omega.{arith}
use lib.IntN.{ℤ}
use Rattle.model.specs.declared.faults.RunFault.{RunFault}
use Rattle.model.specs.Tree.{Exp, Cmd, Block}
use Rattle.model.specs.Code.{entry}
use Rattle.model.specs.Person.{Activation, Scene, Outcome, done, faulted, out_of_turns, Follow, body_of, evaluate, execute, ◌then◌}
use Rattle.model.specs.Codes.{JMP}
use Rattle.model.specs.Tree
use Rattle.faithful.proofs.Ideal.Machine.{Table, Cells, Io, Ideal, state, io_of, at_of, next, stop, ideal_step}
use Rattle.faithful.proofs.Placed.Addresses.{after_exp, after_cmd, Frames}
use Rattle.faithful.proofs.Ideal.Runs.{no_step, Goes, goes_one, goes_trans, step_at}
use Rattle.faithful.proofs.Following.Chain.{Holds, UnchangedAbove}
use Rattle.faithful.proofs.Placed.Standing.{AroundStands, CmdStands, ExpStands}

-- ── where the ideal machine comes to ────────────────────────────────────────────────────────

-- what the ideal machine keeps of its host, as the person has it
abbrev pub io : Scene → Io
io s = record { host = s.host; events = s.events }

-- Each of the three below begins at a with t turns left, and comes after n steps where the person comes to with u turns
-- left. Every turn that was taken has cost a step at least; x and y say how many steps more there were. An expression
-- must leave one step more where no turn is left, since the test behind it pays for a loop's turn

-- the end: at q, with the stack h; the cells of the chain ch hold its values, and those past the blocks around are as
-- they were in l
pub record AtEnd (T : Table) (Γ : Frames) (n x t u : ℕ) (a : Ideal) (l : Cells) (q : ℕ) (h : List ℤ) (o : Io)
    (ch : List Activation) : Type 0 where
  pub low : Cells
  pub goes : Goes T n a (state q low h o)
  pub paid : x + t ≤ n + u
  pub holds : Holds Γ low ch
  pub same : UnchangedAbove Γ l low

-- the fault k at place p
pub record AtFault (T : Table) (n : ℕ) (a : Ideal) (k : RunFault) (p : ℕ) (o : Io) : Type 0 where
  pub at : Ideal
  pub goes : Goes T n a at
  pub stops : ideal_step T at ≡ stop k
  pub placed : (T (at_of at)).place ≡ p
  pub host : io_of at ≡ o

-- the want of a turn, at an entry of the table
pub record AtTurn (T : Table) (n y t u : ℕ) (a : Ideal) (o : Io) : Type 0 where
  pub at : Ideal
  pub goes : Goes T n a at
  pub paid : y + t ≤ n + u
  pub host : io_of at ≡ o
  pub entered : 1 ≤ (T (at_of at)).code

-- n steps from a the ideal machine has followed the outcome: an end with v is at q, with the stack `push v`
pub data Follows {A : Type 0} (T : Table) (Γ : Frames) (push : A → List ℤ) (q n x y t : ℕ) (l : Cells)
    (a : Ideal) : Outcome A → Type 0 where
  to_end : {v : A} {s : Scene} → AtEnd T Γ n x t s.turns a l q (push v) (io s) s.chain →
      Follows T Γ push q n x y t l a (done v s)
  to_fault : {k : RunFault} {p : ℕ} {s : Scene} → AtFault T n a k p (io s) →
      Follows T Γ push q n x y t l a (faulted k p s)
  to_turn : {s : Scene} → AtTurn T n y t s.turns a (io s) → Follows T Γ push q n x y t l a (out_of_turns s)

-- ── what is to be shown of each part of a script ────────────────────────────────────────────

-- how a loop is followed
abbrev pub Again : Type 0
Again = ℕ → Exp → Cmd → Scene → Outcome (Unit {0})

-- the number of steps comes first: it is the script's and the person's alone
abbrev pub BlockFollows : Follow → Type 0
BlockFollows fo =
    (b : Block) (s : Scene) → (n : ℕ) ×
    ((T : Table) (Γ : Frames) (q : ℕ) (l : Cells) (h : List ℤ) → AroundStands T Γ → CmdStands T Γ (body_of b) q →
    Holds Γ l s.chain →
    Follows T Γ (λ u. h) (after_cmd (body_of b) q) n 0 0 s.turns l (state q l h (io s)) (fo b s))

abbrev pub LoopFollows : Again → Type 0
LoopFollows again =
    (p : ℕ) (x : Exp) (c : Cmd) (s : Scene) → (n : ℕ) ×
    ((T : Table) (Γ : Frames) (q : ℕ) (l : Cells) (h : List ℤ) → AroundStands T Γ →
    CmdStands T Γ (Tree.enquanto p x c) q → Holds Γ l s.chain →
    Follows T Γ (λ u. h) (after_cmd (Tree.enquanto p x c) q) n 0 0 s.turns l (state q l h (io s)) (again p x c s))

abbrev pub CmdFollows : Follow → Again → Type 0
CmdFollows fo again =
    (c : Cmd) (s : Scene) → (n : ℕ) ×
    ((T : Table) (Γ : Frames) (q : ℕ) (l : Cells) (h : List ℤ) → AroundStands T Γ → CmdStands T Γ c q →
    Holds Γ l s.chain →
    Follows T Γ (λ u. h) (after_cmd c q) n 0 0 s.turns l (state q l h (io s)) (execute fo again c s))

abbrev pub ExpFollows : Follow → Type 0
ExpFollows fo =
    (x : Exp) (s : Scene) → (n : ℕ) ×
    ((T : Table) (Γ : Frames) (q : ℕ) (l : Cells) (h : List ℤ) → AroundStands T Γ → ExpStands T Γ x q →
    Holds Γ l s.chain →
    Follows T Γ (λ v. v ∷ h) (after_exp x q) n 0 1 s.turns l (state q l h (io s)) (evaluate fo x s))

-- ── putting runs together ───────────────────────────────────────────────────────────────────

-- steps up to an outcome, then on from it
abbrev pub steps_then : {A : Type 0} → ℕ → Outcome A → (A → Scene → ℕ) → ℕ
steps_then n (done v s) k = n + k v s
steps_then n (faulted i p s) k = n
steps_then n (out_of_turns s) k = n

-- a run, and a fault or the want of a turn behind it
fault_after : {T : Table} {j n p : ℕ} {a b : Ideal} {k : RunFault} {o : Io} → Goes T j a b → AtFault T n b k p o →
    AtFault T (j + n) a k p o
fault_after g r =
    record { at = r.at; goes = goes_trans g r.goes; stops = r.stops; placed = r.placed; host = r.host }

turn_after : {T : Table} {j n y t y1 t1 u : ℕ} {a b : Ideal} {o : Io} → Goes T j a b → y + t ≤ j + (y1 + t1) →
    AtTurn T n y1 t1 u b o → AtTurn T (j + n) y t u a o
turn_after g e r =
    record {
      at = r.at;
      goes = goes_trans g r.goes;
      paid = omega (arith, r.paid);
      host = r.host;
      entered = r.entered;
    }

-- the same with less to pay
turn_less : {T : Table} {n y t y1 t1 u : ℕ} {a : Ideal} {o : Io} → y + t ≤ y1 + t1 → AtTurn T n y1 t1 u a o →
    AtTurn T n y t u a o
turn_less e r =
    record { at = r.at; goes = r.goes; paid = omega (arith, r.paid); host = r.host; entered = r.entered }

module _ {T : Table} {Γ : Frames} {A : Type 0} {push : A → List ℤ} {q : ℕ} where
  -- a run before an outcome
  pub follows_after : {a b : Ideal} {l l1 : Cells} {j n x y t x1 y1 u : ℕ} {o : Outcome A} → Goes T j a b →
      x + t ≤ j + (x1 + u) → y + t ≤ j + (y1 + u) → UnchangedAbove Γ l l1 →
      Follows T Γ push q n x1 y1 u l1 b o → Follows T Γ push q (j + n) x y t l a o
  follows_after {j} {x} {y} {t} {x1} {y1} {u} g ex ey sm (to_end r) =
      to_end (record {
        low = r.low;
        goes = goes_trans g r.goes;
        paid = omega (arith, r.paid);
        holds = r.holds;
        same = λ k h. r.same k h ∙ sm k h;
      })
  follows_after g ex ey sm (to_fault r) = to_fault (fault_after g r)
  follows_after g ex ey sm (to_turn r) = to_turn (turn_after g ey r)

  -- one step before an outcome
  pub follows_step : {a b : Ideal} {l : Cells} {n x y t : ℕ} {o : Outcome A} → ideal_step T a ≡ next b →
      Follows T Γ push q n x y t l b o → Follows T Γ push q (1 + n) x y t l a o
  follows_step e r = follows_after (goes_one e) (omega arith) (omega arith) (λ k h. refl) r

  -- a step more than the turns is a turn that was paid for
  pub follows_turn : {a : Ideal} {l : Cells} {n t : ℕ} {o : Outcome A} → Follows T Γ push q n 1 1 t l a o →
      Follows T Γ push q n 0 0 (suc t) l a o
  follows_turn (to_end r) =
      to_end (record {
        low = r.low;
        goes = r.goes;
        paid = omega (arith, r.paid);
        holds = r.holds;
        same = r.same;
      })
  follows_turn (to_fault r) = to_fault r
  follows_turn (to_turn r) = to_turn (turn_less (omega arith) r)

module _ {T : Table} {Γ : Frames} {A B : Type 0} {push : A → List ℤ} {push2 : B → List ℤ} {q q2 : ℕ} where
  -- one outcome after another
  pub follows_then : {a : Ideal} {l : Cells} {n x y z t : ℕ} → y ≤ z →
      {o : Outcome A} {k : A → Scene → Outcome B} {kn : A → Scene → ℕ} → Follows T Γ push q n 0 z t l a o →
      ((v : A) (s : Scene) (l1 : Cells) → Holds Γ l1 s.chain → UnchangedAbove Γ l l1 →
      Follows T Γ push2 q2 (kn v s) x y s.turns l1 (state q l1 (push v) (io s)) (k v s)) →
      Follows T Γ push2 q2 (steps_then n o kn) x y t l a (o then k)
  follows_then yz (to_end {v} {s} r) f =
      follows_after r.goes (omega (arith, r.paid)) (omega (arith, r.paid)) r.same
      (f v s r.low r.holds r.same)
  follows_then yz (to_fault r) f = to_fault r
  follows_then yz (to_turn r) f = to_turn (turn_less (omega arith) r)

-- an outcome among the blocks Δ, behind a run that pays for a turn, and then on among the blocks Γ: a call
module _ {T : Table} {Γ Δ : Frames} {A B : Type 0} {push : A → List ℤ} {push2 : B → List ℤ} {q q2 : ℕ} where
  pub follows_through : {a b : Ideal} {l l1 : Cells} {j n y t : ℕ} → Goes T j a b → 1 ≤ j → y + 1 ≤ j →
      {o : Outcome A} {k : A → Scene → Outcome B} {kn : A → Scene → ℕ} → Follows T Δ push q n 0 0 t l1 b o →
      ((v : A) (s : Scene) (l2 : Cells) → Holds Δ l2 s.chain → UnchangedAbove Δ l1 l2 →
      Follows T Γ push2 q2 (kn v s) 0 y s.turns l (state q l2 (push v) (io s)) (k v s)) →
      Follows T Γ push2 q2 (steps_then (j + n) o kn) 0 y (suc t) l a (o then k)
  follows_through g h1 hy (to_end {v} {s} r) f =
      follows_after (goes_trans g r.goes) (omega (arith, r.paid)) (omega (arith, r.paid)) (λ k h. refl)
      (f v s r.low r.holds r.same)
  follows_through g h1 hy (to_fault r) f = to_fault (fault_after g r)
  follows_through g h1 hy (to_turn r) f = to_turn (turn_after g (omega arith) r)

-- the end is here
pub follows_done : {T : Table} {Γ : Frames} {A : Type 0} {push : A → List ℤ} {q y : ℕ} {l : Cells} {v : A}
    {s : Scene} → Holds Γ l s.chain →
    Follows T Γ push q 0 0 y s.turns l (state q l (push v) (io s)) (done v s)
follows_done {l} m = to_end (record { low = l; goes = no_step; paid = omega arith; holds = m; same = λ k h. refl })

-- the fault is here
pub follows_fault : {T : Table} {Γ : Frames} {A : Type 0} {push : A → List ℤ} {q x y t i p : ℕ}
    {k : RunFault} {l l1 : Cells} {h : List ℤ} {s : Scene} →
    ideal_step T (state i l1 h (io s)) ≡ stop k → (T i).place ≡ p →
    Follows T Γ push q 0 x y t l (state i l1 h (io s)) (faulted k p s)
follows_fault {i} {l1} {h} {s} e w =
    to_fault (record { at = state i l1 h (io s); goes = no_step; stops = e; placed = w; host = refl })

-- a jump after an outcome
pub follows_jump : {T : Table} {Γ : Frames} {A : Type 0} {push : A →
    List ℤ} {q e p n x y t : ℕ} {l : Cells} {a : Ideal} {o : Outcome A} → T q ≡ entry JMP e 0 p →
    Follows T Γ push q n x y t l a o →
    Follows T Γ push e (steps_then n o (λ v s. 1)) x y t l a o
follows_jump {T} {push} {q} {e} eq (to_end {v} {s} r) =
    to_end (record {
      low = r.low;
      goes = goes_trans r.goes (goes_one (step_at T q r.low (push v) (io s) eq));
      paid = omega (arith, r.paid);
      holds = r.holds;
      same = r.same;
    })
follows_jump eq (to_fault r) = to_fault r
follows_jump eq (to_turn r) = to_turn r
