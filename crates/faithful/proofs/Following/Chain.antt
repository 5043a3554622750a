-- The fixed cells hold the values of the chain of activations, and stay so through assignment, call and return.
use mathlib.Core.Path.{◌≡◌, refl, sym, ◌∙◌, ap}
use mathlib.Core.List.{List, [], ◌∷◌, ◌++◌}
use Prim.Native.Nat.{ℕ, zero, suc, ◌+◌, ◌≤◌, ◌<◌}
use native.Mathlib.Decide.{ℕ_discrete}
use native.Mathlib.Omega.{arith}
use lib.IntN.{ℤ, pos}
use lib.ListN.{length, get_or, set, take, drop, length-set, length-replicate, get_or-replicate}
use lib.Seq.{get_or-set_same, get_or-set_other}
use Rattle.model.specs.Tree.{Block, Routines, no_more, routine}
use Rattle.model.specs.Person.{Activation, own_cells, routines_of, nth_routine, no_activation, put_cell, fresh}
use Rattle.faithful.proofs.Ideal.Machine.{Table, Cells, updated, clear}
use Rattle.faithful.proofs.Placed.Addresses.{after_routine, frame, Frames, first_free, cell_up, begin_up, HasVariable, HasRoutine, routine_up, nth_begin, HasNth}
use Rattle.faithful.proofs.Placed.Standing.{RoutinesStand, RoutineStands, AroundStands}
use Rattle.faithful.proofs.Ideal.Fixed.{updated_same, updated_other, clear_below, clear_within}

-- ── cells and chain ─────────────────────────────────────────────────────────────────────────

-- the fixed cells hold the values of a chain of activations: block by block the activation is one of that block, and
-- has as many cells; and they are what the block's fixed cells hold
abbrev pub Holds : Frames → Cells → List Activation → Type 0
Holds [] l [] = Unit {0}
Holds [] l (a ∷ ch) = ⊥
Holds (f ∷ Γ) l [] = ⊥
Holds (frame b q ∷ Γ) l (a ∷ ch) =
    (a.of ≡ b) × (length a.cells ≡ own_cells b)
    × ((k : ℕ) → k < own_cells b → l (first_free Γ + k) ≡ get_or a.cells k (pos 0)) × Holds Γ l ch

-- the cells past those of the blocks around are as they were
abbrev pub UnchangedAbove : Frames → Cells → Cells → Type 0
UnchangedAbove Γ l l1 = (k : ℕ) → first_free Γ ≤ k → l1 k ≡ l k

pub first_free_positive : (Γ : Frames) → 1 ≤ first_free Γ
first_free_positive [] = omega arith
first_free_positive (frame b q ∷ Γ) = omega (arith, first_free_positive Γ)

pub first_free_drop : (Γ : Frames) (h : ℕ) → first_free (drop h Γ) ≤ first_free Γ
first_free_drop Γ zero = omega arith
first_free_drop [] (suc h) = omega arith
first_free_drop (frame b q ∷ Γ) (suc h) = omega (arith, first_free_drop Γ h)

pub cell_below_free : (Γ : Frames) (h i : ℕ) → HasVariable Γ h i → cell_up Γ h i < first_free Γ
cell_below_free [] h i v = absurd v
cell_below_free (frame b q ∷ Γ) zero i v = omega arith
cell_below_free (frame b q ∷ Γ) (suc h) i v = omega (arith, cell_below_free Γ h i v)

abbrev at_cell : List Activation → ℕ → ℕ → ℤ
at_cell cs h i = get_or (get_or cs h no_activation).cells i (pos 0)

abbrev put_at : List Activation → ℕ → ℕ → ℤ → List Activation
put_at cs h i v = put_cell cs (record { hops = h; index = i }) v

-- a variable's cell holds what the chain has for it
pub holds_cell : (Γ : Frames) (l : Cells) (ch : List Activation) (h i : ℕ) → Holds Γ l ch → HasVariable Γ h i →
    l (cell_up Γ h i) ≡ at_cell ch h i
holds_cell [] l ch h i m v = absurd v
holds_cell (f ∷ Γ) l [] h i m v = absurd m
holds_cell (frame b q ∷ Γ) l (a ∷ ch) zero i m v = m.2 i v
holds_cell (frame b q ∷ Γ) l (a ∷ ch) (suc h) i m v = holds_cell Γ l ch h i m.3 v

-- cells that are alike where the blocks around have theirs hold the same chain
pub holds_same : (Γ : Frames) (l l1 : Cells) (ch : List Activation) →
    ((k : ℕ) → 1 ≤ k → k < first_free Γ → l1 k ≡ l k) → Holds Γ l ch → Holds Γ l1 ch
holds_same [] l l1 [] e m = tt
holds_same [] l l1 (a ∷ ch) e m = m
holds_same (f ∷ Γ) l l1 [] e m = absurd m
holds_same (frame b q ∷ Γ) l l1 (a ∷ ch) e m = (
  m.0,
  m.1,
  λ k lt. e (first_free Γ + k) (omega (arith, first_free_positive Γ)) (omega arith) ∙ m.2 k lt,
  holds_same Γ l l1 ch (λ k h1 h2. e k h1 (omega arith)) m.3,
)

-- an assignment to a variable
pub holds_set : (Γ : Frames) (l : Cells) (ch : List Activation) (h i : ℕ) (v : ℤ) → Holds Γ l ch →
    HasVariable Γ h i → Holds Γ (updated l (cell_up Γ h i) v) (put_at ch h i v)
holds_set [] l ch h i v m hv = absurd hv
holds_set (f ∷ Γ) l [] h i v m hv = absurd m
holds_set (frame b q ∷ Γ) l (a ∷ ch) zero i v m hv = (
  m.0,
  length-set a.cells i v ∙ m.1,
  λ k lt. go k lt (ℕ_discrete k i),
  holds_same Γ l (updated l (first_free Γ + i) v) ch
      (λ k h1 h2. updated_other l (first_free Γ + i) v k (omega arith)) m.3,
)
  where
    go : (k : ℕ) → k < own_cells b → Dec (k ≡ i) →
        updated l (first_free Γ + i) v (first_free Γ + k) ≡ get_or (set a.cells i v) k (pos 0)
    go k lt (yes e) =
        rw e (updated_same l (first_free Γ + i) v ∙ sym (get_or-set_same a.cells i v (pos 0) (omega (arith, m.1))))
    go k lt (no e) =
        updated_other l (first_free Γ + i) v (first_free Γ + k) (λ w. e (omega arith))
        ∙ (m.2 k lt ∙ sym (get_or-set_other a.cells i k v (pos 0) e))
holds_set (frame b q ∷ Γ) l (a ∷ ch) (suc h) i v m hv = (
  m.0,
  m.1,
  λ k lt. updated_other l (cell_up Γ h i) v (first_free Γ + k)
      (omega (arith, cell_below_free Γ h i hv)) ∙ m.2 k lt,
  holds_set Γ l ch h i v m.3 hv,
)

-- the chain from the block h blocks up on
pub holds_drop : (Γ : Frames) (l : Cells) (ch : List Activation) (h : ℕ) → Holds Γ l ch → Holds (drop h Γ) l (drop h ch)
holds_drop Γ l ch zero m = m
holds_drop [] l [] (suc h) m = m
holds_drop [] l (a ∷ ch) (suc h) m = absurd m
holds_drop (f ∷ Γ) l [] (suc h) m = absurd m
holds_drop (frame b q ∷ Γ) l (a ∷ ch) (suc h) m = holds_drop Γ l ch h m.3

-- a call is over: the inner blocks' cells are as they were
pub holds_returned : (Γ : Frames) (l l2 : Cells) (ch ch2 : List Activation) (h : ℕ) → Holds Γ l ch →
    Holds (drop h Γ) l2 ch2 → ((k : ℕ) → first_free (drop h Γ) ≤ k → l2 k ≡ l k) →
    Holds Γ l2 (take h ch ++ ch2)
holds_returned Γ l l2 ch ch2 zero m m2 e = m2
holds_returned [] l l2 [] ch2 (suc h) m m2 e = m2
holds_returned [] l l2 (a ∷ ch) ch2 (suc h) m m2 e = absurd m
holds_returned (f ∷ Γ) l l2 [] ch2 (suc h) m m2 e = absurd m
holds_returned (frame b q ∷ Γ) l l2 (a ∷ ch) ch2 (suc h) m m2 e = (
  m.0,
  m.1,
  λ k lt. e (first_free Γ + k) (omega (arith, first_free_drop Γ h)) ∙ m.2 k lt,
  holds_returned Γ l l2 ch ch2 h m.3 m2 e,
)

-- a fresh activation: the cells of its block are cleared
pub holds_fresh : (Γ : Frames) (l : Cells) (ch : List Activation) (b : Block) (q : ℕ) → Holds Γ l ch →
    Holds (frame b q ∷ Γ) (clear l (first_free Γ) (own_cells b)) (fresh b ∷ ch)
holds_fresh Γ l ch b q m = (
  refl,
  length-replicate (own_cells b) (pos 0),
  λ k lt. clear_within l (first_free Γ) (own_cells b) k lt ∙ sym (get_or-replicate (own_cells b) k (pos 0) (pos 0) lt),
  holds_same Γ l (clear l (first_free Γ) (own_cells b)) ch (λ k h1 h2. clear_below l (first_free Γ) (own_cells b) k
      h2) m,
)

-- ── the routine that a call finds ───────────────────────────────────────────────────────────

abbrev pub callee_at : List Activation → ℕ → ℕ → Block
callee_at ch h w = nth_routine w (routines_of (get_or ch h no_activation).of)

-- by the chain and by the blocks around it is the same
pub callee_same : (Γ : Frames) (l : Cells) (ch : List Activation) (h w : ℕ) → HasRoutine Γ h w → Holds Γ l ch →
    callee_at ch h w ≡ routine_up Γ h w
callee_same [] l ch h w f m = absurd f
callee_same (f ∷ Γ) l [] h w hf m = absurd m
callee_same (frame b q ∷ Γ) l (a ∷ ch) zero w f m = ap (λ x. nth_routine w (routines_of x)) m.0
callee_same (frame b q ∷ Γ) l (a ∷ ch) (suc h) w f m = callee_same Γ l ch h w f m.3

pub nth_stands : (T : Table) (Γ : Frames) (rs : Routines) (q w : ℕ) → RoutinesStand T Γ rs q → HasNth rs w →
    RoutineStands T Γ (nth_routine w rs) (nth_begin rs q w)
nth_stands T Γ no_more q w f v = absurd v
nth_stands T Γ (routine b rs) q zero f v = f.0
nth_stands T Γ (routine b rs) q (suc w) f v = nth_stands T Γ rs (after_routine b q) w f.1 v

-- and its code stands where the call goes
pub callee_stands : (T : Table) (Γ : Frames) (h w : ℕ) → AroundStands T Γ → HasRoutine Γ h w →
    RoutineStands T (drop h Γ) (routine_up Γ h w) (begin_up Γ h w)
callee_stands T [] h w st v = absurd v
callee_stands T (frame b q ∷ Γ) zero w st v = nth_stands T (frame b q ∷ Γ) (routines_of b) q w st.0 v
callee_stands T (frame b q ∷ Γ) (suc h) w st v = callee_stands T Γ h w st.1 v

pub around_drop : (T : Table) (Γ : Frames) (h : ℕ) → AroundStands T Γ → AroundStands T (drop h Γ)
around_drop T Γ zero st = st
around_drop T [] (suc h) st = st
around_drop T (frame b q ∷ Γ) (suc h) st = around_drop T Γ h st.1
