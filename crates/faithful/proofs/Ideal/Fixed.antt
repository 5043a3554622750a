-- Fixed cells that are updated, saved and cleared, and restored.
use mathlib.Core.Path.{◌≡◌, refl, ◌∙◌}
use mathlib.Core.Logic.{◌≢◌}
use mathlib.Core.List.{List}
use mathlib.Core.Bool.{Bool, true, false, cond}
use Prim.Native.Nat.{ℕ, zero, suc, ◌+◌, ◌≤◌, ◌<◌}
use native.Mathlib.Decide.{ℕ_discrete}
use native.Mathlib.Omega.{arith}
use lib.IntN.{ℤ, pos}
use lib.Dec.{eqb, T, eqb→eq, eqb_refl}
use Rattle.faithful.proofs.Ideal.Machine.{Cells, updated, save, clear, restore, Moved}

pub updated_same : (l : Cells) (a : ℕ) (v : ℤ) → updated l a v a ≡ v
unfolding updated
updated_same l a v = go (eqb a a) (eqb_refl a)
  where
    go : (b : Bool) → T b → cond b v (l a) ≡ v
    go true h = refl
    go false h = absurd h

pub updated_other : (l : Cells) (a : ℕ) (v : ℤ) (k : ℕ) → k ≢ a → updated l a v k ≡ l k
unfolding updated
updated_other l a v k ne = go (eqb k a) (λ t. ne (eqb→eq k a t))
  where
    go : (b : Bool) → (T b → ⊥) → cond b v (l k) ≡ l k
    go true h = absurd (h tt)
    go false h = refl

pub clear_below : (l : Cells) (m n k : ℕ) → k < m → clear l m n k ≡ l k
clear_below l m zero k h = refl
clear_below l m (suc n) k h = updated_other (clear l m n) (m + n) (pos 0) k (omega arith) ∙ clear_below l m n k h

pub clear_above : (l : Cells) (m n k : ℕ) → m + n ≤ k → clear l m n k ≡ l k
clear_above l m zero k h = refl
clear_above l m (suc n) k h =
    updated_other (clear l m n) (m + n) (pos 0) k (omega arith) ∙ clear_above l m n k (omega arith)

pub clear_within : (l : Cells) (m n i : ℕ) → i < n → clear l m n (m + i) ≡ pos 0
clear_within l m zero i h = absurd (omega arith)
clear_within l m (suc n) i h = go (λ lt. clear_within l m n i lt) (ℕ_discrete i n)
  where
    go : (i < n → clear l m n (m + i) ≡ pos 0) → Dec (i ≡ n) → clear l m (suc n) (m + i) ≡ pos 0
    go ih (yes e) = rw e (updated_same (clear l m n) (m + n) (pos 0))
    go ih (no e) = updated_other (clear l m n) (m + n) (pos 0) (m + i) (λ w. e (omega arith)) ∙ ih (omega arith)

-- the n cells from m on, as they are in l0, put back into l
abbrev pub restored : Cells → Cells → ℕ → ℕ → Cells
restored l0 l m zero = l
restored l0 l m (suc n) = restored l0 (updated l (m + n) (l0 (m + n))) m n

-- what was saved from l0 comes back
pub restore_saved : (l0 l : Cells) (m n : ℕ) (h : List ℤ) (k : Cells → List ℤ → Moved) →
    restore l m n (save l0 m n h) k ≡ k (restored l0 l m n) h
restore_saved l0 l m zero h k = refl
restore_saved l0 l m (suc n) h k = restore_saved l0 (updated l (m + n) (l0 (m + n))) m n h k

module _ (l0 : Cells) (m : ℕ) where
  pub restored_below : (l : Cells) (n k : ℕ) → k < m → restored l0 l m n k ≡ l k
  restored_below l zero k lt = refl
  restored_below l (suc n) k lt =
      restored_below (updated l (m + n) (l0 (m + n))) n k lt ∙ updated_other l (m + n) (l0 (m + n)) k (omega arith)

  pub restored_above : (l : Cells) (n k : ℕ) → m + n ≤ k → restored l0 l m n k ≡ l k
  restored_above l zero k le = refl
  restored_above l (suc n) k le =
      restored_above (updated l (m + n) (l0 (m + n))) n k (omega arith)
      ∙ updated_other l (m + n) (l0 (m + n)) k (omega arith)

  pub restored_within : (l : Cells) (n k : ℕ) → m ≤ k → k < m + n → restored l0 l m n k ≡ l0 k
  restored_within l zero k ge lt = absurd (omega arith)
  restored_within l (suc n) k ge lt =
      go (λ lt1. restored_within (updated l (m + n) (l0 (m + n))) n k ge lt1) (ℕ_discrete k (m + n))
    where
      go : (k < m + n → restored l0 l m (suc n) k ≡ l0 k) → Dec (k ≡ m + n) → restored l0 l m (suc n) k ≡ l0 k
      go ih (yes e) =
          restored_above (updated l (m + n) (l0 (m + n))) n k (omega arith) ∙ rw e (updated_same l (m + n) (l0 (m + n)))
      go ih (no e) = ih (omega arith)
