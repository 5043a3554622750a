-- Fixed cells and a stack, laid out in the memory of the machine.
use mathlib.Core.Path.{◌≡◌, refl, sym, ◌∙◌, ap}
use mathlib.Core.Logic.{◌⊎◌, inl, inr}
use mathlib.Core.List.{List, [], ◌∷◌}
use Prim.Native.Nat.{ℕ, zero, suc, ◌+◌, ◌-◌, ◌≤◌, ◌<◌}
use native.Mathlib.Nat.{add-zero}
use native.Mathlib.Decide.{ℕ_discrete, dec_lt}
use native.Mathlib.Omega.{arith}
use lib.IntN.{ℤ, pos}
use lib.ListN.{length, get_or, set, drop, replicate, length-set, length-replicate, get_or-replicate, length-drop}
use lib.Seq.{get_or-set_same, get_or-set_other, get_or-take, get_or-drop, length-take-le}
use Rattle.model.specs.Machine.{write, cut}
use Rattle.faithful.proofs.Ideal.Machine.{Cells, updated, save, clear, restore, Moved, crash}
use Rattle.faithful.proofs.Ideal.Fixed.{updated_same, updated_other, clear_below, clear_above, clear_within}

-- ── writing ─────────────────────────────────────────────────────────────────────────────────

pub length_write : (mem : List ℤ) (a : ℕ) (vs : List ℤ) → length (write mem a vs) ≡ length mem
length_write mem a [] = refl
length_write mem a (v ∷ vs) = length_write (set mem a v) (suc a) vs ∙ length-set mem a v

write_below : (mem : List ℤ) (a : ℕ) (vs : List ℤ) (j : ℕ) → j < a →
    get_or (write mem a vs) j (pos 0) ≡ get_or mem j (pos 0)
write_below mem a [] j h = refl
write_below mem a (v ∷ vs) j h =
    write_below (set mem a v) (suc a) vs j (omega arith) ∙ get_or-set_other mem a j v (pos 0) (omega arith)

write_above : (mem : List ℤ) (a : ℕ) (vs : List ℤ) (j : ℕ) → a + length vs ≤ j →
    get_or (write mem a vs) j (pos 0) ≡ get_or mem j (pos 0)
write_above mem a [] j h = refl
write_above mem a (v ∷ vs) j h =
    write_above (set mem a v) (suc a) vs j (omega arith) ∙ get_or-set_other mem a j v (pos 0) (omega arith)

pub write_in : (mem : List ℤ) (a : ℕ) (vs : List ℤ) (i : ℕ) → i < length vs → a + length vs ≤ length mem →
    get_or (write mem a vs) (a + i) (pos 0) ≡ get_or vs i (pos 0)
write_in mem a [] i h le = absurd (omega arith)
write_in mem a (v ∷ vs) zero h le =
    rw add-zero (write_below (set mem a v) (suc a) vs a (omega arith) ∙ get_or-set_same mem a v (pos 0) (omega arith))
write_in mem a (v ∷ vs) (suc i) h le =
    let e : a + suc i ≡ suc a + i = omega arith in
    rw e (write_in (set mem a v) (suc a) vs i (omega arith) (rw length-set (omega arith)))

length_cut : (mem : List ℤ) (a k : ℕ) → a + k ≤ length mem → length (cut mem a k) ≡ k
length_cut mem a k le = length-take-le k (drop a mem) (rw length-drop (omega arith))

get_cut : (mem : List ℤ) (a k i : ℕ) → i < k → get_or (cut mem a k) i (pos 0) ≡ get_or mem (a + i) (pos 0)
get_cut mem a k i h = get_or-take k (drop a mem) i (pos 0) h ∙ get_or-drop a mem i (pos 0)

-- ── fixed cells and a stack ─────────────────────────────────────────────────────────────────

-- how many cells are filled: V, and the stack's
abbrev pub fill_of : ℕ → List ℤ → ℕ
fill_of V [] = V
fill_of V (v ∷ h) = suc (fill_of V h)

-- the stack stands above the V fixed cells
abbrev pub Stacked : List ℤ → ℕ → List ℤ → Type 0
Stacked mem V [] = Unit {0}
Stacked mem V (v ∷ h) = (get_or mem (fill_of V h) (pos 0) ≡ v) × Stacked mem V h

-- V fixed cells and the stack h above them, in a memory of K cells
pub record LaidOut (V K : ℕ) (l : Cells) (h : List ℤ) (mem : List ℤ) : Type 0 where
  pub long : length mem ≡ K
  pub room : fill_of V h ≤ K
  pub low : (k : ℕ) → k < V → get_or mem k (pos 0) ≡ l k
  pub high : Stacked mem V h

pub fill_at_least : (V : ℕ) (h : List ℤ) → V ≤ fill_of V h
fill_at_least V [] = omega arith
fill_at_least V (v ∷ h) = omega (arith, fill_at_least V h)

-- a memory that is alike there holds the same stack
stacked_same : (mem mem1 : List ℤ) (V : ℕ) (h : List ℤ) →
    ((k : ℕ) → V ≤ k → k < fill_of V h → get_or mem1 k (pos 0) ≡ get_or mem k (pos 0)) → Stacked mem V h → Stacked mem1 V h
stacked_same mem mem1 V [] e s = tt
stacked_same mem mem1 V (v ∷ h) e s = (
  e (fill_of V h) (fill_at_least V h) (omega arith) ∙ s.0,
  stacked_same mem mem1 V h (λ k a b. e k a (omega arith)) s.1,
)

module _ (V K : ℕ) where
  pub laid_push : (l : Cells) (h : List ℤ) (mem : List ℤ) (v : ℤ) → LaidOut V K l h mem → fill_of V h < K →
      LaidOut V K l (v ∷ h) (set mem (fill_of V h) v)
  laid_push l h mem v m lt =
      record {
        long = length-set mem (fill_of V h) v ∙ m.long;
        room = omega arith;
        low = λ k kl. get_or-set_other mem (fill_of V h) k v (pos 0) (omega (arith, fill_at_least V h)) ∙ m.low k kl;
        high = (
          get_or-set_same mem (fill_of V h) v (pos 0) (omega (arith, m.long)),
          stacked_same mem
              (set mem (fill_of V h) v) V h (λ k a b. get_or-set_other mem (fill_of V h) k v (pos 0) (omega arith))
              m.high,
        );
      }

  pub laid_pop : (l : Cells) (v : ℤ) (h : List ℤ) (mem : List ℤ) → LaidOut V K l (v ∷ h) mem → LaidOut V K l h mem
  laid_pop l v h mem m = record { long = m.long; room = omega (arith, m.room); low = m.low; high = m.high.1 }

  pub laid_store : (l : Cells) (h : List ℤ) (mem : List ℤ) (a : ℕ) (v : ℤ) → LaidOut V K l h mem → a < V →
      LaidOut V K (updated l a v) h (set mem a v)
  laid_store l h mem a v m lt =
      record {
        long = length-set mem a v ∙ m.long;
        room = m.room;
        low = λ k kl. at k kl (ℕ_discrete k a);
        high = stacked_same mem (set mem a v) V h (λ k x y. get_or-set_other mem a k v (pos 0) (omega arith)) m.high;
      }
    where
      at : (k : ℕ) → k < V → Dec (k ≡ a) → get_or (set mem a v) k (pos 0) ≡ updated l a v k
      at k kl (yes e) =
          rw e (get_or-set_same mem a v (pos 0) (omega (arith, m.long, m.room, fill_at_least V h))
          ∙ sym (updated_same l a v))
      at k kl (no ne) = get_or-set_other mem a k v (pos 0) ne ∙ (m.low k kl ∙ sym (updated_other l a v k ne))

  pub fill_save : (l : Cells) (a n : ℕ) (h : List ℤ) → fill_of V (save l a n h) ≡ fill_of V h + n
  fill_save l a zero h = omega arith
  fill_save l a (suc n) h = omega (arith, fill_save l a n h)

  stacked_save : (l : Cells) (a n : ℕ) (h : List ℤ) (mem : List ℤ) →
      ((i : ℕ) → i < n → get_or mem (fill_of V h + i) (pos 0) ≡ l (a + i)) → Stacked mem V h →
      Stacked mem V (save l a n h)
  stacked_save l a zero h mem f s = s
  stacked_save l a (suc n) h mem f s =
      (rw (fill_save l a n h) (f n (omega arith)), stacked_save l a n h mem (λ i lt. f i (omega arith)) s)

  -- the n cells from a on are saved and cleared
  pub laid_save : (l : Cells) (h : List ℤ) (mem : List ℤ) (a n : ℕ) → LaidOut V K l h mem → a + n ≤ V →
      fill_of V h + n ≤ K →
      LaidOut V K (clear l a n) (save l a n h) (write (write mem (fill_of V h) (cut mem a n)) a (replicate n (pos 0)))
  laid_save l h mem a n m le lk =
      record {
        long = length_write mem1 a zs ∙ (length_write mem d (cut mem a n) ∙ m.long);
        room = rw (fill_save l a n h) lk;
        low = λ k kl. at k kl (dec_lt k a) (dec_lt k (a + n));
        high = stacked_save l a n h mem2 saved (stacked_same mem mem2 V h under m.high);
      }
    where
      d : ℕ
      d = fill_of V h

      zs : List ℤ
      zs = replicate n (pos 0)

      mem1 : List ℤ
      mem1 = write mem d (cut mem a n)

      mem2 : List ℤ
      mem2 = write mem1 a zs

      lc : length (cut mem a n) ≡ n
      lc = length_cut mem a n (omega (arith, m.long, fill_at_least V h))

      lz : length zs ≡ n
      lz = length-replicate n (pos 0)

      l1 : length mem1 ≡ K
      l1 = length_write mem d (cut mem a n) ∙ m.long

      saved : (i : ℕ) → i < n → get_or mem2 (d + i) (pos 0) ≡ l (a + i)
      saved i lt =
          write_above mem1 a zs (d + i) (omega (arith, lz, fill_at_least V h))
          ∙ (write_in mem d (cut mem a n) i (omega (arith, lc)) (omega (arith, lc, m.long))
          ∙ (get_cut mem a n i lt ∙ m.low (a + i) (omega arith)))

      under : (k : ℕ) → V ≤ k → k < d → get_or mem2 k (pos 0) ≡ get_or mem k (pos 0)
      under k x y = write_above mem1 a zs k (omega (arith, lz)) ∙ write_below mem d (cut mem a n) k y

      at : (k : ℕ) → k < V → Dec (k < a) → Dec (k < a + n) → get_or mem2 k (pos 0) ≡ clear l a n k
      at k kl (yes x) y =
          write_below mem1 a zs k x ∙ (write_below mem d (cut mem a n) k (omega (arith, fill_at_least V h))
          ∙ (m.low k kl ∙ sym (clear_below l a n k x)))
      at k kl (no x) (no y) =
          write_above mem1 a zs k (omega (arith, lz))
          ∙ (write_below mem d (cut mem a n) k (omega (arith, fill_at_least V h))
          ∙ (m.low k kl ∙ sym (clear_above l a n k (omega arith))))
      at k kl (no x) (yes y) =
          let i : ℕ = k - a in
          let e : k ≡ a + i = omega arith in
          rw e (write_in mem1 a zs i (omega (arith, lz)) (omega (arith, lz, l1, m.room, fill_at_least V h))
          ∙ (get_or-replicate n i (pos 0) (pos 0) (omega arith) ∙ sym (clear_within l a n i (omega arith))))

-- n values off the stack, into the cells from a on
pub record Restored (V a n : ℕ) (l : Cells) (h : List ℤ) (k : Cells → List ℤ → Moved) (mem : List ℤ) : Type 0 where
  pub l1 : Cells
  pub h1 : List ℤ
  pub is : restore l a n h k ≡ k l1 h1
  pub deep : fill_of V h ≡ fill_of V h1 + n
  pub stk : Stacked mem V h1
  pub below : (j : ℕ) → j < a → l1 j ≡ l j
  pub above : (j : ℕ) → a + n ≤ j → l1 j ≡ l j
  pub within : (i : ℕ) → i < n → l1 (a + i) ≡ get_or mem (fill_of V h1 + i) (pos 0)

-- where the stack has as many
pub restoring : (V a n : ℕ) (l : Cells) (h : List ℤ) (k : Cells → List ℤ → Moved) (mem : List ℤ) → Stacked mem V h →
    (restore l a n h k ≡ crash) ⊎ Restored V a n l h k mem
restoring V a zero l h k mem s =
    inr (record {
      l1 = l;
      h1 = h;
      is = refl;
      deep = omega arith;
      stk = s;
      below = λ j x. refl;
      above = λ j x. refl;
      within = λ i x. absurd (omega arith);
    })
restoring V a (suc n) l [] k mem s = inl refl
restoring V a (suc n) l (v ∷ h) k mem s = at (restoring V a n (updated l (a + n) v) h k mem s.1)
  where
    l0 : Cells
    l0 = updated l (a + n) v

    at : (restore l0 a n h k ≡ crash) ⊎ Restored V a n l0 h k mem → (restore l a (suc n) (v ∷ h) k ≡ crash)
        ⊎ Restored V a (suc n) l (v ∷ h) k mem
    at (inl e) = inl e
    at (inr u) =
        inr (record {
          l1 = u.l1;
          h1 = u.h1;
          is = u.is;
          deep = omega (arith, u.deep);
          stk = u.stk;
          below = λ j x. u.below j x ∙ updated_other l (a + n) v j (omega arith);
          above = λ j x. u.above j (omega arith) ∙ updated_other l (a + n) v j (omega arith);
          within = λ i x. in_at i x (ℕ_discrete i n);
        })
      where
        in_at : (i : ℕ) → i < suc n → Dec (i ≡ n) → u.l1 (a + i) ≡ get_or mem (fill_of V u.h1 + i) (pos 0)
        in_at i x (yes e) =
            rw e (u.above (a + n) (omega arith)
            ∙ (updated_same l (a + n) v ∙ (sym s.0 ∙ ap (λ z. get_or mem z (pos 0)) u.deep)))
        in_at i x (no ne) = u.within i (omega arith)

module _ (V K : ℕ) where
  pub laid_restore : (l : Cells) (h : List ℤ) (mem : List ℤ) (a n : ℕ) (k : Cells → List ℤ → Moved) →
      LaidOut V K l h mem → a + n ≤ V → (u : Restored V a n l h k mem) →
      LaidOut V K u.l1 u.h1 (write mem a (cut mem (fill_of V u.h1) n))
  laid_restore l h mem a n k m le u =
      record {
        long = length_write mem a vs ∙ m.long;
        room = omega (arith, m.room, u.deep);
        low = λ j jl. at j jl (dec_lt j a) (dec_lt j (a + n));
        high = stacked_same mem mem1 V u.h1 (λ j x y. write_above mem a vs j (omega (arith, lc))) u.stk;
      }
    where
      d : ℕ
      d = fill_of V u.h1

      vs : List ℤ
      vs = cut mem d n

      mem1 : List ℤ
      mem1 = write mem a vs

      lc : length vs ≡ n
      lc = length_cut mem d n (omega (arith, m.long, m.room, u.deep))

      at : (j : ℕ) → j < V → Dec (j < a) → Dec (j < a + n) → get_or mem1 j (pos 0) ≡ u.l1 j
      at j jl (yes x) y = write_below mem a vs j x ∙ (m.low j jl ∙ sym (u.below j x))
      at j jl (no x) (no y) =
          write_above mem a vs j (omega (arith, lc)) ∙ (m.low j jl ∙ sym (u.above j (omega arith)))
      at j jl (no x) (yes y) =
          let i : ℕ = j - a in
          let e : j ≡ a + i = omega arith in
          rw e (write_in mem a vs i (omega (arith, lc)) (omega (arith, lc, m.long, m.room, fill_at_least V h))
          ∙ (get_cut mem d n i (omega arith) ∙ sym (u.within i (omega arith))))
