-- The first two and the last two steps of a program's table.
use mathlib.Core.Path.{◌≡◌, refl, sym, ◌∙◌, ap, subst}
use mathlib.Core.Bool.{Bool, true, false, ◌&&◌}
use mathlib.Core.Logic.{◌⊎◌, inl, inr}
use mathlib.Core.List.{List, []}
use Prim.Native.Nat.{ℕ, suc, ◌+◌, ◌-◌, ◌≤◌, ◌<◌}
use native.Mathlib.Nat.{zero-add}
use native.Mathlib.Decide.{dec_lt}
use native.Mathlib.Omega.{arith}
use lib.IntN.{ℤ, pos}
use lib.Dec.{leb, ltb, eqb}
use lib.ListN.{length, get_or, replicate, length-replicate, get_or-replicate, get_or-eq_default}
use Rattle.host.specs.Meaning.{Meaning}
use Rattle.model.specs.declared.faults.RunFault.TheVariants.{CellsFull, NoCell}
use Rattle.model.specs.declared.table.Entry.{Entry}
use Rattle.model.specs.Reading.{pick}
use Rattle.model.specs.Code.{entry, plain}
use Rattle.model.specs.Machine.{Machine, Went, goes, halts, stops, no_entry, instructions, carried_out, write, cut, step}
use Rattle.model.specs.Codes.{ALLOC, DALLOC, HLT, START}
use Rattle.faithful.proofs.Ideal.Machine.{Cells, table}
use Rattle.faithful.proofs.Lockstep.Memory.{LaidOut, length_write, write_in}
use Rattle.std.proofs.lemmas.Bool.{leb-false, le-leb, leb-true, lt-ltb}
use Rattle.faithful.proofs.Lockstep.Tests.{when_true}
use Rattle.faithful.proofs.Lockstep.Steps.{real}

-- every fixed cell is 0
abbrev pub zeros : Cells
zeros k = pos 0

-- where there is a code, there is an entry
pub entry_in_list : (E : List Entry) (i : ℕ) → 1 ≤ (table E i).code → i < length E
entry_in_list E i h = at (dec_lt i (length E))
  where
    at : Dec (i < length E) → i < length E
    at (yes x) = x
    at (no x) =
        let e : table E i ≡ no_entry = get_or-eq_default E no_entry {n = i} (omega arith) in
        absurd (omega (arith, ap (λ z. z.code) e))

abbrev instruction : List Entry → Entry → Machine → Meaning → Went
instruction E e m h =
    carried_out (pick eqb e.code instructions) (record { machine = m; host = h; entry = e; entries = length E })

step_at_entry : (E : List Entry) (i : ℕ) (e : Entry) (mem : List ℤ) (f : ℕ) (h : Meaning) → 1 ≤ e.code →
    table E i ≡ e →
    step E (record { memory = mem; fill = f; at = i }) h ≡ instruction E e (record { memory = mem; fill = f; at = i }) h
step_at_entry E i e mem f h c eq =
    let lt : i < length E = entry_in_list E i (omega (arith, ap (λ z. z.code) eq)) in
    when_true (λ r. r ≡ instruction E e (record { memory = mem; fill = f; at = i }) h) _ _ (ltb i (length E))
    (lt-ltb i (length E) lt) (ap (λ x. instruction E x (record { memory = mem; fill = f; at = i }) h) eq)

module _ (E : List Entry) (V p : ℕ) where
  pub start_goes : table E 0 ≡ plain START p → (mem : List ℤ) (h : Meaning) →
      step E (record { memory = mem; fill = 0; at = 0 }) h ≡ goes (record { memory = mem; fill = 0; at = 1 }) h
  start_goes eq mem h = step_at_entry E 0 (plain START p) mem 0 h (omega arith) eq

  -- the fixed cells are set aside and cleared, or there are fewer
  pub allocate_goes : table E 1 ≡ entry ALLOC 0 V p → (mem : List ℤ) (h : Meaning) →
      ((mem1 : List ℤ) × (step E (record { memory = mem; fill = 0; at = 1 }) h ≡ goes (real V 2 [] mem1) h)
      × LaidOut V (length mem) zeros [] mem1)
      ⊎ ((step E (record { memory = mem; fill = 0; at = 1 }) h ≡ stops CellsFull) × (length mem < V))
  allocate_goes eq mem h =
      at (leb (0 + V) (length mem)) refl (step_at_entry E 1 (entry ALLOC 0 V p) mem 0 h (omega arith) eq)
    where
      zs : List ℤ
      zs = replicate V (pos 0)

      mem1 : List ℤ
      mem1 = write mem 0 zs

      cleared : V ≤ length mem → (k : ℕ) → k < V → get_or mem1 k (pos 0) ≡ pos 0
      cleared le k lt =
          subst (λ z. get_or mem1 z (pos 0) ≡ pos 0) (zero-add k)
          (write_in mem 0 zs k (omega (arith, length-replicate V (pos 0)))
          (omega (arith, length-replicate V (pos 0))) ∙ get_or-replicate V k (pos 0) (pos 0) lt)

      at : (b : Bool) → leb (0 + V) (length mem) ≡ b →
          step E (record { memory = mem; fill = 0; at = 1 }) h ≡ elim b
          [ true ↦ goes (record { memory = mem1; fill = 0 + V; at = 2 }) h | false ↦ stops CellsFull ] →
          ((mem1 : List ℤ) × (step E (record { memory = mem; fill = 0; at = 1 }) h ≡ goes (real V 2 [] mem1) h)
          × LaidOut V (length mem) zeros [] mem1)
          ⊎ ((step E (record { memory = mem; fill = 0; at = 1 }) h ≡ stops CellsFull) × (length mem < V))
      at true e w =
          let le : V ≤ length mem = omega (arith, leb-true (0 + V) (length mem) e) in
          inl (
            mem1,
            w ∙ ap (λ x. goes (record { memory = mem1; fill = x; at = 2 }) h) (zero-add V),
            record { long = length_write mem 0 zs; room = le; low = cleared le; high = tt },
          )
      at false e w = inr (w, omega (arith, leb-false (0 + V) (length mem) e))

  -- the fixed cells are let go
  pub release_goes : (q : ℕ) → table E q ≡ entry DALLOC 0 V p → (mem : List ℤ) (h : Meaning) →
      step E (real V q [] mem) h ≡ goes (record { memory = mem; fill = 0; at = suc q }) h
  release_goes q eq mem h =
      let e0 : V - V ≡ 0 = omega arith in
      let r : Went = goes (record { memory = mem; fill = 0; at = suc q }) h in
      let F : ℕ → Went = λ left. elim (ltb 0 (suc left) && eqb 0 left) [
        | true ↦ goes (record { memory = mem; fill = left; at = suc q }) h
        | false ↦ elim (ltb 0 (suc left) && leb (0 + V) left) [
          | true ↦ goes (record { memory = write mem 0 (cut mem left V); fill = left; at = suc q }) h
          | false ↦ stops NoCell
        ]
      ] in
      step_at_entry E q (entry DALLOC 0 V p) mem V h (omega arith) eq
      ∙ when_true (λ x. x ≡ r) _ _ (leb V V) (le-leb V V (omega arith)) (subst (λ z. F z ≡ r) (sym e0) refl)

  pub halt_halts : (q : ℕ) → table E q ≡ plain HLT p → (mem : List ℤ) (h : Meaning) →
      step E (record { memory = mem; fill = 0; at = q }) h ≡ halts
  halt_halts q eq mem h = step_at_entry E q (plain HLT p) mem 0 h (omega arith) eq
