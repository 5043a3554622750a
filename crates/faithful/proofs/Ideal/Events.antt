-- What the ideal machine takes and writes in a run.
use mathlib.Core.Path.{◌≡◌, refl, sym, ◌∙◌, ap, subst}
use mathlib.Core.List.{List, [], ◌∷◌, ◌++◌, append_assoc, append-nil}
use Prim.Native.Nat.{ℕ, zero, suc, ◌+◌}
use lib.IntN.{ℤ, pos, negsuc}
use Rattle.host.specs.Meaning.{Meaning}
use Rattle.model.specs.declared.table.Entry.{Entry}
use Rattle.model.specs.Values.{Result, value, fails, combine, invert, deny}
use Rattle.model.specs.Person.{Event, took, wrote}
use Rattle.model.specs.Machine.{index}
use Rattle.model.specs.Promise.{taken, written, Led}
use Rattle.faithful.proofs.Ideal.Runs.{step_then, no_step, Goes}
use Rattle.faithful.proofs.Ideal.Machine.{Instruction, Table, Cells, Io, Ideal, state, io_of, Moved, next, stop, halt, crash, with_result, restore, decoded, carry_out, do_allocate, do_call, do_combine, do_constant, do_deny, do_halt, do_invert, do_jump, do_load, do_print, do_read, do_release, do_return, do_start, do_store, do_test, ideal_step, pop, return_to, unknown, updated, with_taken, with_written}

-- ── events ──────────────────────────────────────────────────────────────────────────────────

taken_append : (xs ys : List Event) → taken (xs ++ ys) ≡ taken xs ++ taken ys
taken_append [] ys = refl
taken_append (took v ∷ xs) ys = ap (λ z. v ∷ z) (taken_append xs ys)
taken_append (wrote v ∷ xs) ys = taken_append xs ys

written_append : (xs ys : List Event) → written (xs ++ ys) ≡ written xs ++ written ys
written_append [] ys = refl
written_append (took v ∷ xs) ys = written_append xs ys
written_append (wrote v ∷ xs) ys = ap (λ z. v ∷ z) (written_append xs ys)

pub led_start : (h : Meaning) → Led h [] h
led_start h = record { taken_so = refl; written_so = sym (append-nil h.written) }

-- o1 comes after o: the events that led to o's host go on, and lead to o1's
pub record Later (first : Meaning) (o o1 : Io) : Type 0 where
  pub led : Led first o.events o.host → Led first o1.events o1.host
  pub more : (es : List Event) × (o1.events ≡ o.events ++ es)

later_refl : (first : Meaning) (o : Io) → Later first o o
later_refl first o = record { led = λ x. x; more = ([], sym (append-nil o.events)) }

later_trans : (first : Meaning) (a b c : Io) → Later first a b → Later first b c → Later first a c
later_trans first a b c x y =
    record {
      led = λ z. y.led (x.led z);
      more = (
        x.more.0 ++ y.more.0,
        y.more.1 ∙ (ap (λ e. e ++ y.more.0) x.more.1 ∙ append_assoc a.events x.more.0 y.more.0),
      );
    }

-- ── one step ────────────────────────────────────────────────────────────────────────────────

-- whatever the move, the host that it leaves comes after
abbrev Grows : Meaning → Io → Moved → Type 0
Grows first o (next (state i l h o1)) = Later first o o1
Grows first o (stop k) = Unit {0}
Grows first o halt = Unit {0}
Grows first o crash = Unit {0}

module _ (first : Meaning) where
  grow_pop : (o : Io) (h : List ℤ) (k : ℤ → List ℤ → Moved) → ((v : ℤ) (h1 : List ℤ) → Grows first o (k v h1)) →
      Grows first o (pop h k)
  grow_pop o [] k f = tt
  grow_pop o (v ∷ h) k f = f v h

  grow_unsave : (o : Io) (l : Cells) (a n : ℕ) (h : List ℤ) (k : Cells → List ℤ → Moved) →
      ((l1 : Cells) (h1 : List ℤ) → Grows first o (k l1 h1)) → Grows first o (restore l a n h k)
  grow_unsave o l a zero h k f = f l h
  grow_unsave o l a (suc n) [] k f = tt
  grow_unsave o l a (suc n) (v ∷ h) k f = grow_unsave o (updated l (a + n) v) a n h k f

  grow_answer : (r : Result) (i : ℕ) (l : Cells) (h : List ℤ) (o : Io) → Grows first o (with_result r i l h o)
  grow_answer (value v) i l h o = later_refl first o
  grow_answer (fails k) i l h o = tt

  grow_goto : (v : ℤ) (l : Cells) (h : List ℤ) (o : Io) → Grows first o (return_to v l h o)
  grow_goto (pos a) l h o = later_refl first o
  grow_goto (negsuc a) l h o = tt

  grow_get : (ws : List ℤ) (i : ℕ) (l : Cells) (h : List ℤ) (o : Io) → o.host.waiting ≡ ws →
      Grows first o (with_taken ws i l h o)
  grow_get [] i l h o e = tt
  grow_get (v ∷ vs) i l h o e =
      record {
        led = λ x. record {
          taken_so =
              x.taken_so ∙ (ap (λ z. taken o.events ++ z) e ∙ (sym (append_assoc (taken o.events) (v ∷ []) vs)
              ∙ ap (λ z. z ++ vs) (sym (taken_append o.events (took v ∷ [])))));
          written_so =
              x.written_so ∙ ap (λ z. first.written ++ z) (sym (written_append o.events (took v ∷ [])
              ∙ append-nil (written o.events)));
        };
        more = (took v ∷ [], refl);
      }

  grow_put : (r : ℕ) (v : ℤ) (i : ℕ) (l : Cells) (h : List ℤ) (o : Io) → Grows first o (with_written r v i l h o)
  grow_put zero v i l h o = tt
  grow_put (suc r) v i l h o =
      record {
        led = λ x. record {
          taken_so =
              x.taken_so ∙ ap (λ z. z ++ o.host.waiting) (sym (taken_append o.events (wrote v ∷ [])
              ∙ append-nil (taken o.events)));
          written_so =
              ap (λ z. z ++ v ∷ []) x.written_so ∙ (append_assoc first.written (written o.events) (v ∷ [])
              ∙ ap (λ z. first.written ++ z) (sym (written_append o.events (wrote v ∷ []))));
        };
        more = (wrote v ∷ [], refl);
      }

  grows : (c : Instruction) (e : Entry) (i : ℕ) (l : Cells) (h : List ℤ) (o : Io) →
      Grows first o (carry_out c e (state i l h o))
  grows do_start e i l h o = tt
  grows do_halt e i l h o = tt
  grows do_constant e i l h o = later_refl first o
  grows do_load e i l h o = later_refl first o
  grows do_store e i l h o = grow_pop o h _ (λ v h1. later_refl first o)
  grows do_invert e i l h o = grow_pop o h _ (λ v h1. grow_answer (invert v) (suc i) l h1 o)
  grows do_deny e i l h o = grow_pop o h _ (λ v h1. grow_answer (deny v) (suc i) l h1 o)
  grows do_jump e i l h o = later_refl first o
  grows do_test e i l h o = grow_pop o h _ (λ v h1. later_refl first o)
  grows do_read e i l h o = grow_get o.host.waiting (suc i) l h o refl
  grows do_print e i l h o = grow_pop o h _ (λ v h1. grow_put o.host.room v (suc i) l h1 o)
  grows do_allocate e i l h o = later_refl first o
  grows do_release e i l h o = grow_unsave o l (index e.a) e.b h _ (λ l1 h1. later_refl first o)
  grows do_call e i l h o = later_refl first o
  grows do_return e i l h o = grow_pop o h _ (λ v h1. grow_goto v l h1 o)
  grows unknown e i l h o = tt
  grows (do_combine u) e i l h o =
      grow_pop o h _ (λ w h1. grow_pop o h1 _ (λ v h2. grow_answer (combine u v w) (suc i) l h2 o))

  -- ── runs ──────────────────────────────────────────────────────────────────────────────────

  pub step_later : (T : Table) (a b : Ideal) → ideal_step T a ≡ next b → Later first (io_of a) (io_of b)
  step_later T (state i l h o) (state i1 l1 h1 o1) e =
      subst (Grows first o) e (grows (decoded (T i).code) (T i) i l h o)

  pub goes_later : {T : Table} {n : ℕ} {a b : Ideal} → Goes T n a b → Later first (io_of a) (io_of b)
  goes_later {a} no_step = later_refl first (io_of a)
  goes_later {T} (step_then {a} {b} {c} e r) =
      later_trans first (io_of a) (io_of b) (io_of c) (step_later T a b e) (goes_later r)
