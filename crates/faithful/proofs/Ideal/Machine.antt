-- The ideal machine: it runs the entries of a table over fixed cells, which are a function of the cell's number, and
-- a stack above them, top first. Neither has a bound.
use mathlib.Core.List.{List, [], ◌∷◌, ◌++◌}
use mathlib.Core.Bool.{cond}
use mathlib.Core.Option.{Option, none, some}
use Prim.Native.Nat.{ℕ, zero, suc, ◌+◌}
use lib.IntN.{ℤ, pos, negsuc}
use lib.Dec.{eqb}
use lib.ListN.{get_or}
use Rattle.host.specs.Meaning.{Meaning}
use Rattle.model.specs.declared.faults.RunFault.{RunFault}
use Rattle.model.specs.declared.script.Operator.{Operator}
use Rattle.model.specs.declared.table.Entry.{Entry}
use Rattle.model.specs.declared.faults.RunFault.TheVariants.{NothingWaiting, OutputFull}
use Rattle.model.specs.declared.script.Operator.TheVariants as Operators
use Rattle.model.specs.Reading.{pick}
use Rattle.model.specs.Machine.{no_entry, index}
use Rattle.model.specs.Values.{Result, value, fails, combine, invert, deny, eqZ}
use Rattle.model.specs.Person.{Event, took, wrote}
use Rattle.model.specs.Codes.{ADD, ALLOC, AND, CALL, CDIF, CEQ, CMA, CMAQ, CME, CMEQ, DALLOC, DIVI, HLT, INV, JMP, JMPF, LDC, LDV, MULT, NEG, OR, PRN, RD, RETURN, START, STR, SUB}

-- ── instructions ────────────────────────────────────────────────────────────────────────────

pub data Instruction : Type 0 where
  do_start do_halt do_constant do_load do_store do_invert do_deny do_jump do_test : Instruction
  do_read do_print do_allocate do_release do_call do_return unknown : Instruction
  do_combine : Operator → Instruction

abbrev pub known : Option Instruction → Instruction
known none = unknown
known (some c) = c

abbrev pub decoding : List (ℕ × Instruction)
decoding =
    (START, do_start) ∷ (HLT, do_halt) ∷ (LDC, do_constant) ∷ (LDV, do_load) ∷ (STR, do_store)
    ∷ (ADD, do_combine Operators.Add) ∷ (SUB, do_combine Operators.Sub) ∷ (MULT, do_combine Operators.Mult)
    ∷ (DIVI, do_combine Operators.Divi) ∷ (INV, do_invert) ∷ (AND, do_combine Operators.And)
    ∷ (OR, do_combine Operators.Or) ∷ (NEG, do_deny) ∷ (CME, do_combine Operators.Less)
    ∷ (CMA, do_combine Operators.Greater) ∷ (CEQ, do_combine Operators.Equal) ∷ (CDIF, do_combine Operators.Unequal)
    ∷ (CMEQ, do_combine Operators.AtMost) ∷ (CMAQ, do_combine Operators.AtLeast) ∷ (JMP, do_jump) ∷ (JMPF, do_test)
    ∷ (RD, do_read) ∷ (PRN, do_print) ∷ (ALLOC, do_allocate) ∷ (DALLOC, do_release) ∷ (CALL, do_call)
    ∷ (RETURN, do_return) ∷ []

abbrev pub decoded : ℕ → Instruction
decoded n = known (pick eqb n decoding)

-- ── states ──────────────────────────────────────────────────────────────────────────────────

-- the entry at each address
abbrev pub Table : Type 0
Table = ℕ → Entry

abbrev pub table : List Entry → Table
table es i = get_or es i no_entry

-- the fixed cells, by their numbers
abbrev pub Cells : Type 0
Cells = ℕ → ℤ

-- a host, and what happened at it in this run
pub record Io : Type 0 where
  pub host : Meaning
  pub events : List Event

-- the current entry, the fixed cells, the stack, and the host
pub data Ideal : Type 0 where
  state : ℕ → Cells → List ℤ → Io → Ideal

abbrev pub io_of : Ideal → Io
io_of (state i l h o) = o

abbrev pub at_of : Ideal → ℕ
at_of (state i l h o) = i

-- what becomes of one instruction; a crash is a move that no translated script makes
pub data Moved : Type 0 where
  next : Ideal → Moved
  stop : RunFault → Moved
  halt crash : Moved

-- ── what instructions do ────────────────────────────────────────────────────────────────────

unfoldable pub updated : Cells → ℕ → ℤ → Cells
updated l a v k = cond (eqb k a) v (l k)

-- the top of the stack and the rest of it, or a crash
abbrev pub pop : List ℤ → (ℤ → List ℤ → Moved) → Moved
pop [] k = crash
pop (v ∷ h) k = k v h

-- the n cells from m on go onto the stack, the last on top
abbrev pub save : Cells → ℕ → ℕ → List ℤ → List ℤ
save l m zero h = h
save l m (suc n) h = l (m + n) ∷ save l m n h

-- and are cleared
abbrev pub clear : Cells → ℕ → ℕ → Cells
clear l m zero = l
clear l m (suc n) = updated (clear l m n) (m + n) (pos 0)

-- and come back from the stack
abbrev pub restore : Cells → ℕ → ℕ → List ℤ → (Cells → List ℤ → Moved) → Moved
restore l m zero h k = k l h
restore l m (suc n) h k = pop h (λ v h1. restore (updated l (m + n) v) m n h1 k)

abbrev pub return_to : ℤ → Cells → List ℤ → Io → Moved
return_to (pos a) l h o = next (state a l h o)
return_to (negsuc a) l h o = crash

abbrev pub with_result : Result → ℕ → Cells → List ℤ → Io → Moved
with_result (value z) i l h o = next (state i l (z ∷ h) o)
with_result (fails k) i l h o = stop k

abbrev pub with_taken : List ℤ → ℕ → Cells → List ℤ → Io → Moved
with_taken [] i l h o = stop NothingWaiting
with_taken (v ∷ vs) i l h o =
    next (state i l (v ∷ h) (record {
      host = record { waiting = vs; written = o.host.written; room = o.host.room };
      events = o.events ++ took v ∷ [];
    }))

abbrev pub with_written : ℕ → ℤ → ℕ → Cells → List ℤ → Io → Moved
with_written zero v i l h o = stop OutputFull
with_written (suc r) v i l h o =
    next (state i l h (record {
      host = record {
        waiting = o.host.waiting;
        written = o.host.written ++ v ∷ [];
        room = r;
      };
      events = o.events ++ wrote v ∷ [];
    }))

abbrev pub carry_out : Instruction → Entry → Ideal → Moved
carry_out do_start e (state i l h o) = crash
carry_out do_halt e (state i l h o) = halt
carry_out do_constant e (state i l h o) = next (state (suc i) l (e.a ∷ h) o)
carry_out do_load e (state i l h o) = next (state (suc i) l (l (index e.a) ∷ h) o)
carry_out do_store e (state i l h o) = pop h (λ v h1. next (state (suc i) (updated l (index e.a) v) h1 o))
carry_out do_invert e (state i l h o) = pop h (λ v h1. with_result (invert v) (suc i) l h1 o)
carry_out do_deny e (state i l h o) = pop h (λ v h1. with_result (deny v) (suc i) l h1 o)
carry_out do_jump e (state i l h o) = next (state (index e.a) l h o)
carry_out do_test e (state i l h o) = pop h (λ v h1. next (state (cond (eqZ v (pos 0)) (index e.a) (suc i)) l h1 o))
carry_out do_read e (state i l h o) = with_taken o.host.waiting (suc i) l h o
carry_out do_print e (state i l h o) = pop h (λ v h1. with_written o.host.room v (suc i) l h1 o)
carry_out do_allocate e (state i l h o) =
    next (state (suc i) (clear l (index e.a) e.b) (save l (index e.a) e.b h) o)
carry_out do_release e (state i l h o) = restore l (index e.a) e.b h (λ l1 h1. next (state (suc i) l1 h1 o))
carry_out do_call e (state i l h o) = next (state (index e.a) l (pos (suc i) ∷ h) o)
carry_out do_return e (state i l h o) = pop h (λ v h1. return_to v l h1 o)
carry_out unknown e (state i l h o) = crash
carry_out (do_combine u) e (state i l h o) = pop h (λ w h1. pop h1 (λ v h2. with_result (combine u v w) (suc i) l h2 o))

abbrev pub perform : Entry → Ideal → Moved
perform e s = carry_out (decoded e.code) e s

abbrev pub ideal_step : Table → Ideal → Moved
ideal_step T s = perform (T (at_of s)) s
