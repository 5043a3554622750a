-- The entries of a translated script name fixed cells alone.
use mathlib.Core.List.{List, [], ◌∷◌, ◌++◌}
use Prim.Native.Nat.{ℕ, zero, suc, ◌+◌, ◌≤◌, ◌<◌}
use native.Mathlib.Omega.{arith}
use lib.IntN.{ℤ}
use lib.ListN.{length, get_or}
use Rattle.model.specs.declared.script.Operator.{Operator}
use Rattle.model.specs.declared.table.Entry.{Entry}
use Rattle.model.specs.Code.{entry, plain, op_code}
use Rattle.model.specs.Codes.{ALLOC, CALL, DALLOC, HLT, INV, JMP, JMPF, LDC, LDV, NEG, PRN, RD, RETURN, START, STR}
use Rattle.model.specs.Machine.{no_entry}
use Rattle.model.specs.Promise.{Each}

-- an entry that the machine carries out without a fault of its own, where V cells are fixed: it names fixed cells alone
pub data SoundEntry (V : ℕ) : Entry → Type 0 where
  sound_start : {p : ℕ} → SoundEntry V (plain START p)
  sound_halt : {p : ℕ} → SoundEntry V (plain HLT p)
  sound_constant : {v : ℤ} {p : ℕ} → SoundEntry V (record { code = LDC; a = v; b = 0; place = p })
  sound_load : {c p : ℕ} → c < V → SoundEntry V (entry LDV c 0 p)
  sound_store : {c p : ℕ} → c < V → SoundEntry V (entry STR c 0 p)
  sound_operator : {p : ℕ} (o : Operator) → SoundEntry V (plain (op_code o) p)
  sound_invert : {p : ℕ} → SoundEntry V (plain INV p)
  sound_deny : {p : ℕ} → SoundEntry V (plain NEG p)
  sound_jump : {a p : ℕ} → SoundEntry V (entry JMP a 0 p)
  sound_test : {a p : ℕ} → SoundEntry V (entry JMPF a 0 p)
  sound_read : {p : ℕ} → SoundEntry V (plain RD p)
  sound_write : {p : ℕ} → SoundEntry V (plain PRN p)
  sound_allocate : {m n p : ℕ} → m + suc n ≤ V → SoundEntry V (entry ALLOC m (suc n) p)
  sound_release : {m n p : ℕ} → m + suc n ≤ V → SoundEntry V (entry DALLOC m (suc n) p)
  sound_call : {a p : ℕ} → SoundEntry V (entry CALL a 0 p)
  sound_return : {p : ℕ} → SoundEntry V (plain RETURN p)

pub each_append : {A : Type 0} (P : A → Type 0) (xs ys : List A) → Each P xs → Each P ys → Each P (xs ++ ys)
each_append P [] ys a b = b
each_append P (x ∷ xs) ys a b = (a.0, each_append P xs ys a.1 b)

-- an entry of a list all of whose entries are good
pub each_at : (P : Entry → Type 0) (es : List Entry) (i : ℕ) → Each P es → i < length es → P (get_or es i no_entry)
each_at P [] i a lt = absurd (omega arith)
each_at P (e ∷ es) zero a lt = a.0
each_at P (e ∷ es) (suc i) a lt = each_at P es i a.1 (omega arith)
