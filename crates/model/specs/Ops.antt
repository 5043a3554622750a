-- The machine's instructions, each with the code that stands for it. Assumes nothing.
use Rattle.std.proofs.Math.Option.{none}
use Rattle.std.specs.Prelude.{◌≡◌, ℕ, Ok, Err, Result, nat_eq}
use Rattle.model.specs.declared.faults.RunFault.{RunFault}
use Rattle.model.specs.declared.faults.RunFault.TheVariants.{NoCode}
use Rattle.model.specs.Reading.{pick}
use Rattle.model.specs.Codes.{START, HLT, LDC, LDV, STR, INV, NEG, JMP, JMPF, RD, PRN, ALLOC, DALLOC, CALL, RETURN}
use Rattle.model.specs.Code.{op_code}
use Rattle.model.specs.Machine.{instructions}
use Rattle.model.specs.declared.ops.Op.{Op}
use Rattle.model.specs.declared.ops.Op.TheVariants as Ops

abbrev pub code_of : Op → ℕ
code_of Ops.Start = START
code_of Ops.Hlt = HLT
code_of Ops.Ldc = LDC
code_of Ops.Ldv = LDV
code_of Ops.Str = STR
code_of (Ops.Both o) = op_code o
code_of Ops.Inv = INV
code_of Ops.Neg = NEG
code_of Ops.Jmp = JMP
code_of Ops.Jmpf = JMPF
code_of Ops.Rd = RD
code_of Ops.Prn = PRN
code_of Ops.Alloc = ALLOC
code_of Ops.Dalloc = DALLOC
code_of Ops.Call = CALL
code_of Ops.Return = RETURN

-- the code is that of an instruction, or of none
abbrev pub Decodes : ℕ → Result Op RunFault → Type 0
Decodes c (Ok o) = c ≡ code_of o
Decodes c (Err f) = (f ≡ NoCode) × (pick nat_eq c instructions ≡ none)
