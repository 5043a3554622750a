-- The table that a script becomes. Assumes nothing.
use Rattle.std.specs.Prelude.{List, [], ◌∷◌, ◌++◌, ℕ, zero, suc, ◌+◌, max, pos, length, get_or}
use Rattle.model.specs.declared.script.Operator.{Operator}
use Rattle.model.specs.declared.script.Operator.TheVariants as Operators
use Rattle.model.specs.declared.table.Entry.{Entry}
use Rattle.model.specs.Codes.{START, HLT, LDC, LDV, STR, ADD, SUB, MULT, DIVI, INV, AND, OR, NEG, CME, CMA, CEQ, CDIF, CMEQ, CMAQ, JMP, JMPF, RD, PRN, ALLOC, DALLOC, CALL, RETURN}
use Rattle.model.specs.Tree
use Rattle.model.specs.Tree.{Found, Exp, Cmd, Role, Block, Routines, block, no_more, routine, program, procedure, function}
use Rattle.model.specs.Tree.{constant, variable, call, negated, denied, joined, assign, invoke, then_do, se_senao}

-- code, operands a and b, place
abbrev pub entry : ℕ → ℕ → ℕ → ℕ → Entry
entry c a b p = record { code = c; a = pos a; b = b; place = p }

-- operands that are not used are 0
abbrev pub plain : ℕ → ℕ → Entry
plain c p = entry c 0 0 p

-- ── where things are ────────────────────────────────────────────────────────────────────────

-- where a block is laid: its first cell, how many it has, and the entries at which its routines begin, as far as known
pub record Laid : Type 0 where
  pub first : ℕ
  pub cells : ℕ
  pub begins : List ℕ

abbrev pub nowhere : Laid
nowhere = record { first = 0; cells = 0; begins = [] }

-- lists of laid blocks go from the innermost to the program

abbrev pub cell_of : List Laid → Found → ℕ
cell_of ls f = (get_or ls f.hops nowhere).first + f.index

abbrev pub begin_of : List Laid → Found → ℕ
begin_of ls f = get_or (get_or ls f.hops nowhere).begins f.index 0

-- ── expressions and commands ────────────────────────────────────────────────────────────────

abbrev pub op_code : Operator → ℕ
op_code Operators.Add = ADD
op_code Operators.Sub = SUB
op_code Operators.Mult = MULT
op_code Operators.Divi = DIVI
op_code Operators.And = AND
op_code Operators.Or = OR
op_code Operators.Less = CME
op_code Operators.Greater = CMA
op_code Operators.Equal = CEQ
op_code Operators.Unequal = CDIF
op_code Operators.AtMost = CMEQ
op_code Operators.AtLeast = CMAQ

abbrev pub of_exp : List Laid → Exp → List Entry
of_exp ls (constant p v) = record { code = LDC; a = v; b = 0; place = p } ∷ []
of_exp ls (variable p f) = entry LDV (cell_of ls f) 0 p ∷ []
of_exp ls (call p f) = entry CALL (begin_of ls f) 0 p ∷ entry LDV 0 0 p ∷ []
of_exp ls (negated p x) = of_exp ls x ++ plain INV p ∷ []
of_exp ls (denied p x) = of_exp ls x ++ plain NEG p ∷ []
of_exp ls (joined o p x y) = of_exp ls x ++ of_exp ls y ++ plain (op_code o) p ∷ []

-- the entries of a command that begins at entry n
abbrev pub of_cmd : List Laid → ℕ → Cmd → List Entry
of_cmd ls n (assign p f x) = of_exp ls x ++ entry STR (cell_of ls f) 0 p ∷ []
of_cmd ls n (invoke p f) = entry CALL (begin_of ls f) 0 p ∷ []
of_cmd ls n (Tree.leia p q f) = plain RD p ∷ entry STR (cell_of ls f) 0 q ∷ []
of_cmd ls n (Tree.escreva p q f) = entry LDV (cell_of ls f) 0 q ∷ plain PRN p ∷ []
of_cmd ls n (then_do c d) = let cs = of_cmd ls n c in cs ++ of_cmd ls (n + length cs) d
of_cmd ls n (Tree.se p x c) =
    let xs = of_exp ls x in
    let at = n + length xs + 1 in
    let cs = of_cmd ls at c in
    xs ++ entry JMPF (at + length cs) 0 p ∷ cs
of_cmd ls n (se_senao p x c q d) =
    let xs = of_exp ls x in
    let at = n + length xs + 1 in
    let cs = of_cmd ls at c in
    let on = at + length cs + 1 in
    let ds = of_cmd ls on d in
    xs ++ entry JMPF on 0 p ∷ cs ++ entry JMP (on + length ds) 0 q ∷ ds
of_cmd ls n (Tree.enquanto p x c) =
    let xs = of_exp ls x in
    let at = n + length xs + 1 in
    let cs = of_cmd ls at c in
    xs ++ entry JMPF (at + length cs + 1) 0 p ∷ cs ++ entry JMP n 0 p ∷ []

-- ── blocks ──────────────────────────────────────────────────────────────────────────────────

abbrev pub with_begin : Laid → ℕ → Laid
with_begin l n = record { first = l.first; cells = l.cells; begins = l.begins ++ n ∷ [] }

-- a routine's n own cells from m on are set aside and cleared, unless it has none
abbrev pub enter : ℕ → ℕ → ℕ → List Entry
enter m zero p = []
enter m (suc n) p = entry ALLOC m (suc n) p ∷ []

-- and come back at its end
abbrev pub leave : ℕ → ℕ → ℕ → List Entry
leave m zero p = []
leave m (suc n) p = entry DALLOC m (suc n) p ∷ []

-- a function puts its result, its first own cell, into cell 0
abbrev pub hand_over : Role → ℕ → ℕ → List Entry
hand_over program m p = []
hand_over procedure m p = []
hand_over (function y) m p = entry LDV m 0 p ∷ entry STR 0 0 p ∷ []

-- the entries of a block's routines, and the block with the entries at which they begin
pub record RoutineCode : Type 0 where
  pub entries : List Entry
  pub laid : Laid

-- what stands between a block's first and last entries: a jump over its routines, if it has any, and its body
abbrev pub contents : List Laid → ℕ → ℕ → Routines → RoutineCode → Cmd → Laid → List Entry
contents ls n p no_more rc c l = of_cmd (l ∷ ls) n c
contents ls n p (routine b rs) rc c l =
    let start = n + 1 + length rc.entries in
    entry JMP start 0 p ∷ rc.entries ++ of_cmd (rc.laid ∷ ls) start c

-- a block with k own cells inside others: they follow those of the surrounding block, and cell 0 carries results
abbrev pub inside : List Laid → ℕ → Laid
inside [] k = record { first = 1; cells = k; begins = [] }
inside (l ∷ ls) k = record { first = l.first + l.cells; cells = k; begins = [] }

abbrev mutual
  -- the routine that begins at entry n
  pub of_routine : List Laid → ℕ → Block → List Entry
  of_routine ls n (block p r k rs c) =
      let l : Laid = inside ls k in
      let pre = enter l.first k p in
      let at = n + length pre in
      pre ++ contents ls at p rs (of_routines ls l (at + 1) rs) c l ++ hand_over r l.first p ++ leave l.first k p ++ plain RETURN p ∷ []

  -- the routines of a block, the first of which begins at entry n
  pub of_routines : List Laid → Laid → ℕ → Routines → RoutineCode
  of_routines ls l n no_more = record { entries = []; laid = l }
  of_routines ls l n (routine b rs) =
      let m : Laid = with_begin l n in
      let es = of_routine (m ∷ ls) n b in
      let rest = of_routines ls m (n + length es) rs in
      record { entries = es ++ rest.entries; laid = rest.laid }

-- one more than the highest cell of a block or of routines, where the cells below n belong to the blocks around
abbrev mutual
  pub reach : ℕ → Block → ℕ
  reach n (block p r k rs c) = max (n + k) (reach_of (n + k) rs)

  pub reach_of : ℕ → Routines → ℕ
  reach_of n no_more = n
  reach_of n (routine b rs) = max (reach n b) (reach_of n rs)

abbrev pub of_program : Block → List Entry
of_program (block p r k rs c) =
    let v = reach 1 (block p r k rs c) in
    let l : Laid = inside [] k in
    plain START p ∷ entry ALLOC 0 v p ∷ contents [] 2 p rs (of_routines [] l 3 rs) c l ++ entry DALLOC 0 v p ∷ plain HLT p ∷ []
