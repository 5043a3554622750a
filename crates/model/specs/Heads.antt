-- Tokens of declarations: variables, the heads and ends of routines, the program. Assumes nothing.
use Rattle.std.specs.Prelude.{true, false, List, [], ◌∷◌, ℕ, ◌+◌, leb, ltb}
use Rattle.std.proofs.Math.Option.{none, some}
use Rattle.model.specs.declared.tokens.Word.TheVariants as Words
use Rattle.model.specs.declared.script.Ty.{Ty}
use Rattle.model.specs.declared.faults.Cause.TheVariants as Causes
use Rattle.model.specs.declared.faults.MeaningFault.TheVariants.{Twice}
use Rattle.model.specs.declared.faults.RoomFault.TheVariants.{NamesFull, ManyCells}
use Rattle.model.specs.Tokens.{Token, word, sign, name, number}
use Rattle.model.specs.Tree.{Cmd, procedure, function}
use Rattle.model.specs.Names.{a_procedure, a_function, Scope, declared_here, records}
use Rattle.model.specs.Blocks.{opened, closed, wait, typed, with_routine_name, with_routine}
use Rattle.model.specs.Ahead.{Next, is_word}
use Rattle.model.specs.Contexts.{in_body, own, want_command, past_variable, want_group_end, past_routine, want_procedure_name, want_function_name, want_function_colon, want_head_end}
use Rattle.model.specs.Judged.{Judged, completes, refuses, not_admitted, on, admitted, deeper}

-- name n is new in block s, there is a record for it (room is how many there are), and its cell, if it takes one, is
-- below 4,096: `cell` is one more than that cell's number
abbrev pub declares : ℕ → List Scope → Scope → List ℕ → ℕ → Judged → Judged
declares room cs s n cell j =
    elim (declared_here n s) [
      | true ↦ refuses (Causes.Meaning Twice)
      | false ↦ elim (ltb (records (s ∷ cs)) room) [
        | false ↦ refuses (Causes.Room NamesFull)
        | true ↦ elim (leb cell 4096) [ true ↦ j | false ↦ refuses (Causes.Room ManyCells) ]
      ]
    ]

abbrev pub new_variable : ℕ → List Scope → List ℕ → Judged
new_variable room [] n = not_admitted
new_variable room (s ∷ cs) n = declares room cs s n (s.first + s.cells + 1) (on (wait s n ∷ cs) past_variable)

abbrev pub new_procedure : ℕ → List Scope → ℕ → List ℕ → Judged
new_procedure room [] p n = not_admitted
new_procedure room (s ∷ cs) p n =
    declares room cs s n 0 (on (opened s p procedure 0 ∷ with_routine_name s n (a_procedure s.count) ∷ cs) want_head_end)

abbrev pub new_function : ℕ → List Scope → ℕ → List ℕ → Judged
new_function room [] p n = not_admitted
new_function room (s ∷ cs) p n = declares room cs s n (s.first + s.cells + 1) (on (s ∷ cs) (want_function_colon p n))

-- a function's block opens once its type is known, with its result in its first cell
abbrev pub function_typed : List Scope → ℕ → List ℕ → Ty → Judged
function_typed [] p n y = not_admitted
function_typed (s ∷ cs) p n y = on (opened s p (function y) 1 ∷ with_routine_name s n (a_function y s.count) ∷ cs) want_head_end

abbrev pub group_typed : List Scope → Ty → Judged
group_typed [] y = not_admitted
group_typed (s ∷ cs) y = on (typed s y ∷ cs) want_group_end

abbrev pub routine_ended : List Scope → Cmd → Judged
routine_ended [] c = not_admitted
routine_ended (s ∷ []) c = not_admitted
routine_ended (s ∷ u ∷ cs) c = on (with_routine u (closed s c) ∷ cs) past_routine

abbrev pub program_ended : List Scope → Cmd → Judged
program_ended [] c = not_admitted
program_ended (s ∷ cs) c = completes (closed s c)

-- a routine or the block's body
abbrev pub routine_or_body : List Scope → Next → ℕ → Judged
routine_or_body cs t p =
    elim (is_word Words.Procedimento t) [
      | true ↦ deeper cs 0 (on cs (want_procedure_name p))
      | false ↦ elim (is_word Words.Funcao t) [
        | true ↦ deeper cs 0 (on cs (want_function_name p))
        | false ↦ admitted (is_word Words.Inicio t) (deeper cs 0 (on cs (want_command (in_body none own))))
      ]
    ]

-- behind a group of variables: another group, a routine, or the body
abbrev pub shift_past_group : ℕ → List Scope → Token → ℕ → Judged
shift_past_group room cs (name s) p = new_variable room cs s
shift_past_group room cs (number n) p = not_admitted
shift_past_group room cs (word w) p = routine_or_body cs (some (word w)) p
shift_past_group room cs (sign g) p = not_admitted
