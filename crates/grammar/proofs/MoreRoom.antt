-- What the rules admit with records for some names, they admit with records for more.
use Rattle.std.proofs.Common.{ℕ, ◌<◌, ◌≤◌, List, arith}
use Rattle.model.specs.Tokens.{Lexeme}
use Rattle.model.specs.Tree.{Cmd, Block}
use Rattle.model.specs.Names.{Scope}
use Rattle.model.specs.Grammar.{Names, first_name, next_name, Groups, no_group, group, Variables, none_declared}
use Rattle.model.specs.Grammar.{declared, Routine, a_procedure_of, a_function_of, RoutineList, no_routine}
use Rattle.model.specs.Grammar.{routine_more, Inside, whole, Program, the_program}
use Rattle.grammar.specs.Trees.{RoomSuffices}

module _ {room more : ℕ} (h : room ≤ more) where
  records_with_more : {n : ℕ} → n < room → n < more
  records_with_more r = omega arith

  names_with_more :
      {cs : List Scope} {ts : List Lexeme} {s u : Scope} → Names room cs ts s u → Names more cs ts s u
  names_with_more (first_name p n s f) = first_name p n s (f.0, records_with_more f.1, f.2)
  names_with_more (next_name p q n ts s u e f) =
      next_name p q n ts s u (names_with_more e) (f.0, records_with_more f.1, f.2)

  groups_with_more :
      {cs : List Scope} {ts : List Lexeme} {s u : Scope} → Groups room cs ts s u → Groups more cs ts s u
  groups_with_more (no_group s) = no_group s
  groups_with_more (group p q r ts us t y s u v e f i) =
      group p q r ts us t y s u v (groups_with_more e) (names_with_more f) i

  variables_with_more :
      {cs : List Scope} {ts : List Lexeme} {s u : Scope} → Variables room cs ts s u → Variables more cs ts s u
  variables_with_more (none_declared s) = none_declared s
  variables_with_more (declared p ts s u e) = declared p ts s u (groups_with_more e)

  mutual
    routine_with_more :
        {cs : List Scope} {ts : List Lexeme} {s u : Scope} → Routine room cs ts s u → Routine more cs ts s u
    routine_with_more (a_procedure_of p q r o n ts s v d f e) =
        a_procedure_of p q r o n ts s v d (f.0, records_with_more f.1) (inside_with_more e)
    routine_with_more (a_function_of p q r o i j n ts t y s v d f k e) =
        a_function_of p q r o i j n ts t y s v d (f.0, records_with_more f.1, f.2) k (inside_with_more e)

    routines_with_more :
        {cs : List Scope} {ts : List Lexeme} {s u : Scope} → RoutineList room cs ts s u → RoutineList more cs ts s u
    routines_with_more (no_routine s) = no_routine s
    routines_with_more (routine_more ts us s u v e f) =
        routine_more ts us s u v (routines_with_more e) (routine_with_more f)

    inside_with_more :
        {cs : List Scope} {ts : List Lexeme} {s u : Scope} {c : Cmd} → Inside room cs ts s u c → Inside more cs ts s u c
    inside_with_more (whole ts us vs s u v e f b) =
        whole ts us vs s u v (variables_with_more e) (routines_with_more f) b

  program_with_more : {ts : List Lexeme} {b : Block} → Program room ts b → Program more ts b
  program_with_more (the_program p q r o n ts v e) = the_program p q r o n ts v (inside_with_more e)

pub more_room_suffices : RoomSuffices
more_room_suffices room more text b h a = (a.0, a.1, program_with_more h a.2)
