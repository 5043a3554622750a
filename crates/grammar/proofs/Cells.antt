-- The cells of a script along every chain of nested blocks, rule by rule.
use Rattle.std.proofs.Common.{◌≡◌, ℕ, ◌+◌, ◌≤◌, List, sym, refl, ◌∙◌, subst, arith}
use Rattle.model.specs.Tokens.{Lexeme}
use Rattle.model.specs.Tree.{routine, Routines, Block, no_more, Cmd}
use Rattle.model.specs.Names.{Scope}
use Rattle.model.specs.Blocks.{add_routine, closed as closed_by}
use Rattle.model.specs.Grammar.{Names, first_name, next_name, Groups, no_group, group, Variables, none_declared}
use Rattle.model.specs.Grammar.{declared, w, Routine, a_procedure_of, a_function_of, RoutineList, no_routine}
use Rattle.model.specs.Grammar.{routine_more, Inside, whole, Program, the_program}
use Rattle.grammar.specs.Trees.{AllWithin, Within, CellsSuffice}

-- the first cell behind those of a block
abbrev behind : Scope → ℕ
behind s = s.first + s.cells

-- ── variables ───────────────────────────────────────────────────────────────────────────────

-- what variables do to a block s that has no routine yet
record Widened (s u : Scope) : Type 0 where
  first : u.first ≡ s.first
  fits : behind u ≤ 4096
  bare : u.routines ≡ s.routines

module _ {room : ℕ} {cs : List Scope} where
  names_widen : {ts : List Lexeme} {s u : Scope} → Names room cs ts s u → Widened s u
  names_widen (first_name p n s f) = let fits = f.2 in record { first = refl; fits = omega arith; bare = refl }
  names_widen (next_name p q n ts s u e f) =
      let a = names_widen e in
      let fits = f.2 in
      record { first = a.first; fits = omega arith; bare = a.bare }

  groups_widen : {ts : List Lexeme} {s u : Scope} → Groups room cs ts s u → behind s ≤ 4096 → Widened s u
  groups_widen (no_group s) h = record { first = refl; fits = h; bare = refl }
  groups_widen (group p q r ts us t y s u v e f i) h =
      let a = groups_widen e h in
      let b = names_widen f in
      record { first = b.first ∙ a.first; fits = b.fits; bare = b.bare ∙ a.bare }

  variables_widen : {ts : List Lexeme} {s u : Scope} → Variables room cs ts s u → behind s ≤ 4096 → Widened s u
  variables_widen (none_declared s) h = record { first = refl; fits = h; bare = refl }
  variables_widen (declared p ts s u e) h = groups_widen e h

-- ── routines ────────────────────────────────────────────────────────────────────────────────

one_more_within : (n : ℕ) (rs : Routines) (b : Block) → AllWithin n rs → Within n b → AllWithin n (add_routine rs b)
one_more_within n no_more b a w = (w, tt)
one_more_within n (routine c rs) b a w = (a.0, one_more_within n rs b a.1 w)

-- what routines do to a block: its cells stay, and its routines fit behind them
record Filled (s v : Scope) : Type 0 where
  first : v.first ≡ s.first
  cells : v.cells ≡ s.cells
  within : AllWithin (behind v) v.routines

mutual
  routine_fits :
      {room : ℕ} {cs : List Scope} {ts : List Lexeme} {s v : Scope} → Routine room cs ts s v →
      behind s ≤ 4096 → AllWithin (behind s) s.routines → Filled s v
  routine_fits (a_procedure_of p q r o n ts s v d f e) h a =
      let own = inside_fits e (omega arith) refl in
      record { first = refl; cells = refl; within = one_more_within (behind s) s.routines _ a own }
  routine_fits (a_function_of p q r o i j n ts t y s v d f k e) h a =
      let fits = f.2 in
      let own = inside_fits e (omega arith) refl in
      record { first = refl; cells = refl; within = one_more_within (behind s) s.routines _ a own }

  routines_fit :
      {room : ℕ} {cs : List Scope} {ts : List Lexeme} {s v : Scope} → RoutineList room cs ts s v →
      behind s ≤ 4096 → AllWithin (behind s) s.routines → Filled s v
  routines_fit (no_routine s) h a = record { first = refl; cells = refl; within = a }
  routines_fit (routine_more ts us s u v e f) h a =
      let x = routines_fit e h a in
      let same_first = x.first in
      let same_cells = x.cells in
      let y = routine_fits f (omega arith) x.within in
      record { first = y.first ∙ x.first; cells = y.cells ∙ x.cells; within = y.within }

  -- a block whose first cell is s.first, closed
  inside_fits :
      {room : ℕ} {cs : List Scope} {ts : List Lexeme} {s v : Scope} {c : Cmd} → Inside room cs ts s v c →
      behind s ≤ 4096 → s.routines ≡ no_more → Within s.first (closed_by v c)
  inside_fits (whole ts us vs s u v e f b) h n =
      let x = variables_widen e h in
      let y = routines_fit f x.fits (subst (AllWithin (behind u)) (sym (x.bare ∙ n)) tt) in
      let bound = x.fits in
      let same_cells = y.cells in
      let same_first = y.first ∙ x.first in
      (omega arith, subst (λ m. AllWithin (m + v.cells) v.routines) same_first y.within)

program_fits : {room : ℕ} {ts : List Lexeme} {b : Block} → Program room ts b → Within 1 b
program_fits (the_program p q r o n ts v e) = inside_fits e (omega arith) refl

pub cells_suffice : CellsSuffice
cells_suffice room text b a = program_fits a.2
