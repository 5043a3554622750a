-- The parts of a script that end before a token, whatever that token is, and their types. Assumes nothing.
use Rattle.std.specs.Prelude.{Bool, true, false, ◌||◌, ℕ, pred}
use Rattle.std.proofs.Math.Option.{none, some}
use Rattle.model.specs.declared.tokens.Word.TheVariants as Words
use Rattle.model.specs.declared.tokens.Sign.TheVariants as Signs
use Rattle.model.specs.declared.script.Ty.{Ty}
use Rattle.model.specs.declared.faults.MeaningFault.{MeaningFault}
use Rattle.model.specs.declared.faults.MeaningFault.TheVariants.{WrongKind, WrongType}
use Rattle.model.specs.Tree
use Rattle.model.specs.Tree.{Exp, Cmd, negated, denied, joined, assign, invoke, then_do, se_senao}
use Rattle.model.specs.Names.{Kind, a_variable, a_procedure, a_function}
use Rattle.model.specs.Ahead.{Next, is_word, is_sign, present, multiplying, adding, comparing}
use Rattle.model.specs.Types.{is_inteiro, same_type, takes, fitting, giving}
use Rattle.model.specs.Contexts.{CommandIn, in_body, in_then, in_else, in_loop, ExpressionIn, bracketed, assigned, chosen, repeated, SimpleIn, left_of, right_of, TermIn, first_term, plus_term, minus_term, next_term, FactorIn, first_factor, next_factor, denied_factor}
use Rattle.model.specs.Contexts.{Focus, want_programa, want_title, want_title_end, want_period, block_start, want_variable, past_variable, want_variable_type, want_group_end, past_group, past_routine, want_procedure_name, want_function_name, want_function_colon, want_function_type, want_head_end, want_routine_end}
use Rattle.model.specs.Contexts.{want_command, past_name, to_assign, leia_open, escreva_open, leia_name, escreva_name, leia_close, escreva_close, past_command, past_then, past_commands, past_semicolon, want_simple, want_factor, past_factor, past_term, past_simple, past_expression}

pub data Settled : Type 0 where
  at : Focus → Settled
  wrong : MeaningFault → Settled

-- a command has ended: so has each that ends with it
abbrev pub settle_command : Next → Cmd → CommandIn → Settled
settle_command t c (in_body none k) = at (past_commands c k)
settle_command t c (in_body (some d) k) = at (past_commands (then_do d c) k)
settle_command t c (in_then p x k) =
    elim (is_word Words.Senao t) [ true ↦ at (past_then p x c k) | false ↦ settle_command t (Tree.se p x c) k ]
settle_command t c (in_else p x d q k) = settle_command t (se_senao p x d q c) k
settle_command t c (in_loop p x k) = settle_command t (Tree.enquanto p x c) k

abbrev pub settle_expression : Next → Exp → Ty → ExpressionIn → Settled
settle_expression t x y (bracketed k) = at (past_expression x y (bracketed k))
settle_expression t x y (assigned p f z k) = elim (same_type y z) [ true ↦ settle_command t (assign p f x) k | false ↦ wrong WrongType ]
settle_expression t x y (chosen p k) = elim (is_inteiro y) [ true ↦ wrong WrongType | false ↦ at (past_expression x y (chosen p k)) ]
settle_expression t x y (repeated p k) = elim (is_inteiro y) [ true ↦ wrong WrongType | false ↦ at (past_expression x y (repeated p k)) ]

abbrev pub settle_simple : Next → Exp → Ty → SimpleIn → Settled
settle_simple t x y (left_of k) =
    elim (present (adding t) || present (comparing t)) [ true ↦ at (past_simple x y (left_of k)) | false ↦ settle_expression t x y k ]
settle_simple t x y (right_of l z o p k) =
    elim (present (adding t)) [
      | true ↦ at (past_simple x y (right_of l z o p k))
      | false ↦ elim (fitting (takes o) z y) [ true ↦ settle_expression t (joined o p l x) (giving (takes o)) k | false ↦ wrong WrongType ]
    ]

abbrev pub end_term : Next → Exp → Ty → TermIn → Settled
end_term t x y (first_term k) = settle_simple t x y k
end_term t x y (plus_term k) = elim (is_inteiro y) [ true ↦ settle_simple t x y k | false ↦ wrong WrongType ]
end_term t x y (minus_term p k) = elim (is_inteiro y) [ true ↦ settle_simple t (negated p x) y k | false ↦ wrong WrongType ]
end_term t x y (next_term l z o p k) =
    elim (fitting (takes o) z y) [ true ↦ settle_simple t (joined o p l x) (giving (takes o)) k | false ↦ wrong WrongType ]

abbrev pub settle_term : Next → Exp → Ty → TermIn → Settled
settle_term t x y k = elim (present (multiplying t)) [ true ↦ at (past_term x y k) | false ↦ end_term t x y k ]

abbrev pub settle_factor : Next → Exp → Ty → FactorIn → Settled
settle_factor t x y (first_factor k) = settle_term t x y k
settle_factor t x y (next_factor l z o p k) =
    elim (fitting (takes o) z y) [ true ↦ settle_term t (joined o p l x) (giving (takes o)) k | false ↦ wrong WrongType ]
settle_factor t x y (denied_factor p k) = elim (is_inteiro y) [ true ↦ wrong WrongType | false ↦ settle_factor t (denied p x) y k ]

-- a command's leading name: what stands before `:=` is set, anything else is called
abbrev pub to_set : ℕ → Kind → ℕ → Bool → CommandIn → Settled
to_set p (a_variable y i) h inside k = at (to_assign p (record { hops = h; index = i }) y k)
to_set p (a_function y w) h true k = at (to_assign p (record { hops = pred h; index = 0 }) y k)
to_set p (a_function y w) h false k = wrong WrongKind
to_set p (a_procedure w) h inside k = wrong WrongKind

abbrev pub to_call : Next → ℕ → Kind → ℕ → CommandIn → Settled
to_call t p (a_procedure w) h k = settle_command t (invoke p (record { hops = h; index = w })) k
to_call t p (a_variable y i) h k = wrong WrongKind
to_call t p (a_function y w) h k = wrong WrongKind

abbrev pub settle : Next → Focus → Settled
settle t (past_factor x y k) = settle_factor t x y k
settle t (past_command c k) = settle_command t c k
settle t (past_name p d h inside k) = elim (is_sign Signs.Becomes t) [ true ↦ to_set p d h inside k | false ↦ to_call t p d h k ]
settle t want_programa = at want_programa
settle t want_title = at want_title
settle t want_title_end = at want_title_end
settle t (want_period c) = at (want_period c)
settle t block_start = at block_start
settle t want_variable = at want_variable
settle t past_variable = at past_variable
settle t want_variable_type = at want_variable_type
settle t want_group_end = at want_group_end
settle t past_group = at past_group
settle t past_routine = at past_routine
settle t (want_procedure_name p) = at (want_procedure_name p)
settle t (want_function_name p) = at (want_function_name p)
settle t (want_function_colon p s) = at (want_function_colon p s)
settle t (want_function_type p s) = at (want_function_type p s)
settle t want_head_end = at want_head_end
settle t (want_routine_end c) = at (want_routine_end c)
settle t (want_command k) = at (want_command k)
settle t (to_assign p f y k) = at (to_assign p f y k)
settle t (leia_open p k) = at (leia_open p k)
settle t (escreva_open p k) = at (escreva_open p k)
settle t (leia_name p k) = at (leia_name p k)
settle t (escreva_name p k) = at (escreva_name p k)
settle t (leia_close p q f k) = at (leia_close p q f k)
settle t (escreva_close p q f k) = at (escreva_close p q f k)
settle t (past_then p x c k) = at (past_then p x c k)
settle t (past_commands c k) = at (past_commands c k)
settle t (past_semicolon c k) = at (past_semicolon c k)
settle t (want_simple k) = at (want_simple k)
settle t (want_factor k) = at (want_factor k)
settle t (past_term x y k) = at (past_term x y k)
settle t (past_simple x y k) = at (past_simple x y k)
settle t (past_expression x y k) = at (past_expression x y k)
