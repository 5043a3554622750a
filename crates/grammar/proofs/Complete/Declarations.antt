-- The tokens that the rules make into declarations, blocks and a program lead the judge past them.
use Rattle.std.proofs.Common.{◌≡◌, ℕ, ◌+◌, ◌<◌, ◌≤◌, false, ltb, leb, ◌⊎◌, List, [], ◌∷◌, ◌++◌, length, sym, refl, ap, ◌∙◌, subst, inl, inr, arith, lt-ltb, le-leb}
use mathlib.Core.Option.{none, some}
use Rattle.model.specs.declared.tokens.Word.{Word}
use Rattle.model.specs.declared.script.Ty.{Ty}
use Rattle.model.specs.declared.tokens.Word.TheVariants as Words
use Rattle.model.specs.declared.tokens.Sign.TheVariants as Signs
use Rattle.model.specs.declared.faults.MeaningFault.TheVariants.{Twice}
use Rattle.model.specs.declared.faults.RoomFault.TheVariants.{NamesFull, ManyCells}
use Rattle.model.specs.declared.faults.Cause.TheVariants as Causes
use Rattle.model.specs.Tokens.{next, Stream, name, Lexeme, sign, Token, word}
use Rattle.model.specs.Tree.{Cmd, procedure, function}
use Rattle.model.specs.Ahead.{is_word}
use Rattle.model.specs.Names.{Scope, declared_here, records, a_procedure, a_function}
use Rattle.model.specs.Blocks.{wait, typed, opened, with_routine_name}
use Rattle.model.specs.Contexts.{Focus, block_start, past_group, past_routine, want_period, want_routine_end}
use Rattle.model.specs.Contexts.{want_variable, past_variable, want_procedure_name, want_function_name, want_command}
use Rattle.model.specs.Contexts.{in_body, own, want_head_end, want_function_colon}
use Rattle.model.specs.Judged.{Judged, refuses, on, deeper}
use Rattle.model.specs.Bodies.{body_ended}
use Rattle.model.specs.Heads.{declares, routine_or_body}
use Rattle.model.specs.Judge.{Verdict, go_on, verdict}
use Rattle.model.specs.Grammar.{Fresh, at, group, Names, first_name, next_name, g, name_at, Groups, no_group, Variables}
use Rattle.model.specs.Grammar.{none_declared, declared, Deep, FreshRoutine, Routine, a_procedure_of, a_function_of}
use Rattle.model.specs.Grammar.{RoutineList, no_routine, routine_more, Inside, whole}
use Rattle.grammar.specs.Operators.{NamesType, inteiro, booleano}
use Rattle.grammar.proofs.Choosing.{choose, choose_false, choose_true}
use Rattle.grammar.proofs.Questions.{names_type}
use Rattle.grammar.proofs.Levels.{deeper_admits}
use Rattle.grammar.proofs.Streams.{outcome, ◌▷◌, split}
use Rattle.grammar.proofs.Complete.Commands.{passes_own_body}

-- where a routine or the block's body may come next
data RoutineMayCome : Focus → Type 0 where
  at_the_start : RoutineMayCome block_start
  past_a_group : RoutineMayCome past_group
  past_a_routine : RoutineMayCome past_routine

-- where the judge stands past the body of a block with the blocks cs around it
abbrev past_own_body : List Scope → Cmd → Focus
past_own_body [] c = want_period c
past_own_body (u ∷ cs) c = want_routine_end c

module _ (room : ℕ) where
  abbrev judging : List Scope → Stream → Focus → Verdict
  judging = outcome room

  -- ── names ─────────────────────────────────────────────────────────────────────────────────

  declares_admits :
      (cs : List Scope) (s : Scope) (n : List ℕ) (cell : ℕ) (j : Judged) →
      declared_here n s ≡ false → records (s ∷ cs) < room → cell ≤ 4096 → declares room cs s n cell j ≡ j
  declares_admits cs s n cell j d r c =
      let celled : Judged = choose (leb cell 4096) j (refuses (Causes.Room ManyCells)) in
      let recorded : Judged = choose (ltb (records (s ∷ cs)) room) celled (refuses (Causes.Room NamesFull)) in
      choose_false (refuses (Causes.Meaning Twice)) recorded d
      ∙ choose_true celled (refuses (Causes.Room NamesFull)) (lt-ltb (records (s ∷ cs)) room r)
      ∙ choose_true j (refuses (Causes.Room ManyCells)) (le-leb cell 4096 c)

  at_new_name :
      (cs : List Scope) (s : Scope) (n : List ℕ) (p : ℕ) (r : Stream) → Fresh room cs s n →
      (ds : List Scope) (f : Focus) →
      go_on (verdict room r) p r (declares room cs s n (s.first + s.cells + 1) (on ds f)) ≡ judging ds r f
  at_new_name cs s n p r fresh ds f =
      ap (go_on (verdict room r) p r)
      (declares_admits cs s n (s.first + s.cells + 1) (on ds f) fresh.0 fresh.1 fresh.2)

  -- ── variables ─────────────────────────────────────────────────────────────────────────────

  -- at a group's first name it is the same whether a name is wanted or a group may come
  names_begin_group :
      {cs : List Scope} {ts : List Lexeme} {s u : Scope} → Names room cs ts s u → (ds : List Scope) (r : Stream) →
      judging ds (ts ▷ r) want_variable ≡ judging ds (ts ▷ r) past_group
  names_begin_group (first_name p n s fresh) ds r = refl
  names_begin_group (next_name p q n ts s u e fresh) ds r =
      let last : List Lexeme = g Signs.Comma q ∷ name_at n p ∷ [] in
      split room ds ts last r want_variable
      ∙ names_begin_group e ds (last ▷ r)
      ∙ sym (split room ds ts last r past_group)

  passes_names :
      {cs : List Scope} {ts : List Lexeme} {s u : Scope} → Names room cs ts s u → (r : Stream) →
      judging (s ∷ cs) (ts ▷ r) want_variable ≡ judging (u ∷ cs) r past_variable
  passes_names {cs} (first_name p n s fresh) r = at_new_name cs s n p r fresh (wait s n ∷ cs) past_variable
  passes_names {cs} (next_name p q n ts s u e fresh) r =
      split room (s ∷ cs) ts (g Signs.Comma q ∷ name_at n p ∷ []) r want_variable
      ∙ passes_names e (next (sign Signs.Comma) q (next (name n) p r))
      ∙ at_new_name cs u n p r fresh (wait u n ∷ cs) past_variable

  at_group_type :
      {t : Token} {y : Ty} → NamesType t y → (cs : List Scope) (v : Scope) (p q o : ℕ) (r : Stream) →
      judging (v ∷ cs) (next (sign Signs.Colon) p (next t q (next (sign Signs.Semicolon) o r))) past_variable
      ≡ judging (typed v y ∷ cs) r past_group
  at_group_type inteiro cs v p q o r = refl
  at_group_type booleano cs v p q o r = refl

  passes_groups :
      {cs : List Scope} {ts : List Lexeme} {s u : Scope} → Groups room cs ts s u → (r : Stream) →
      judging (s ∷ cs) (ts ▷ r) past_group ≡ judging (u ∷ cs) r past_group
  passes_groups (no_group s) r = refl
  passes_groups {cs} (group p q o ts us t y s u v e f h) r =
      let last : List Lexeme = g Signs.Colon p ∷ at t q ∷ g Signs.Semicolon o ∷ [] in
      split room (s ∷ cs) (ts ++ us) last r past_group
      ∙ split room (s ∷ cs) ts us (last ▷ r) past_group
      ∙ passes_groups e (us ▷ (last ▷ r))
      ∙ sym (names_begin_group f (u ∷ cs) (last ▷ r))
      ∙ passes_names f (last ▷ r)
      ∙ at_group_type (names_type t y h) cs v p q o r

  -- at the first token of these it is the same whether a name is wanted or a group may come
  abbrev BeginGroup : List Lexeme → Type 0
  BeginGroup ts = (ds : List Scope) (r : Stream) → judging ds (ts ▷ r) want_variable ≡ judging ds (ts ▷ r) past_group

  groups_begin_group :
      {cs : List Scope} {ts : List Lexeme} {s u : Scope} → Groups room cs ts s u → (ts ≡ []) ⊎ BeginGroup ts
  groups_begin_group (no_group s) = inl refl
  groups_begin_group (group p q o ts us t y s u v e f h) =
      inr (λ ds r.
      split room ds (ts ++ us) last r want_variable
      ∙ split room ds ts us (last ▷ r) want_variable
      ∙ then_names (groups_begin_group e) ds (last ▷ r)
      ∙ sym (split room ds ts us (last ▷ r) past_group)
      ∙ sym (split room ds (ts ++ us) last r past_group))
    where
      last : List Lexeme
      last = g Signs.Colon p ∷ at t q ∷ g Signs.Semicolon o ∷ []

      then_names :
          (ts ≡ []) ⊎ BeginGroup ts → (ds : List Scope) (r : Stream) →
          judging ds (ts ▷ (us ▷ r)) want_variable ≡ judging ds (ts ▷ (us ▷ r)) past_group
      then_names (inl z) ds r =
          subst (λ a. judging ds (a ▷ (us ▷ r)) want_variable ≡ judging ds (a ▷ (us ▷ r)) past_group) (sym z)
          (names_begin_group f ds r)
      then_names (inr z) ds r = z ds (us ▷ r)

  cons_is_not_nil : {l : Lexeme} {ts : List Lexeme} → l ∷ ts ≡ [] → ⊥
  cons_is_not_nil e = let z : ◌≡◌ {A = ℕ} 0 1 = cc in omega arith

  some_group : {l : Lexeme} {ts : List Lexeme} → (l ∷ ts ≡ []) ⊎ BeginGroup (l ∷ ts) → BeginGroup (l ∷ ts)
  some_group (inl e) = absurd (cons_is_not_nil e)
  some_group (inr h) = h

  -- from f on, the judge comes to a place where a routine may come, with this stream before it
  abbrev ComesToRoutines : List Scope → Stream → Focus → List Scope → Stream → Type 0
  ComesToRoutines cs s f ds r = (h : Focus) × RoutineMayCome h × (judging cs s f ≡ judging ds r h)

  passes_variables :
      {cs : List Scope} {ts : List Lexeme} {s u : Scope} → Variables room cs ts s u → (r : Stream) →
      ComesToRoutines (s ∷ cs) (ts ▷ r) block_start (u ∷ cs) r
  passes_variables (none_declared s) r = (block_start, at_the_start, refl)
  passes_variables {cs} (declared p ts s u e) r =
      (past_group, past_a_group, some_group (groups_begin_group e) (s ∷ cs) r ∙ passes_groups e r)

  -- ── where routines and the body begin ─────────────────────────────────────────────────────

  at_routine_or_body :
      {f : Focus} → RoutineMayCome f → (v : Word) → is_word Words.Var (some (word v)) ≡ false →
      (cs : List Scope) (p : ℕ) (r : Stream) →
      judging cs (next (word v) p r) f ≡ go_on (verdict room r) p r (routine_or_body cs (some (word v)) p)
  at_routine_or_body at_the_start v e cs p r =
      ap (go_on (verdict room r) p r) (choose_false (on cs want_variable) (routine_or_body cs (some (word v)) p) e)
  at_routine_or_body past_a_group v e cs p r = refl
  at_routine_or_body past_a_routine v e cs p r = refl

  -- a routine or the body is one level more
  deeper_here_admits : (cs : List Scope) (s : Scope) (j : Judged) → Deep (length cs) → deeper (s ∷ cs) 0 j ≡ j
  deeper_here_admits cs s j h = deeper_admits (s ∷ cs) 0 (length cs) j (omega arith) h

  at_procedimento :
      {f : Focus} → RoutineMayCome f → (cs : List Scope) (s : Scope) (p : ℕ) (r : Stream) → Deep (length cs) →
      judging (s ∷ cs) (next (word Words.Procedimento) p r) f ≡ judging (s ∷ cs) r (want_procedure_name p)
  at_procedimento here cs s p r h =
      at_routine_or_body here Words.Procedimento refl (s ∷ cs) p r
      ∙ ap (go_on (verdict room r) p r) (deeper_here_admits cs s (on (s ∷ cs) (want_procedure_name p)) h)

  at_funcao :
      {f : Focus} → RoutineMayCome f → (cs : List Scope) (s : Scope) (p : ℕ) (r : Stream) → Deep (length cs) →
      judging (s ∷ cs) (next (word Words.Funcao) p r) f ≡ judging (s ∷ cs) r (want_function_name p)
  at_funcao here cs s p r h =
      at_routine_or_body here Words.Funcao refl (s ∷ cs) p r
      ∙ ap (go_on (verdict room r) p r) (deeper_here_admits cs s (on (s ∷ cs) (want_function_name p)) h)

  at_own_inicio :
      {f : Focus} → RoutineMayCome f → (cs : List Scope) (s : Scope) (p : ℕ) (r : Stream) → Deep (length cs) →
      judging (s ∷ cs) (next (word Words.Inicio) p r) f ≡ judging (s ∷ cs) r (want_command (in_body none own))
  at_own_inicio here cs s p r h =
      at_routine_or_body here Words.Inicio refl (s ∷ cs) p r
      ∙ ap (go_on (verdict room r) p r) (deeper_here_admits cs s (on (s ∷ cs) (want_command (in_body none own))) h)

  own_body_ends :
      (cs : List Scope) (v : Scope) (c : Cmd) (q : ℕ) (r : Stream) →
      go_on (verdict room r) q r (body_ended (v ∷ cs) c own) ≡ judging (v ∷ cs) r (past_own_body cs c)
  own_body_ends [] v c q r = refl
  own_body_ends (u ∷ cs) v c q r = refl

  -- ── heads of routines ─────────────────────────────────────────────────────────────────────

  -- the open blocks inside a procedure and inside a function, past their heads

  abbrev in_procedure : List Scope → Scope → List ℕ → ℕ → List Scope
  in_procedure cs s n p = opened s p procedure 0 ∷ with_routine_name s n (a_procedure s.count) ∷ cs

  abbrev in_function : List Scope → Scope → List ℕ → ℕ → Ty → List Scope
  in_function cs s n p y = opened s p (function y) 1 ∷ with_routine_name s n (a_function y s.count) ∷ cs

  at_procedure_head :
      (cs : List Scope) (s : Scope) (n : List ℕ) (p q o : ℕ) (r : Stream) → FreshRoutine room cs s n →
      judging (s ∷ cs) (next (name n) q (next (sign Signs.Semicolon) o r)) (want_procedure_name p)
      ≡ judging (in_procedure cs s n p) r block_start
  at_procedure_head cs s n p q o r fresh =
      let rest : Stream = next (sign Signs.Semicolon) o r in
      ap (go_on (verdict room rest) q rest)
      (declares_admits cs s n 0 (on (in_procedure cs s n p) want_head_end) fresh.0 fresh.1 (omega arith))

  at_function_head :
      {t : Token} {y : Ty} → NamesType t y →
      (cs : List Scope) (s : Scope) (n : List ℕ) (p q o h i : ℕ) (r : Stream) → Fresh room cs s n →
      judging (s ∷ cs) (next (name n) q (next (sign Signs.Colon) h (next t i (next (sign Signs.Semicolon) o r))))
      (want_function_name p)
      ≡ judging (in_function cs s n p y) r block_start
  at_function_head inteiro cs s n p q o h i r fresh =
      at_new_name cs s n q (next (sign Signs.Colon) h (next (word Words.Inteiro) i (next (sign Signs.Semicolon) o r)))
      fresh (s ∷ cs) (want_function_colon p n)
  at_function_head booleano cs s n p q o h i r fresh =
      at_new_name cs s n q (next (sign Signs.Colon) h (next (word Words.Booleano) i (next (sign Signs.Semicolon) o r)))
      fresh (s ∷ cs) (want_function_colon p n)

  -- ── routines and blocks ───────────────────────────────────────────────────────────────────

  mutual
    passes_routine :
        {cs : List Scope} {us : List Lexeme} {s v : Scope} → Routine room cs us s v →
        (f : Focus) → RoutineMayCome f → (r : Stream) →
        judging (s ∷ cs) (us ▷ r) f ≡ judging (v ∷ cs) r past_routine
    passes_routine {cs} (a_procedure_of p q o z n ts s v d fresh e) f here r =
        let block : Stream = (ts ++ g Signs.Semicolon z ∷ []) ▷ r in
        at_procedimento here cs s p (next (name n) q (next (sign Signs.Semicolon) o block)) d
        ∙ at_procedure_head cs s n p q o block fresh
        ∙ split room (in_procedure cs s n p) ts (g Signs.Semicolon z ∷ []) r block_start
        ∙ passes_inside e (next (sign Signs.Semicolon) z r)
    passes_routine {cs} (a_function_of p q o z h i n ts t y s v d fresh ty e) f here r =
        let block : Stream = (ts ++ g Signs.Semicolon z ∷ []) ▷ r in
        at_funcao here cs s p (next (name n) q (next (sign Signs.Colon) h
        (next t i (next (sign Signs.Semicolon) o block)))) d
        ∙ at_function_head (names_type t y ty) cs s n p q o h i block fresh
        ∙ split room (in_function cs s n p y) ts (g Signs.Semicolon z ∷ []) r block_start
        ∙ passes_inside e (next (sign Signs.Semicolon) z r)

    passes_routines :
        {cs : List Scope} {us : List Lexeme} {s v : Scope} → RoutineList room cs us s v →
        (f : Focus) → RoutineMayCome f → (r : Stream) → ComesToRoutines (s ∷ cs) (us ▷ r) f (v ∷ cs) r
    passes_routines (no_routine s) f here r = (f, here, refl)
    passes_routines {cs} (routine_more ts us s u v e h) f here r =
        let a = passes_routines e f here (us ▷ r) in
        (past_routine, past_a_routine, split room (s ∷ cs) ts us r f ∙ a.2 ∙ passes_routine h a.0 a.1 r)

    pub passes_inside :
        {cs : List Scope} {ts : List Lexeme} {s v : Scope} {c : Cmd} → Inside room cs ts s v c → (r : Stream) →
        judging (s ∷ cs) (ts ▷ r) block_start ≡ judging (v ∷ cs) r (past_own_body cs c)
    passes_inside {cs} (whole ts us vs s u v {c} e h b) r =
        let a = passes_variables e (us ▷ (vs ▷ r)) in
        let i = passes_routines h a.0 a.1 (vs ▷ r) in
        let o = passes_own_body room (v ∷ cs) b refl r i.0 (λ p q d. at_own_inicio i.1 cs v p q d) in
        split room (s ∷ cs) (ts ++ us) vs r block_start ∙ split room (s ∷ cs) ts us (vs ▷ r) block_start
        ∙ a.2 ∙ i.2 ∙ o.1 ∙ own_body_ends cs v c o.0 r
