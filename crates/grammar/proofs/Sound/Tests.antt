-- The judge's tests of one token: whatever a test decides, what was read is kept.
use Rattle.std.proofs.Common.{◌≡◌, ℕ, suc, ◌+◌, ◌<◌, ◌≤◌, Bool, true, false, ltb, leb, List, [], ◌∷◌, sym, refl, ◌∙◌, subst, arith, ltb-true, leb-true}
use mathlib.Core.Option.{Option, none, some}
use Rattle.model.specs.declared.tokens.Word.{Word}
use Rattle.model.specs.declared.tokens.Sign.{Sign}
use Rattle.model.specs.declared.script.Ty.{Ty}
use Rattle.model.specs.declared.script.Operator.{Operator}
use Rattle.model.specs.declared.script.Ty.TheVariants.{Inteiro, Booleano}
use Rattle.model.specs.declared.faults.GrammarFault.TheVariants.{TooDeep}
use Rattle.model.specs.declared.faults.MeaningFault.TheVariants.{Twice}
use Rattle.model.specs.declared.faults.RoomFault.TheVariants.{NamesFull, ManyCells}
use Rattle.model.specs.declared.faults.Cause.TheVariants as Causes
use Rattle.model.specs.Tokens.{Lexeme, word, sign, Token, name, number}
use Rattle.model.specs.Tree.{Found}
use Rattle.model.specs.Ahead.{is_sign, is_word}
use Rattle.model.specs.Names.{Scope, Seen, Kind, a_variable, a_procedure, a_function, declared_here, records}
use Rattle.model.specs.Judged.{Judged, admitted, with_name, deeper, refuses, with_operator, with_type, with_seen}
use Rattle.model.specs.Bodies.{number_variable}
use Rattle.model.specs.Heads.{declares}
use Rattle.model.specs.Grammar.{Program, Deep}
use Rattle.grammar.proofs.Choosing.{choose}
use Rattle.grammar.proofs.Questions.{is_that_sign, is_that_word}
use Rattle.grammar.proofs.Levels.{around}
use Rattle.grammar.proofs.Sound.SoFar.{Goes, goes_to, is_complete, is_refused}

module _ {room : ℕ} where
  pub same_tokens :
      {Y Z : List Lexeme → List Lexeme} → ((l : List Lexeme) → Y l ≡ Z l) → {j : Judged} →
      Goes room Y j → Goes room Z j
  same_tokens h (goes_to r e) = goes_to r (λ l. e l ∙ h l)
  same_tokens h (is_complete {b} r) = is_complete (subst (λ (z : List Lexeme). Program room z b) (h []) r)
  same_tokens h is_refused = is_refused

  -- ── is it this word, this sign? Y is what was read, with the token in its place ───────────

  if_so_keeps :
      (Y : Token → List Lexeme → List Lexeme) (t u : Token) (b : Bool) → (b ≡ true → t ≡ u) → {x y : Judged} →
      Goes room (Y u) x → Goes room (Y t) y → Goes room (Y t) (choose b x y)
  if_so_keeps Y t u true e {x} f h = subst (λ (z : Token). Goes room (Y z) x) (sym (e refl)) f
  if_so_keeps Y t u false e f h = h

  only_so_keeps :
      (Y : Token → List Lexeme → List Lexeme) (t u : Token) (b : Bool) → (b ≡ true → t ≡ u) → {x : Judged} →
      Goes room (Y u) x → Goes room (Y t) (admitted b x)
  only_so_keeps Y t u true e {x} f = subst (λ (z : Token). Goes room (Y z) x) (sym (e refl)) f
  only_so_keeps Y t u false e f = is_refused

  module _ (Y : Token → List Lexeme → List Lexeme) where
    pub if_sign_keeps :
        (v : Sign) (t : Token) {x y : Judged} →
        Goes room (Y (sign v)) x → Goes room (Y t) y → Goes room (Y t) (choose (is_sign v (some t)) x y)
    if_sign_keeps v t = if_so_keeps Y t (sign v) (is_sign v (some t)) (is_that_sign v t)

    pub if_word_keeps :
        (v : Word) (t : Token) {x y : Judged} →
        Goes room (Y (word v)) x → Goes room (Y t) y → Goes room (Y t) (choose (is_word v (some t)) x y)
    if_word_keeps v t = if_so_keeps Y t (word v) (is_word v (some t)) (is_that_word v t)

    pub only_sign_keeps :
        (v : Sign) (t : Token) {x : Judged} → Goes room (Y (sign v)) x →
        Goes room (Y t) (admitted (is_sign v (some t)) x)
    only_sign_keeps v t = only_so_keeps Y t (sign v) (is_sign v (some t)) (is_that_sign v t)

    pub only_word_keeps :
        (v : Word) (t : Token) {x : Judged} → Goes room (Y (word v)) x →
        Goes room (Y t) (admitted (is_word v (some t)) x)
    only_word_keeps v t = only_so_keeps Y t (word v) (is_word v (some t)) (is_that_word v t)

    pub with_name_keeps :
        (t : Token) {j : List ℕ → Judged} → ((n : List ℕ) → Goes room (Y (name n)) (j n)) →
        Goes room (Y t) (with_name t j)
    with_name_keeps (name n) f = f n
    with_name_keeps (number v) f = is_refused
    with_name_keeps (word v) f = is_refused
    with_name_keeps (sign v) f = is_refused

  -- ── other tests ───────────────────────────────────────────────────────────────────────────

  module _ {Y : List Lexeme → List Lexeme} where
    pub deeper_keeps :
        (cs : List Scope) (n l : ℕ) {j : Judged} → l ≡ around cs + n → (Deep l → Goes room Y j) →
        Goes room Y (deeper cs n j)
    deeper_keeps cs n l {j} e f = go (leb (suc (around cs + n)) 64) refl
      where
        go :
            (b : Bool) → leb (suc (around cs + n)) 64 ≡ b →
            Goes room Y (choose b j (refuses (Causes.Grammar TooDeep)))
        go true h = let a : suc (around cs + n) ≤ 64 = leb-true (suc (around cs + n)) 64 h in f (omega arith)
        go false h = is_refused

    pub with_operator_keeps :
        (o : Option Operator) {j : Operator → Judged} → ((a : Operator) → o ≡ some a → Goes room Y (j a)) →
        Goes room Y (with_operator o j)
    with_operator_keeps none f = is_refused
    with_operator_keeps (some a) f = f a refl

    pub operator_or_keeps :
        (o : Option Operator) {j : Operator → Judged} {i : Judged} →
        ((a : Operator) → o ≡ some a → Goes room Y (j a)) → Goes room Y i →
        Goes room Y (elim o [ some a ↦ j a | none ↦ i ])
    operator_or_keeps none f h = h
    operator_or_keeps (some a) f h = f a refl

    pub with_type_keeps :
        (o : Option Ty) {j : Ty → Judged} → ((a : Ty) → o ≡ some a → Goes room Y (j a)) → Goes room Y (with_type o j)
    with_type_keeps none f = is_refused
    with_type_keeps (some a) f = f a refl

    pub with_seen_keeps :
        (o : Option Seen) {j : Seen → Judged} → ((a : Seen) → o ≡ some a → Goes room Y (j a)) →
        Goes room Y (with_seen o j)
    with_seen_keeps none f = is_refused
    with_seen_keeps (some a) f = f a refl

    pub number_variable_keeps :
        (a : Kind) (h : ℕ) (j : Found → Judged) →
        ((i : ℕ) → a ≡ a_variable Inteiro i → Goes room Y (j (record { hops = h; index = i }))) →
        Goes room Y (number_variable a h j)
    number_variable_keeps (a_variable Inteiro i) h j f = f i refl
    number_variable_keeps (a_variable Booleano i) h j f = is_refused
    number_variable_keeps (a_procedure i) h j f = is_refused
    number_variable_keeps (a_function y i) h j f = is_refused

    pub declares_keeps :
        (cs : List Scope) (s : Scope) (n : List ℕ) (cell : ℕ) {j : Judged} →
        (declared_here n s ≡ false → records (s ∷ cs) < room → cell ≤ 4096 → Goes room Y j) →
        Goes room Y (declares room cs s n cell j)
    declares_keeps cs s n cell {j} f =
        go (declared_here n s) refl (ltb (records (s ∷ cs)) room) refl (leb cell 4096) refl
      where
        go :
            (a : Bool) → declared_here n s ≡ a → (b : Bool) → ltb (records (s ∷ cs)) room ≡ b →
            (c : Bool) → leb cell 4096 ≡ c →
            Goes room Y (
            choose a (refuses (Causes.Meaning Twice)) (
            choose b (choose c j (refuses (Causes.Room ManyCells))) (refuses (Causes.Room NamesFull)))
            )
        go true d b e c h = is_refused
        go false d true e true h = f d (ltb-true (records (s ∷ cs)) room e) (leb-true cell 4096 h)
        go false d true e false h = is_refused
        go false d false e c h = is_refused
