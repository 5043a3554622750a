-- What the judge makes of a condition and of the word behind it.
use Rattle.std.proofs.Common.{◌≡◌, ℕ, pred, ◌+◌, ◌≤◌, true, false, List, ◌++◌, length, Ok, Err, Result, sym, refl, ap, ◌∙◌, subst, arith, eqb-true}
use mathlib.Core.Option.{none, some}
use Rattle.model.specs.declared.tokens.Word.{Word}
use Rattle.model.specs.declared.tokens.Word.TheVariants as Words
use Rattle.model.specs.declared.script.Ty.{Ty}
use Rattle.model.specs.declared.faults.MeaningFault.TheVariants.{WrongType}
use Rattle.model.specs.declared.faults.Cause.TheVariants as Causes
use Rattle.model.specs.declared.faults.Fault.{Fault}
use Rattle.model.specs.declared.table.Entry.{Entry}
use Rattle.model.specs.Code.{of_exp}
use Rattle.model.specs.Tokens.{Token}
use Rattle.model.specs.Tree.{Exp}
use Rattle.model.specs.Ahead.{Next, word_number, is_word}
use Rattle.model.specs.Types.{is_inteiro}
use Rattle.model.specs.Names.{Scope}
use Rattle.model.specs.Contexts.{CommandIn, want_command, past_expression, levels_of_expression}
use Rattle.model.specs.Settling.{at, wrong, settle_expression}
use Rattle.model.specs.Judged.{admitted, not_admitted, on}
use Rattle.model.specs.Judge.{shift}
use Rattle.cursor.specs.Rests.{ahead_of, place_of, Takes, stray}
use Rattle.listing.specs.Listings.{Lists}
use Rattle.scopes.specs.Levels.{Level, scopes_of, laid_of_all}
use Rattle.expressions.specs.declared.Translation.{Translation}
use Rattle.expressions.specs.Parts.{expression, whole}
use Rattle.expressions.specs.Says as Says
use Rattle.expressions.specs.Says.{Here, here, scopes_at, Stands, Reached}
use Rattle.expressions.proofs.Chains.{stands_at}
use Rattle.commands.proofs.Coming.{begun, then_same, then_takes, then_breaks, then_misfits, then_strays, then_expression, then_refused}
use Rattle.expressions.proofs.Tokens.{There}
use Rattle.commands.specs.Runs.{Deep, Comes, Halts, Test, chooses, repeats, test_in, then_in, word_of, testing, TestIn}

pub level_more : (w : Test) (p : ℕ) (a : Here) (k : CommandIn) → Deep a k → pred (length (scopes_at a)) + levels_of_expression (test_in w p k) ≡ a.depth + 1
level_more chooses p a k h = omega (arith, h)
level_more repeats p a k h = omega (arith, h)

module _ (p : ℕ) (t : Next) (x : Exp) (y : Ty) (k : CommandIn) where
  pub no_truth : (w : Test) → is_inteiro y ≡ true → settle_expression t x y (test_in w p k) ≡ wrong WrongType
  no_truth chooses e = rw (e, settle_expression) refl
  no_truth repeats e = rw (e, settle_expression) refl

  pub a_truth : (w : Test) → is_inteiro y ≡ false → settle_expression t x y (test_in w p k) ≡ at (past_expression x y (test_in w p k))
  a_truth chooses e = rw (e, settle_expression) refl
  a_truth repeats e = rw (e, settle_expression) refl

module _ (room : ℕ) (cs : List Scope) (t : Token) (n p : ℕ) (x : Exp) (y : Ty) (k : CommandIn) where
  pub goes : (w : Test) → is_word (word_of w) (some t) ≡ true → shift room cs t n (past_expression x y (test_in w p k)) ≡ on cs (want_command (then_in w p x k))
  goes chooses e = ap (λ b. admitted b (on cs (want_command (then_in chooses p x k)))) e
  goes repeats e = ap (λ b. admitted b (on cs (want_command (then_in repeats p x k)))) e

  pub goes_not : (w : Test) → is_word (word_of w) (some t) ≡ false → shift room cs t n (past_expression x y (test_in w p k)) ≡ not_admitted
  goes_not chooses e = ap (λ b. admitted b (on cs (want_command (then_in chooses p x k)))) e
  goes_not repeats e = ap (λ b. admitted b (on cs (want_command (then_in repeats p x k)))) e

-- ── words ───────────────────────────────────────────────────────────────────────────────────

word_high : (w : Word) → 10 ≤ word_number w
word_high Words.Var = omega arith
word_high Words.Inteiro = omega arith
word_high Words.Booleano = omega arith
word_high Words.Verdadeiro = omega arith
word_high Words.Falso = omega arith
word_high Words.Programa = omega arith
word_high Words.Procedimento = omega arith
word_high Words.Funcao = omega arith
word_high Words.Inicio = omega arith
word_high Words.Fim = omega arith
word_high Words.Se = omega arith
word_high Words.Entao = omega arith
word_high Words.Senao = omega arith
word_high Words.Enquanto = omega arith
word_high Words.Faca = omega arith
word_high Words.Leia = omega arith
word_high Words.Escreva = omega arith
word_high Words.E = omega arith
word_high Words.Ou = omega arith
word_high Words.Nao = omega arith
word_high Words.Div = omega arith

-- where a word is ahead, the text does not end
pub any_word_there : (w : Word) (n : Next) → is_word w n ≡ true → There n
any_word_there w none h = absurd (omega (arith, word_high w, eqb-true (word_number w) 2 h))
any_word_there w (some t) h = record { token = t; is = refl }

-- ── conditions ──────────────────────────────────────────────────────────────────────────────

module _ (b : Translation) (i : ℕ) (w : Test) (p n : ℕ) (os : List Level) (es : List Entry) (d : i ≡ n + 1) (st : Stands (here b n os es)) where
  pub test_refused : (e : Translation) (f : Fault) → Says.Translates expression (whole expression) b i e (Err f) → Halts (testing w p) (here b n os es) f
  test_refused e f z = then_refused b (test_in w p) (begun (testing w p) (here b n os es)) es i (λ k h. level_more w p (here b n os es) k h ∙ sym d) f (z.says os es (stands_at st i))

  module _ {y : Ty} {e : Translation} (z : Says.Translates expression (whole expression) b i e (Ok y)) where
    abbrev inner : Reached expression (whole expression) (here b i os es) y e
    inner = z.says os es (stands_at st i)

    past : Comes (testing w p) (here b n os es) (λ k t. settle_expression t inner.exp y (test_in w p k)) e.cursor.now
    past = then_expression b (test_in w p) (begun (testing w p) (here b n os es)) es i (λ k h. level_more w p (here b n os es) k h ∙ sym d) y e inner

    pub test_misfits : is_inteiro y ≡ true → (f : Fault) → (f.cause ≡ Causes.Meaning WrongType) × (f.place ≡ place_of e.cursor.now) → Halts (testing w p) (here b n os es) f
    test_misfits g f x = then_misfits past WrongType (λ k. no_truth p (ahead_of e.cursor.now) inner.exp y k w g) f x.0 x.1

    module _ (g : is_inteiro y ≡ false) (v : Word) (is : v ≡ word_of w) where
      settled : Comes (testing w p) (here b n os es) (λ k t. at (past_expression inner.exp y (test_in w p k))) e.cursor.now
      settled = then_same past (λ k t. at (past_expression inner.exp y (test_in w p k))) (λ k. a_truth p (ahead_of e.cursor.now) inner.exp y k w g)

      pub test_strays : is_word v (ahead_of e.cursor.now) ≡ false → (f : Fault) → (f.cause ≡ stray (ahead_of e.cursor.now)) × (f.place ≡ place_of e.cursor.now) → Halts (testing w p) (here b n os es) f
      test_strays h f x =
          then_strays settled (λ k. past_expression inner.exp y (test_in w p k)) (λ k. refl) (λ room k t m j. goes_not room (scopes_of os) t m p inner.exp y k w (ap (λ a. is_word a (some t)) (sym is) ∙ ap (is_word v) (sym j) ∙ h)) f x.0 x.1

      pub test_ends : is_word v (ahead_of e.cursor.now) ≡ true → (c : Translation) → c.listing ≡ e.listing → (r : Result (Unit {0}) Fault) → Takes e.cursor.now r c.cursor.now → TestIn w p (here b n os es) c r
      test_ends h c l (Ok u) x =
          let o = any_word_there v (ahead_of e.cursor.now) h in
          record {
            exp = inner.exp;
            lists = subst (λ q. Lists q.now (es ++ of_exp (laid_of_all os) inner.exp)) (sym l) inner.lists;
            comes = then_takes settled o.token o.is (λ k. past_expression inner.exp y (test_in w p k)) (λ k. refl) (λ k. want_command (then_in w p inner.exp k)) (λ room k. goes room (scopes_of os) o.token (place_of e.cursor.now) p inner.exp y k w (ap (λ a. is_word a (some o.token)) (sym is) ∙ ap (is_word v) (sym o.is) ∙ h)) c.cursor.now x.0;
          }
      test_ends h c l (Err f) x =
          let o = any_word_there v (ahead_of e.cursor.now) h in
          then_breaks settled o.token o.is (λ k. past_expression inner.exp y (test_in w p k)) (λ k. refl) (λ k. want_command (then_in w p inner.exp k)) (λ room k. goes room (scopes_of os) o.token (place_of e.cursor.now) p inner.exp y k w (ap (λ a. is_word a (some o.token)) (sym is) ∙ ap (is_word v) (sym o.is) ∙ h)) f x
