-- What the judge makes of `leia` and `escreva`, their brackets and their variable.
use Rattle.std.proofs.Common.{◌≡◌, ℕ, ◌≤◌, Bool, true, false, eqb, List, ◌++◌, length, Some, Ok, Err, Option as Maybe, sym, refl, ap, ◌∙◌, subst, true≢false, arith, eqb-true}
use mathlib.Core.Option.{Option, some}
use Rattle.model.specs.declared.tokens.Sign.{Sign}
use Rattle.model.specs.declared.tokens.Sign.TheVariants as Signs
use Rattle.model.specs.declared.tokens.Word.{Word}
use Rattle.model.specs.declared.tokens.Word.TheVariants as Words
use Rattle.model.specs.declared.faults.Cause.TheVariants as Causes
use Rattle.model.specs.declared.faults.MeaningFault.TheVariants.{WrongKind}
use Rattle.model.specs.Tokens.{Token, word, sign, name, number}
use Rattle.model.specs.Tree.{Found}
use Rattle.model.specs.Ahead.{Next, next_number, sign_number, word_number, is_sign, is_word}
use Rattle.model.specs.Names.{Scope, Seen, visible}
use Rattle.model.specs.Contexts.{CommandIn, want_command, past_command, leia_open, escreva_open, leia_close, escreva_close}
use Rattle.model.specs.Settling.{at, settle, settle_command}
use Rattle.model.specs.Judged.{admitted, not_admitted, on, refuses, with_seen}
use Rattle.model.specs.Bodies.{number_variable, shift_command}
use Rattle.model.specs.Judge.{shift}
use Rattle.model.specs.Code.{Laid, of_cmd}
use Rattle.model.specs.declared.faults.Fault.{Fault}
use Rattle.model.specs.declared.table.Entry.{Entry}
use Rattle.model.specs.declared.names.NameKind.TheVariants.{Variable}
use Rattle.model.specs.declared.script.Ty.TheVariants.{Inteiro, Booleano}
use Rattle.cursor.specs.Rests.{rest_of, behind, ahead_of, place_of, Breaks, stray}
use Rattle.listing.specs.Listings.{Lists}
use Rattle.scopes.specs.declared.names.Name.{Name}
use Rattle.scopes.specs.Levels.{Level, scopes_of, laid_of_all, Matches, neither, variables, procedures, functions}
use Rattle.expressions.specs.declared.Translation.{Translation}
use Rattle.expressions.specs.Says.{here, Stands}
use Rattle.expressions.proofs.Tokens.{There, sign_there, word_there}
use Rattle.expressions.proofs.Chains.{Moved, stands_moved}
use Rattle.commands.specs.declared.Target.{Target}
use Rattle.commands.specs.Runs.{wanted, Comes, Done, Halts, Way, reads, writes, opens, names, closes, keyword_of, command_of, CellFound, Named, Names}
use Rattle.commands.proofs.Coming.{begun, then_same, then_takes, then_breaks, then_strays, then_halted, then_comes}

-- ── the variable ────────────────────────────────────────────────────────────────────────────

module _ (room : ℕ) (cs : List Scope) (s : List ℕ) (n p : ℕ) (k : CommandIn) where
  pub sees : (w : Way) (o : Seen) → visible s cs ≡ some o → shift room cs (name s) n (names w p k) ≡ number_variable o.kind o.hops (λ f. on cs (closes w p n f k))
  sees reads o e = ap (λ v. with_seen v (λ d. number_variable d.kind d.hops (λ f. on cs (leia_close p n f k)))) e
  sees writes o e = ap (λ v. with_seen v (λ d. number_variable d.kind d.hops (λ f. on cs (escreva_close p n f k)))) e

  -- a name that stands for anything else than a variable of numbers
  pub sees_no_cell : (w : Way) (ls : List Laid) (over : Bool) (m : Maybe Name) (o : Option Seen) → Matches ls over m o → visible s cs ≡ o → (v : Name) → m ≡ Some v → (v.kind ≡ Variable Inteiro → ⊥) → shift room cs (name s) n (names w p k) ≡ refuses (Causes.Meaning WrongKind)
  sees_no_cell w ls over m o neither e v q f = let z : ◌≡◌ {A = ℕ} 0 1 = cc in absurd (omega arith)
  sees_no_cell w ls over m o (variables v' Inteiro i h c d x) e v q f = let z : v' ≡ v = cc in absurd (f (ap (λ a. a.kind) (sym z) ∙ d))
  sees_no_cell w ls over m o (variables v' Booleano i h c d x) e v q f = sees w _ e
  sees_no_cell w ls over m o (procedures v' a h c d x) e v q f = sees w _ e
  sees_no_cell w ls over m o (functions v' y a h c d x i j) e v q f = sees w _ e

-- ── the brackets ────────────────────────────────────────────────────────────────────────────

names_wait : (w : Way) (p : ℕ) (k : CommandIn) (u : Next) → settle u (names w p k) ≡ at (names w p k)
names_wait reads p k u = refl
names_wait writes p k u = refl

opens_wait : (w : Way) (p : ℕ) (k : CommandIn) (u : Next) → settle u (opens w p k) ≡ at (opens w p k)
opens_wait reads p k u = refl
opens_wait writes p k u = refl

closes_wait : (w : Way) (p q : ℕ) (f : Found) (k : CommandIn) (u : Next) → settle u (closes w p q f k) ≡ at (closes w p q f k)
closes_wait reads p q f k u = refl
closes_wait writes p q f k u = refl

module _ (room : ℕ) (cs : List Scope) (t : Token) (n p : ℕ) (k : CommandIn) where
  opened : (w : Way) → is_sign Signs.OpenBracket (some t) ≡ true → shift room cs t n (opens w p k) ≡ on cs (names w p k)
  opened reads e = ap (λ b. admitted b (on cs (names reads p k))) e
  opened writes e = ap (λ b. admitted b (on cs (names writes p k))) e

  closed : (w : Way) (q : ℕ) (f : Found) → is_sign Signs.CloseBracket (some t) ≡ true → shift room cs t n (closes w p q f k) ≡ on cs (past_command (command_of w p q f) k)
  closed reads q f e = ap (λ b. admitted b (on cs (past_command (command_of reads p q f) k))) e
  closed writes q f e = ap (λ b. admitted b (on cs (past_command (command_of writes p q f) k))) e

  not_closed : (w : Way) (q : ℕ) (f : Found) → is_sign Signs.CloseBracket (some t) ≡ false → shift room cs t n (closes w p q f k) ≡ not_admitted
  not_closed reads q f e = ap (λ b. admitted b (on cs (past_command (command_of reads p q f) k))) e
  not_closed writes q f e = ap (λ b. admitted b (on cs (past_command (command_of writes p q f) k))) e

-- ── the keywords ────────────────────────────────────────────────────────────────────────────

sign_high : (g : Sign) → 40 ≤ sign_number g
sign_high Signs.Plus = omega arith
sign_high Signs.Minus = omega arith
sign_high Signs.Times = omega arith
sign_high Signs.Equal = omega arith
sign_high Signs.Unequal = omega arith
sign_high Signs.Less = omega arith
sign_high Signs.AtMost = omega arith
sign_high Signs.Greater = omega arith
sign_high Signs.AtLeast = omega arith
sign_high Signs.Becomes = omega arith
sign_high Signs.Colon = omega arith
sign_high Signs.Semicolon = omega arith
sign_high Signs.Comma = omega arith
sign_high Signs.Period = omega arith
sign_high Signs.OpenBracket = omega arith
sign_high Signs.CloseBracket = omega arith

-- what is known of a token with the number of a word
word_is : (t : Next) (w v : Word) → is_word w t ≡ true → (b : Bool) → eqb (word_number v) (word_number w) ≡ b → is_word v t ≡ b
word_is t w v h b e = ap (eqb (word_number v)) (sym (eqb-true (word_number w) (next_number t) h)) ∙ e

-- a token that is a word begins a command as the word does
leia_begins : (t : Token) → is_word Words.Leia (some t) ≡ true → (cs : List Scope) (p : ℕ) (k : CommandIn) → shift_command cs t p k ≡ on cs (leia_open p k)
leia_begins (name s) h cs p k = absurd (true≢false (sym h))
leia_begins (number n) h cs p k = absurd (true≢false (sym h))
leia_begins (sign g) h cs p k = absurd (omega (arith, sign_high g, eqb-true (word_number Words.Leia) (sign_number g) h))
leia_begins (word w) h cs p k =
    let t = some (word w) in
    let a : is_word Words.Se t ≡ false = word_is t Words.Leia Words.Se h false refl in
    let b : is_word Words.Enquanto t ≡ false = word_is t Words.Leia Words.Enquanto h false refl in
    let c : is_word Words.Inicio t ≡ false = word_is t Words.Leia Words.Inicio h false refl in
    rw (a, shift_command) (rw b (rw c (rw h refl)))

escreva_begins : (t : Token) → is_word Words.Escreva (some t) ≡ true → (cs : List Scope) (p : ℕ) (k : CommandIn) → shift_command cs t p k ≡ on cs (escreva_open p k)
escreva_begins (name s) h cs p k = absurd (true≢false (sym h))
escreva_begins (number n) h cs p k = absurd (true≢false (sym h))
escreva_begins (sign g) h cs p k = absurd (omega (arith, sign_high g, eqb-true (word_number Words.Escreva) (sign_number g) h))
escreva_begins (word w) h cs p k =
    let t = some (word w) in
    let a : is_word Words.Se t ≡ false = word_is t Words.Escreva Words.Se h false refl in
    let b : is_word Words.Enquanto t ≡ false = word_is t Words.Escreva Words.Enquanto h false refl in
    let c : is_word Words.Inicio t ≡ false = word_is t Words.Escreva Words.Inicio h false refl in
    let d : is_word Words.Leia t ≡ false = word_is t Words.Escreva Words.Leia h false refl in
    rw (a, shift_command) (rw b (rw c (rw d (rw (h, admitted) refl))))

-- the keyword begins the command that it is for
pub way_begins : (w : Way) (t : Token) → is_word (keyword_of w) (some t) ≡ true → (cs : List Scope) (p : ℕ) (k : CommandIn) → shift_command cs t p k ≡ on cs (opens w p k)
way_begins reads = leia_begins
way_begins writes = escreva_begins

pub keyword_there : (w : Way) (n : Next) → is_word (keyword_of w) n ≡ true → There n
keyword_there reads = word_there Words.Leia refl
keyword_there writes = word_there Words.Escreva refl

-- ── the judge's way through the brackets ────────────────────────────────────────────────────

module _ {b d : Translation} (v : Moved b d) (i : is_sign Signs.OpenBracket (ahead_of b.cursor.now) ≡ true) (w : Way) (p n : ℕ) (os : List Level) (es : List Entry) where
  within : Comes (λ k t. at (opens w p k)) (here b n os es) (λ k t. at (names w p k)) d.cursor.now
  within =
      let o = sign_there Signs.OpenBracket refl (ahead_of b.cursor.now) i in
      then_same (then_takes (begun (λ k t. at (opens w p k)) (here b n os es)) o.token o.is (opens w p) (λ k. refl) (names w p) (λ room k. opened room (scopes_of os) o.token (place_of b.cursor.now) p k w (ap (is_sign Signs.OpenBracket) (sym o.is) ∙ i)) d.cursor.now v.taken.0) (
      λ k t. at (names w p k)) (λ k. names_wait w p k (ahead_of d.cursor.now))

  pub cell_refused : (f : Fault) → Halts (λ k t. at (names w p k)) (here d n os es) f → Halts (λ k t. at (opens w p k)) (here b n os es) f
  cell_refused f x = then_halted d within f x

  module _ (cell : ℕ) (f : CellFound w p (here d n os es) cell) where
    pub cell_breaks : (g : Fault) → Breaks (behind d.cursor.now) g → Halts (λ k t. at (opens w p k)) (here b n os es) g
    cell_breaks g x = then_breaks within f.token f.ahead (names w p) (λ k. refl) (closes w p (place_of d.cursor.now) f.found) f.shifts g x

    module _ {e : Translation} (u : Moved d e) where
      behind_name : Comes (λ k t. at (opens w p k)) (here b n os es) (λ k t. at (closes w p (place_of d.cursor.now) f.found k)) e.cursor.now
      behind_name =
          then_same (then_takes within f.token f.ahead (names w p) (λ k. refl) (closes w p (place_of d.cursor.now) f.found) f.shifts e.cursor.now u.taken.0) (λ k t. at (closes w p (place_of d.cursor.now) f.found k)) (
          λ k. closes_wait w p (place_of d.cursor.now) f.found k (ahead_of e.cursor.now))

      pub bracket_open : is_sign Signs.CloseBracket (ahead_of e.cursor.now) ≡ false → (g : Fault) → (g.cause ≡ stray (ahead_of e.cursor.now)) × (g.place ≡ place_of e.cursor.now) → Halts (λ k t. at (opens w p k)) (here b n os es) g
      bracket_open c g x =
          then_strays behind_name (closes w p (place_of d.cursor.now) f.found) (λ k. refl) (λ room k t m j. not_closed room (scopes_of os) t m p k w (place_of d.cursor.now) f.found (ap (is_sign Signs.CloseBracket) (sym j) ∙ c)) g x.0 x.1

      module _ (c : is_sign Signs.CloseBracket (ahead_of e.cursor.now) ≡ true) where
        end : There (ahead_of e.cursor.now)
        end = sign_there Signs.CloseBracket refl (ahead_of e.cursor.now) c

        shuts : (room : ℕ) (k : CommandIn) → shift room (scopes_of os) end.token (place_of e.cursor.now) (closes w p (place_of d.cursor.now) f.found k) ≡ on (scopes_of os) (past_command (command_of w p (place_of d.cursor.now) f.found) k)
        shuts room k = closed room (scopes_of os) end.token (place_of e.cursor.now) p k w (place_of d.cursor.now) f.found (ap (is_sign Signs.CloseBracket) (sym end.is) ∙ c)

        pub bracket_breaks : (g : Fault) → Breaks (behind e.cursor.now) g → Halts (λ k t. at (opens w p k)) (here b n os es) g
        bracket_breaks g x = then_breaks behind_name end.token end.is (closes w p (place_of d.cursor.now) f.found) (λ k. refl) (past_command (command_of w p (place_of d.cursor.now) f.found)) shuts g x

        pub bracket_closed : (c : Translation) → rest_of c.cursor.now ≡ behind e.cursor.now → (q : ℕ) → q ≡ place_of d.cursor.now → Named w p (here b n os es) (record { cell = cell; place = q }) c
        bracket_closed c r q x =
            record {
              found = f.found;
              cell = f.is;
              comes = subst (λ m. Comes (λ k t. at (opens w p k)) (here b n os es) (λ k t. settle_command t (command_of w p m f.found) k) c.cursor.now) (sym x) (
                  then_takes behind_name end.token end.is (closes w p (place_of d.cursor.now) f.found) (λ k. refl) (past_command (command_of w p (place_of d.cursor.now) f.found)) shuts c.cursor.now r);
            }

-- ── the whole command ───────────────────────────────────────────────────────────────────────

module _ {b d : Translation} (v : Moved b d) (w : Way) (i : is_word (keyword_of w) (ahead_of b.cursor.now) ≡ true) (n : ℕ) (os : List Level) (es : List Entry) (st : Stands (here b n os es)) where
  opens_way : Comes wanted (here b n os es) (λ k t. at (opens w (place_of b.cursor.now) k)) d.cursor.now
  opens_way =
      let o = keyword_there w (ahead_of b.cursor.now) i in
      then_same (then_takes (begun wanted (here b n os es)) o.token o.is want_command (λ k. refl) (opens w (place_of b.cursor.now)) (λ room k. way_begins w o.token (ap (is_word (keyword_of w)) (sym o.is) ∙ i) (scopes_of os) (place_of b.cursor.now) k) d.cursor.now v.taken.0) (
      λ k t. at (opens w (place_of b.cursor.now) k)) (λ k. opens_wait w (place_of b.cursor.now) k (ahead_of d.cursor.now))

  pub way_refused : (c : Translation) (f : Fault) → Names d c (Err f) → Halts wanted (here b n os es) f
  way_refused c f x = then_halted d opens_way f (x w (place_of b.cursor.now) n os es (stands_moved st n v))

  module _ {c : Translation} {t : Target} (x : Names d c (Ok t)) where
    abbrev pub found_way : Named w (place_of b.cursor.now) (here d n os es) t c
    found_way = x w (place_of b.cursor.now) n os es (stands_moved st n v)

    pub way_done : (c' : Translation) → c'.cursor.now ≡ c.cursor.now → Lists c'.listing.now (es ++ of_cmd (laid_of_all os) (length es) (command_of w (place_of b.cursor.now) t.place found_way.found)) → Done wanted (here b n os es) c'
    way_done c' still l =
        record {
          cmd = command_of w (place_of b.cursor.now) t.place found_way.found;
          lists = l;
          comes = subst (Comes wanted (here b n os es) (λ k t'. settle_command t' (command_of w (place_of b.cursor.now) t.place found_way.found) k)) (sym still) (
              then_comes d opens_way (λ k t'. settle_command t' (command_of w (place_of b.cursor.now) t.place found_way.found) k) c.cursor.now found_way.comes);
        }
