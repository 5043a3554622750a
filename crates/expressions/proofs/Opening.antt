-- Parts that begin with a narrower part, at the same token or behind a sign, a bracket or `nao`, and parts that end.
use Rattle.std.proofs.Common.{◌≡◌, ℕ, suc, pred, ◌+◌, ◌<◌, ◌≤◌, ◌⊎◌, Bool, true, false, eqb, leb, List, [], ◌∷◌, ◌++◌, length, Ok, Err, Result, sym, refl, ap, ◌∙◌, subst, append_assoc, ⊎_elim, arith, eqb-true, le-leb}
use mathlib.Core.Option.{none, some}
use Rattle.std.specs.Result.{IsErrAnd}
use Rattle.std.proofs.lemmas.Result.{err_from_is_err_and}
use Rattle.model.specs.declared.script.Ty.{Ty}
use Rattle.model.specs.declared.table.Entry.{Entry}
use Rattle.model.specs.declared.tokens.Sign.{Sign}
use Rattle.model.specs.declared.tokens.Sign.TheVariants as Signs
use Rattle.model.specs.declared.tokens.Word.TheVariants as Words
use Rattle.model.specs.declared.faults.Fault.{Fault}
use Rattle.model.specs.declared.faults.Cause.TheVariants as Causes
use Rattle.model.specs.declared.faults.MeaningFault.TheVariants.{WrongType}
use Rattle.model.specs.Tokens.{Token, word, sign}
use Rattle.model.specs.Tree.{Exp, negated}
use Rattle.model.specs.Ahead.{Next, next_number, sign_number, is_sign}
use Rattle.model.specs.Ahead.{multiplying, adding, comparing}
use Rattle.model.specs.Types.{is_inteiro}
use Rattle.model.specs.Names.{Scope}
use Rattle.model.specs.Contexts.{bracketed, SimpleIn, left_of, right_of, first_term, plus_term, minus_term, TermIn, FactorIn, first_factor, denied_factor, want_simple, want_factor, past_factor, past_expression, levels_of_factor}
use Rattle.model.specs.Settling.{Settled, at, wrong, settle, settle_simple, settle_term, end_term}
use Rattle.model.specs.Judged.{Judged, on, admitted, deeper}
use Rattle.model.specs.Bodies.{shift_simple}
use Rattle.model.specs.Judge.{shift, refused}
use Rattle.model.specs.Code.{of_exp}
use Rattle.cursor.specs.declared.Cursor.{Cursor}
use Rattle.cursor.specs.Rests.{rest_of, ahead_of, behind, place_of, Breaks, Takes, stray}
use Rattle.cursor.specs.Onward.{onward}
use Rattle.cursor.proofs.Judging as Judging
use Rattle.listing.specs.declared.Listing.{Listing}
use Rattle.listing.specs.Listings.{Lists}
use Rattle.scopes.specs.Levels.{Level, scopes_of, laid_of_all}
use Rattle.expressions.specs.declared.Translation.{Translation}
use Rattle.expressions.specs.declared.operators.Row.{Row}
use Rattle.expressions.specs.declared.operators.Row.TheVariants.{Terms, Factors}
use Rattle.expressions.specs.Parts.{Part, expression, simple, term, factor, In, levels_in, wants, growing, whole, end_simple}
use Rattle.expressions.specs.Rows.{row_of, between}
use Rattle.expressions.specs.Says.{Here, here, scopes_at, Deep, Stands, Kept, Reached, Translates}
use Rattle.expressions.proofs.Tokens.{There, sign_there}
use Rattle.expressions.proofs.Chains.{kept_then, Moved, ahead_by, moved, kept_moved, kept_ahead, further_then, further_moved, further_still, stands_moved, place_fits}
use Rattle.expressions.proofs.Joining.{wanted}

-- ── refusals ────────────────────────────────────────────────────────────────────────────────

-- a `?` hands on the fault as it is
pub told : {p : Part} {σ : Exp → Ty → In p → Next → Settled} {b : Translation} {n : ℕ} {c : Translation} (r : Result Ty Fault) (f : Fault) → IsErrAnd r (λ e. e ≡ f) → Translates p σ b n c (Err f) → Translates p σ b n c r
told r f h z = let q = err_from_is_err_and r h in rw (q.1, q.2) z

-- of a refused part nothing was made
pub refused_alike : {p : Part} {σ : Exp → Ty → In p → Next → Settled} (τ : Exp → Ty → In p → Next → Settled) {b : Translation} {n : ℕ} {c : Translation} {f : Fault} → Translates p σ b n c (Err f) → Translates p τ b n c (Err f)
refused_alike τ x = record { says = x.says; went = tt; kept = x.kept }

-- ── parts that begin with a narrower one ────────────────────────────────────────────────────

pub term_begins : {b : Translation} {n : ℕ} {c : Translation} (r : Result Ty Fault) → Translates factor (whole factor) b n c r → Translates term (growing term) b n c r
term_begins (Ok y) x =
    record { says = λ os es st. let g = x.says os es st in record { exp = g.exp; lists = g.lists; moves = λ room k deep. g.moves room (first_factor k) deep }; went = x.went; kept = x.kept }
term_begins (Err f) x = record { says = λ os es st. record { refuses = λ room k deep. (x.says os es st).refuses room (first_factor k) deep }; went = tt; kept = x.kept }

pub expression_begins : {b : Translation} {n : ℕ} {c : Translation} (r : Result Ty Fault) → Translates simple (whole simple) b n c r → Translates expression (growing expression) b n c r
expression_begins (Ok y) x =
    record { says = λ os es st. let g = x.says os es st in record { exp = g.exp; lists = g.lists; moves = λ room k deep. g.moves room (left_of k) deep }; went = x.went; kept = x.kept }
expression_begins (Err f) x = record { says = λ os es st. record { refuses = λ room k deep. (x.says os es st).refuses room (left_of k) deep }; went = tt; kept = x.kept }

-- a simple expression without a sign
module _ (b : Translation) (p : is_sign Signs.Plus (ahead_of b.cursor.now) ≡ false) (m : is_sign Signs.Minus (ahead_of b.cursor.now) ≡ false) where
  unsigned : (cs : List Scope) (room : ℕ) (k : SimpleIn) → onward room (rest_of b.cursor.now) cs (λ t. at (wants simple k)) ≡ onward room (rest_of b.cursor.now) cs (λ t. at (wants term (first_term k)))
  unsigned cs room k =
      Judging.alike room b.cursor.now cs (wants simple k) (wants term (first_term k)) (λ t n i.
      let f : is_sign Signs.Plus (some t) ≡ false = ap (is_sign Signs.Plus) (sym i) ∙ p in
      let g : is_sign Signs.Minus (some t) ≡ false = ap (is_sign Signs.Minus) (sym i) ∙ m in
      rw (f, shift_simple) (rw g refl))

  pub simple_begins : {n : ℕ} {c : Translation} (r : Result Ty Fault) → Translates term (whole term) b n c r → Translates simple (growing simple) b n c r
  simple_begins (Ok y) x =
      record {
        says = λ os es st. let g = x.says os es st in record { exp = g.exp; lists = g.lists; moves = λ room k deep. unsigned (scopes_of os) room k ∙ g.moves room (first_term k) deep };
        went = x.went;
        kept = x.kept;
      }
  simple_begins (Err f) x =
      record { says = λ os es st. record { refuses = λ room k deep. unsigned (scopes_of os) room k ∙ (x.says os es st).refuses room (first_term k) deep }; went = tt; kept = x.kept }

-- ── parts that the token ahead does not carry on ────────────────────────────────────────────

ends : (p : Part) {b : Translation} {n : ℕ} {c : Translation} {y : Ty} → Translates p (growing p) b n c (Ok y) → ((x : Exp) (k : In p) → growing p x y k (ahead_of c.cursor.now) ≡ whole p x y k (ahead_of c.cursor.now)) → Translates p (whole p) b n c (Ok y)
ends p {b} {n} {c} {y} x h =
    record {
      says = λ os es st. let g = x.says os es st in
          record { exp = g.exp; lists = g.lists; moves = λ room k deep. g.moves room k deep ∙ Judging.same room c.cursor.now (scopes_of os) (growing p g.exp y k) (whole p g.exp y k) (h g.exp k) };
      went = x.went;
      kept = x.kept;
    }

simple_over : (t : Next) (x : Exp) (y : Ty) (k : SimpleIn) → adding t ≡ none → settle_simple t x y k ≡ end_simple t x y k
simple_over t x y (left_of k) h = rw (h, settle_simple) refl
simple_over t x y (right_of l z o p k) h = rw (h, settle_simple) refl

pub row_ends : (r : Row) {b : Translation} {n : ℕ} {c : Translation} {y : Ty} → Translates (row_of r) (growing (row_of r)) b n c (Ok y) → none ≡ between r (ahead_of c.cursor.now) → Translates (row_of r) (whole (row_of r)) b n c (Ok y)
row_ends Terms {b} {n} {c} {y} x o = ends simple x (λ z k. simple_over (ahead_of c.cursor.now) z y k (sym o))
row_ends Factors {b} {n} {c} {y} x o = let h : multiplying (ahead_of c.cursor.now) ≡ none = sym o in ends term x (λ z k. rw (h, settle_term) refl)

pub expression_ends : {b : Translation} {n : ℕ} {c : Translation} {y : Ty} → Translates expression (growing expression) b n c (Ok y) → none ≡ comparing (ahead_of c.cursor.now) → Translates expression (whole expression) b n c (Ok y)
expression_ends {b} {n} {c} {y} x o = let h : comparing (ahead_of c.cursor.now) ≡ none = sym o in ends expression x (λ z k. rw (h, end_simple) refl)

-- ── parts behind a token ────────────────────────────────────────────────────────────────────

-- the token t opens a part of kind m inside one of kind p, with n levels open
pub record Opens (p m : Part) (frame : In p → In m) (a : Here) (t : Token) (n : ℕ) : Type 0 where
  pub deep : (k : In p) → Deep p a k → pred (length (scopes_at a)) + levels_in m (frame k) ≡ n
  pub shifts : (room : ℕ) (k : In p) → Deep p a k → shift room (scopes_at a) t (place_of a.from.cursor.now) (wants p k) ≡ on (scopes_at a) (wants m (frame k))

-- the token ahead opens one so, and was taken
pub record Within (p m : Part) (frame : In p → In m) (b : Translation) (n i : ℕ) (d : Translation) : Type 0 where
  pub there : There (ahead_of b.cursor.now)
  pub opens : (os : List Level) (es : List Entry) → Opens p m frame (here b n os es) there.token i
  pub moved : Moved b d

module _ {p m : Part} {frame : In p → In m} {b : Translation} {n i : ℕ} {d : Translation} (v : Within p m frame b n i d) where
  to_inner : (os : List Level) (es : List Entry) (room : ℕ) (k : In p) → Deep p (here b n os es) k →
      onward room (rest_of b.cursor.now) (scopes_of os) (λ t. at (wants p k)) ≡ onward room (rest_of d.cursor.now) (scopes_of os) (λ t. at (wants m (frame k)))
  to_inner os es room k deep =
      Judging.takes room b.cursor.now (scopes_of os) (λ _. at (wants p k)) v.there.token (wants p k) v.there.is refl (scopes_of os) (wants m (frame k)) ((v.opens os es).shifts room k deep) d.cursor.now v.moved.taken.0
      ∙ Judging.same room d.cursor.now (scopes_of os) (λ u. settle u (wants m (frame k))) (λ u. at (wants m (frame k))) (wanted m (frame k) (ahead_of d.cursor.now))

  pub inner_refused : (σ : Exp → Ty → In p → Next → Settled) (e : Translation) (f : Fault) → Translates m (whole m) d i e (Err f) → Translates p σ b n e (Err f)
  inner_refused σ e f z =
      record {
        says = λ os es st. record { refuses = λ room k deep. to_inner os es room k deep ∙ (z.says os es (stands_moved st i v.moved)).refuses room (frame k) ((v.opens os es).deep k deep) };
        went = tt;
        kept = kept_then (kept_moved v.moved) z.kept;
      }

  module _ {u : Ty} {e : Translation} (z : Translates m (whole m) d i e (Ok u)) where
    abbrev inside : (os : List Level) (es : List Entry) → Stands (here b n os es) → Reached m (whole m) (here d i os es) u e
    inside os es st = z.says os es (stands_moved st i v.moved)

    to_whole : (os : List Level) (es : List Entry) (st : Stands (here b n os es)) (room : ℕ) (k : In p) → Deep p (here b n os es) k →
        onward room (rest_of b.cursor.now) (scopes_of os) (λ t. at (wants p k)) ≡ onward room (rest_of e.cursor.now) (scopes_of os) (whole m (inside os es st).exp u (frame k))
    to_whole os es st room k deep = to_inner os es room k deep ∙ (inside os es st).moves room (frame k) ((v.opens os es).deep k deep)

    -- the judge refuses what stands behind it
    pub inner_stopped : (σ : Exp → Ty → In p → Next → Settled) (w : Translation) (f : Fault) → Kept e w → ((os : List Level) (room : ℕ) (x : Exp) (k : In p) → onward room (rest_of e.cursor.now) (scopes_of os) (whole m x u (frame k)) ≡ refused f.cause f.place) → Translates p σ b n w (Err f)
    inner_stopped σ w f kept h =
        record {
          says = λ os es st. record { refuses = λ room k deep. to_whole os es st room k deep ∙ h os room (inside os es st).exp k };
          went = tt;
          kept = kept_then (kept_moved v.moved) (kept_then z.kept kept);
        }

    pub inner_misfits : (σ : Exp → Ty → In p → Next → Settled) → ((x : Exp) (k : In p) → whole m x u (frame k) (ahead_of e.cursor.now) ≡ wrong WrongType) → (f : Fault) → (f.cause ≡ Causes.Meaning WrongType) × (f.place ≡ place_of e.cursor.now) → Translates p σ b n e (Err f)
    inner_misfits σ h f g =
        inner_stopped σ e f (kept_ahead refl refl refl) (λ os room x k.
        Judging.misfits room e.cursor.now (scopes_of os) (whole m x u (frame k)) WrongType (h x k) ∙ ap (λ w. refused w (place_of e.cursor.now)) (sym g.0) ∙ ap (refused f.cause) (sym g.1))

    -- it is the part, with its entry laid behind those of the inner one
    pub inner_fits : (σ : Exp → Ty → In p → Next → Settled) (tree : Exp → Exp) (w : Translation) → w.cursor.now ≡ e.cursor.now → Kept e w →
        ((os : List Level) (es : List Entry) (x : Exp) → place_of b.cursor.now ≤ 65535 → Lists e.listing.now (es ++ of_exp (laid_of_all os) x) → Lists w.listing.now (es ++ of_exp (laid_of_all os) (tree x))) →
        ((x : Exp) (k : In p) → whole m x u (frame k) (ahead_of e.cursor.now) ≡ σ (tree x) u k (ahead_of e.cursor.now)) → Translates p σ b n w (Ok u)
    inner_fits σ tree w still kept ls h =
        record {
          says = λ os es st. let g = inside os es st in
              record {
                exp = tree g.exp;
                lists = ls os es g.exp (place_fits st b.cursor.now st.fine refl) g.lists;
                moves = λ room k deep.
                    to_whole os es st room k deep ∙ Judging.same room e.cursor.now (scopes_of os) (whole m g.exp u (frame k)) (σ (tree g.exp) u k) (h g.exp k)
                    ∙ ap (λ a. onward room (rest_of a) (scopes_of os) (σ (tree g.exp) u k)) (sym still);
              };
          went = further_still (further_then (further_moved v.there v.moved) z.went) still;
          kept = kept_then (kept_moved v.moved) (kept_then z.kept kept);
        }

-- an entry behind those of a tree
pub behind_tree : (v : Listing) (es fs : List Entry) (x y : Entry) → x ≡ y → Lists v ((es ++ fs) ++ (x ∷ [])) → Lists v (es ++ (fs ++ (y ∷ [])))
behind_tree v es fs x y e l = subst (Lists v) (ap (λ z. (es ++ fs) ++ (z ∷ [])) e ∙ append_assoc es fs (y ∷ [])) l

-- ── signs ───────────────────────────────────────────────────────────────────────────────────

-- what is known of a token that has a number
sign_is : (t : Next) (n : ℕ) → next_number t ≡ n → (g : Sign) (b : Bool) → eqb (sign_number g) n ≡ b → is_sign g t ≡ b
sign_is t n e g b h = ap (eqb (sign_number g)) e ∙ h

number_of_sign : (g : Sign) (t : Next) → is_sign g t ≡ true → next_number t ≡ sign_number g
number_of_sign g t h = sym (eqb-true (sign_number g) (next_number t) h)

-- where a term stands behind its sign
abbrev pub signed_in : Sign → ℕ → SimpleIn → TermIn
signed_in Signs.Minus p k = minus_term p k
signed_in _ p k = plus_term k

-- the sign is one of a term
abbrev pub IsSigned : Sign → Type 0
IsSigned g = (g ≡ Signs.Plus) ⊎ (g ≡ Signs.Minus)

signed_there : (g : Sign) → IsSigned g → (t : Next) → is_sign g t ≡ true → There t
signed_there g one t =
    ⊎_elim (λ e. subst (λ s. is_sign s t ≡ true → There t) (sym e) (sign_there Signs.Plus refl t)) (λ e. subst (λ s. is_sign s t ≡ true → There t) (sym e) (sign_there Signs.Minus refl t)) one

sign_opens : (g : Sign) → IsSigned g → (a : Here) (t : Token) → ahead_of a.from.cursor.now ≡ some t → is_sign g (ahead_of a.from.cursor.now) ≡ true → Opens simple term (signed_in g (place_of a.from.cursor.now)) a t a.depth
sign_opens g one a t i =
    ⊎_elim
    (λ e. subst (λ s. is_sign s (ahead_of a.from.cursor.now) ≡ true → Opens simple term (signed_in s (place_of a.from.cursor.now)) a t a.depth) (sym e) (λ p.
    let f : is_sign Signs.Plus (some t) ≡ true = ap (is_sign Signs.Plus) (sym i) ∙ p in
    record { deep = λ k d. d; shifts = λ room k d. rw (f, shift_simple) refl }))
    (λ e. subst (λ s. is_sign s (ahead_of a.from.cursor.now) ≡ true → Opens simple term (signed_in s (place_of a.from.cursor.now)) a t a.depth) (sym e) (λ m.
    let g : is_sign Signs.Minus (some t) ≡ true = ap (is_sign Signs.Minus) (sym i) ∙ m in
    let f : is_sign Signs.Plus (some t) ≡ false = sign_is (some t) 41 (number_of_sign Signs.Minus (some t) g) Signs.Plus false refl in
    record { deep = λ k d. d; shifts = λ room k d. rw (f, shift_simple) (rw g refl) }))
    one

pub sign_within : (g : Sign) → IsSigned g → (b : Translation) (n : ℕ) → is_sign g (ahead_of b.cursor.now) ≡ true → (d : Cursor) → Takes b.cursor.now (Ok tt) d → Within simple term (signed_in g (place_of b.cursor.now)) b n n (ahead_by b d)
sign_within g one b n is d v =
    let t = signed_there g one (ahead_of b.cursor.now) is in
    record { there = t; opens = λ os es. sign_opens g one (here b n os es) t.token t.is is; moved = moved b d v }

-- what is made of the term
module _ (p : ℕ) (x : Exp) (y : Ty) (k : SimpleIn) (t : Next) where
  pub sign_misfits : (g : Sign) → IsSigned g → is_inteiro y ≡ false → whole term x y (signed_in g p k) t ≡ wrong WrongType
  sign_misfits g one n =
      ⊎_elim (λ e. subst (λ s. whole term x y (signed_in s p k) t ≡ wrong WrongType) (sym e) (rw (n, end_term) refl)) (λ e. subst (λ s. whole term x y (signed_in s p k) t ≡ wrong WrongType) (sym e) (rw (n, end_term) refl)) one

  pub plus_fits : (g : Sign) → g ≡ Signs.Plus → is_inteiro y ≡ true → whole term x y (signed_in g p k) t ≡ growing simple x y k t
  plus_fits g e n = subst (λ s. whole term x y (signed_in s p k) t ≡ growing simple x y k t) (sym e) (rw (n, end_term) refl)

  pub minus_fits : (g : Sign) → g ≡ Signs.Minus → is_inteiro y ≡ true → whole term x y (signed_in g p k) t ≡ growing simple (negated p x) y k t
  minus_fits g e n = subst (λ s. whole term x y (signed_in s p k) t ≡ growing simple (negated p x) y k t) (sym e) (rw (n, end_term) refl)

-- ── brackets and `nao` ──────────────────────────────────────────────────────────────────────

deepened : (a : Here) → a.depth < 64 → (j : Judged) (k : FactorIn) → Deep factor a k → deeper (scopes_at a) (levels_of_factor k) j ≡ j
deepened a h j k d = let f : leb (suc (pred (length (scopes_at a)) + levels_of_factor k)) 64 ≡ true = le-leb _ _ (omega (arith, d)) in rw (f, deeper) refl

module _ (b : Translation) (n : ℕ) (h : n < 64) where
  pub bracket_within : ahead_of b.cursor.now ≡ some (sign Signs.OpenBracket) → (d : Cursor) → Takes b.cursor.now (Ok tt) d → Within factor expression bracketed b n (n + 1) (ahead_by b d)
  bracket_within is d v =
      record {
        there = record { token = sign Signs.OpenBracket; is = is };
        opens = λ os es. record { deep = λ k d. omega (arith, d); shifts = λ room k d. deepened (here b n os es) h (on (scopes_of os) (want_simple (left_of (bracketed k)))) k d };
        moved = moved b d v;
      }

  pub denial_within : ahead_of b.cursor.now ≡ some (word Words.Nao) → (d : Cursor) → Takes b.cursor.now (Ok tt) d → Within factor factor (denied_factor (place_of b.cursor.now)) b n (n + 1) (ahead_by b d)
  denial_within is d v =
      record {
        there = record { token = word Words.Nao; is = is };
        opens = λ os es. record { deep = λ k d. omega (arith, d); shifts = λ room k d. deepened (here b n os es) h (on (scopes_of os) (want_factor (denied_factor (place_of b.cursor.now) k))) k d };
        moved = moved b d v;
      }

-- ── the closing bracket ─────────────────────────────────────────────────────────────────────

module _ {b : Translation} {n i : ℕ} {d : Translation} (v : Within factor expression bracketed b n i d) {u : Ty} {e : Translation} (z : Translates expression (whole expression) d i e (Ok u)) where
  pub bracket_open : is_sign Signs.CloseBracket (ahead_of e.cursor.now) ≡ false → (f : Fault) → (f.cause ≡ stray (ahead_of e.cursor.now)) × (f.place ≡ place_of e.cursor.now) → Translates factor (whole factor) b n e (Err f)
  bracket_open c f g =
      inner_stopped v z (whole factor) e f (kept_ahead refl refl refl) (λ os room x k.
      Judging.strays room e.cursor.now (scopes_of os) (whole expression x u (bracketed k)) (past_expression x u (bracketed k)) refl (λ y p j.
      let g : is_sign Signs.CloseBracket (some y) ≡ false = ap (is_sign Signs.CloseBracket) (sym j) ∙ c in ap (λ w. admitted w (on (scopes_of os) (past_factor x u k))) g)
      ∙ ap (λ w. refused w (place_of e.cursor.now)) (sym g.0) ∙ ap (refused f.cause) (sym g.1))

  module _ (q : There (ahead_of e.cursor.now)) (c : is_sign Signs.CloseBracket (ahead_of e.cursor.now) ≡ true) where
    closes : (cs : List Scope) (room p : ℕ) (x : Exp) (k : FactorIn) → shift room cs q.token p (past_expression x u (bracketed k)) ≡ on cs (past_factor x u k)
    closes cs room p x k = let g : is_sign Signs.CloseBracket (some q.token) ≡ true = ap (is_sign Signs.CloseBracket) (sym q.is) ∙ c in ap (λ w. admitted w (on cs (past_factor x u k))) g

    pub bracket_breaks : (w : Translation) (f : Fault) → Kept e w → Breaks (behind e.cursor.now) f → Translates factor (whole factor) b n w (Err f)
    bracket_breaks w f kept x =
        inner_stopped v z (whole factor) w f kept (λ os room y k.
        Judging.breaks_off room e.cursor.now (scopes_of os) (whole expression y u (bracketed k)) q.token (past_expression y u (bracketed k)) q.is refl (scopes_of os) (past_factor y u k) (closes (scopes_of os) room (place_of e.cursor.now) y k) f x)

    pub bracket_closed : {w : Translation} → Moved e w → Translates factor (whole factor) b n w (Ok u)
    bracket_closed {w} s =
        record {
          says = λ os es st. let g = inside v z os es st in
              record {
                exp = g.exp;
                lists = subst (λ l. Lists l.now (es ++ of_exp (laid_of_all os) g.exp)) (sym s.listing) g.lists;
                moves = λ room k deep.
                    to_whole v z os es st room k deep
                    ∙ Judging.takes room e.cursor.now (scopes_of os) (whole expression g.exp u (bracketed k)) q.token (past_expression g.exp u (bracketed k)) q.is refl (scopes_of os) (past_factor g.exp u k) (closes (scopes_of os) room (place_of e.cursor.now) g.exp k) w.cursor.now s.taken.0;
              };
          went = further_then (further_then (further_moved v.there v.moved) z.went) (further_moved q s);
          kept = kept_then (kept_moved v.moved) (kept_then z.kept (kept_moved s));
        }
