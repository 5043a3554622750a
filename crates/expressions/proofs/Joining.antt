-- Operands with an operator between them, at each of the three kinds of parts that have operators.
use Rattle.std.proofs.Common.{◌≡◌, ℕ, pred, ◌+◌, ◌≤◌, Bool, true, false, List, [], ◌∷◌, ◌++◌, length, Some, None, Ok, Err, Result, sym, refl, ap, ◌∙◌, subst, append_assoc}
use mathlib.Core.Option.{Option, none, some}
use Rattle.model.specs.declared.script.Ty.{Ty}
use Rattle.model.specs.declared.script.Operator.{Operator}
use Rattle.model.specs.declared.table.Entry.{Entry}
use Rattle.model.specs.declared.faults.Fault.{Fault}
use Rattle.model.specs.declared.faults.MeaningFault.TheVariants.{WrongType}
use Rattle.model.specs.Tokens.{Token}
use Rattle.model.specs.Tree.{Exp, joined}
use Rattle.model.specs.Ahead.{Next}
use Rattle.model.specs.Ahead.{multiplying, adding, comparing}
use Rattle.model.specs.Types.{takes, fitting, giving}
use Rattle.model.specs.Names.{Scope}
use Rattle.model.specs.Contexts.{SimpleIn, left_of, right_of, next_term, next_factor, Focus, past_simple, past_term}
use Rattle.model.specs.Settling.{Settled, at, wrong, settle, settle_simple, settle_term, settle_factor, end_term}
use Rattle.model.specs.Judged.{on, with_operator}
use Rattle.model.specs.Bodies.{shift_past_simple}
use Rattle.model.specs.Judge.{shift, refused}
use Rattle.model.specs.Code.{of_exp, plain, op_code}
use Rattle.cursor.specs.declared.Cursor.{Cursor}
use Rattle.cursor.specs.Rests.{rest_of, behind, ahead_of, place_of, Breaks}
use Rattle.cursor.specs.Onward.{onward}
use Rattle.cursor.proofs.Judging as Judging
use Rattle.listing.specs.Listings.{Lists}
use Rattle.scopes.specs.Levels.{Level, scopes_of, laid_of_all}
use Rattle.expressions.specs.declared.Translation.{Translation}
use Rattle.expressions.specs.declared.operators.Row.{Row}
use Rattle.expressions.specs.declared.operators.Row.TheVariants.{Terms, Factors}
use Rattle.expressions.specs.Parts.{Part, expression, simple, term, factor, In, levels_in, wants, growing, whole, end_simple, yields}
use Rattle.expressions.specs.Rows.{row_of, part_of, between}
use Rattle.expressions.specs.Says.{here, Deep, Stands, Kept, Reached, Says, Translates, Joins}
use Rattle.expressions.proofs.Tokens.{There, operator_there, comparing_adds_nothing}
use Rattle.expressions.proofs.Chains.{kept_then, Moved, kept_moved, further_then, further_moved, further_still, any_went, stands_further, place_fits}

-- what is wanted stays so at every token
pub wanted : (q : Part) (k : In q) (t : Next) → settle t (wants q k) ≡ at (wants q k)
wanted expression k t = refl
wanted simple k t = refl
wanted term k t = refl
wanted factor k t = refl

-- ── what the judge does at an operator ──────────────────────────────────────────────────────

-- parts of kind p that are made of parts of kind q, with operators between them
pub record Joining (p q : Part) (frame : Exp → Ty → Operator → ℕ → In p → In q) (ops : Next → Option Operator) (past : Exp → Ty → In p → Focus) (then : Exp → Ty → In p → Next → Settled) : Type 0 where
  pub ends : ops none ≡ none
  pub deep : (x : Exp) (y : Ty) (o : Operator) (n : ℕ) (k : In p) → levels_in q (frame x y o n k) ≡ levels_in p k
  pub settles : (x : Exp) (y : Ty) (k : In p) (t : Next) (o : Operator) → ops t ≡ some o → growing p x y k t ≡ at (past x y k)
  pub shifts : (room : ℕ) (cs : List Scope) (t : Token) (n : ℕ) (x : Exp) (y : Ty) (k : In p) (o : Operator) → ops (some t) ≡ some o → shift room cs t n (past x y k) ≡ on cs (wants q (frame x y o n k))
  pub fits : (x : Exp) (y : Ty) (o : Operator) (n : ℕ) (k : In p) (z : Exp) (u : Ty) (t : Next) → fitting (takes o) y u ≡ true → whole q z u (frame x y o n k) t ≡ then (joined o n x z) (giving (takes o)) k t
  pub fails : (x : Exp) (y : Ty) (o : Operator) (n : ℕ) (k : In p) (z : Exp) (u : Ty) (t : Next) → fitting (takes o) y u ≡ false → whole q z u (frame x y o n k) t ≡ wrong WrongType

in_term : Joining term factor next_factor multiplying past_term (growing term)
in_term =
    record {
      ends = refl;
      deep = λ x y o n k. refl;
      settles = λ x y k t o h. rw (h, settle_term) refl;
      shifts = λ room cs t n x y k o h. ap (λ m. with_operator m (λ a. on cs (wants factor (next_factor x y a n k)))) h;
      fits = λ x y o n k z u t h. rw (h, settle_factor) refl;
      fails = λ x y o n k z u t h. rw (h, settle_factor) refl;
    }

settles_simple : (x : Exp) (y : Ty) (k : SimpleIn) (t : Next) (o : Operator) → adding t ≡ some o → settle_simple t x y k ≡ at (past_simple x y k)
settles_simple x y (left_of k) t o h = rw (h, settle_simple) refl
settles_simple x y (right_of l z a p k) t o h = rw (h, settle_simple) refl

shifts_simple : (room : ℕ) (cs : List Scope) (t : Token) (n : ℕ) (x : Exp) (y : Ty) (k : SimpleIn) (o : Operator) → adding (some t) ≡ some o → shift room cs t n (past_simple x y k) ≡ on cs (wants term (next_term x y o n k))
shifts_simple room cs t n x y (left_of k) o h = rw (h, shift_past_simple) refl
shifts_simple room cs t n x y (right_of l z a p k) o h = ap (λ m. with_operator m (λ b. on cs (wants term (next_term x y b n (right_of l z a p k))))) h

in_simple : Joining simple term next_term adding past_simple (growing simple)
in_simple =
    record {
      ends = refl;
      deep = λ x y o n k. refl;
      settles = settles_simple;
      shifts = shifts_simple;
      fits = λ x y o n k z u t h. rw (h, end_term) refl;
      fails = λ x y o n k z u t h. rw (h, end_term) refl;
    }

abbrev pub frame_in : (r : Row) → Exp → Ty → Operator → ℕ → In (row_of r) → In (part_of r)
frame_in Terms = next_term
frame_in Factors = next_factor

abbrev pub past_in : (r : Row) → Exp → Ty → In (row_of r) → Focus
past_in Terms = past_simple
past_in Factors = past_term

pub in_row : (r : Row) → Joining (row_of r) (part_of r) (frame_in r) (between r) (past_in r) (growing (row_of r))
in_row Terms = in_simple
in_row Factors = in_term

pub in_expression : Joining expression simple right_of comparing (λ x y k. past_simple x y (left_of k)) (whole expression)
in_expression =
    record {
      ends = refl;
      deep = λ x y o n k. refl;
      settles = λ x y k t o h. rw (h, end_simple) refl;
      shifts = λ room cs t n x y k o h. let g : adding (some t) ≡ none = comparing_adds_nothing (some t) o h in rw (g, shift_past_simple) (rw (h, with_operator) refl);
      fits = λ x y o n k z u t h. rw (h, end_simple) refl;
      fails = λ x y o n k z u t h. rw (h, end_simple) refl;
    }

-- ── whether the operands fit ────────────────────────────────────────────────────────────────

module _ (o : Operator) (y u : Ty) where
  yields_true : (b : Bool) (w : Ty) → fitting (takes o) y u ≡ b → Some w ≡ yields o y u → (b ≡ true) × (w ≡ giving (takes o))
  yields_true true w g n = let f : yields o y u ≡ Some (giving (takes o)) = rw (g, yields) refl in let s : Some w ≡ Some (giving (takes o)) = n ∙ f in (refl, cc)
  yields_true false w g n = let f : yields o y u ≡ None = rw (g, yields) refl in let s : Some w ≡ None = n ∙ f in cc

  yields_false : (b : Bool) → fitting (takes o) y u ≡ b → None ≡ yields o y u → b ≡ false
  yields_false true g n = let f : yields o y u ≡ Some (giving (takes o)) = rw (g, yields) refl in let s : None ≡ Some (giving (takes o)) = n ∙ f in cc
  yields_false false g n = refl

-- ── the next part ───────────────────────────────────────────────────────────────────────────

-- an operator `o` stands behind a part that may go on
module _ {p q : Part} {frame : Exp → Ty → Operator → ℕ → In p → In q} {ops : Next → Option Operator} {past : Exp → Ty → In p → Focus} {then : Exp → Ty → In p → Next → Settled}
    (j : Joining p q frame ops past then) {b : Translation} {n : ℕ} {y : Ty} {c : Translation} (x : Translates p (growing p) b n c (Ok y)) (o : Operator) (h : some o ≡ ops (ahead_of c.cursor.now)) where
  pub token_there : There (ahead_of c.cursor.now)
  token_there = operator_there ops j.ends (ahead_of c.cursor.now) o h

  is_operator : ops (some token_there.token) ≡ some o
  is_operator = ap ops (sym token_there.is) ∙ sym h

  module _ (os : List Level) (es : List Entry) (st : Stands (here b n os es)) where
    abbrev left : Reached p (growing p) (here b n os es) y c
    left = x.says os es st

    module _ (room : ℕ) (k : In p) where
      abbrev around : In q
      around = frame left.exp y o (place_of c.cursor.now) k

      -- the judge takes the operator
      at_operator : (d : Cursor) → rest_of d ≡ behind c.cursor.now → onward room (rest_of c.cursor.now) (scopes_of os) (growing p left.exp y k) ≡ onward room (rest_of d) (scopes_of os) (λ t. at (wants q around))
      at_operator d r =
          Judging.takes room c.cursor.now (scopes_of os) (growing p left.exp y k) token_there.token (past left.exp y k) token_there.is (j.settles left.exp y k (some token_there.token) o is_operator) (scopes_of os) (wants q around) (j.shifts room (scopes_of os) token_there.token (place_of c.cursor.now) left.exp y k o is_operator) d r
          ∙ Judging.same room d (scopes_of os) (λ t. settle t (wants q around)) (λ t. at (wants q around)) (wanted q around (ahead_of d))

      deeper : Deep p (here b n os es) k → pred (length (scopes_of os)) + levels_in q around ≡ n
      deeper e = ap (λ i. pred (length (scopes_of os)) + i) (j.deep left.exp y o (place_of c.cursor.now) k) ∙ e

  -- reading breaks off behind it
  pub operator_breaks : (σ : Exp → Ty → In p → Next → Settled) (d : Translation) (f : Fault) → Kept c d → Breaks (behind c.cursor.now) f → Translates p σ b n d (Err f)
  operator_breaks σ d f kept v =
      record {
        says = λ os es st. let g = x.says os es st in
            record {
              refuses = λ room k deep. g.moves room k deep ∙ Judging.breaks_off room c.cursor.now (scopes_of os) (growing p g.exp y k) token_there.token (past g.exp y k) token_there.is (j.settles g.exp y k (some token_there.token) o is_operator) (scopes_of os) (wants q (around os es st room k)) (j.shifts room (scopes_of os) token_there.token (place_of c.cursor.now) g.exp y k o is_operator) f v;
            };
        went = tt;
        kept = kept_then x.kept kept;
      }

  module _ {d : Translation} (v : Moved c d) where
    right_stands : (os : List Level) (es : List Entry) (st : Stands (here b n os es)) → Stands (here d n os (es ++ of_exp (laid_of_all os) (left os es st).exp))
    right_stands os es st =
        stands_further st (es ++ of_exp (laid_of_all os) (left os es st).exp) n (kept_then x.kept (kept_moved v)) (subst (λ l. Lists l.now (es ++ of_exp (laid_of_all os) (left os es st).exp)) (sym v.listing) (left os es st).lists) v.taken.2 (v.taken.3 ∙ x.went.text)

    -- the right operand is refused
    pub right_refused : (σ : Exp → Ty → In p → Next → Settled) (e : Translation) (f : Fault) → Translates q (whole q) d n e (Err f) → Translates p σ b n e (Err f)
    right_refused σ e f z =
        record {
          says = λ os es st.
              record { refuses = λ room k deep. (left os es st).moves room k deep ∙ at_operator os es st room k d.cursor.now v.taken.0 ∙ (z.says os _ (right_stands os es st)).refuses room (around os es st room k) (deeper os es st room k deep) };
          went = tt;
          kept = kept_then x.kept (kept_then (kept_moved v) z.kept);
        }

    module _ {u : Ty} {e : Translation} (z : Translates q (whole q) d n e (Ok u)) where
      module _ (os : List Level) (es : List Entry) (st : Stands (here b n os es)) where
        abbrev right : Reached q (whole q) (here d n os (es ++ of_exp (laid_of_all os) (left os es st).exp)) u e
        right = z.says os _ (right_stands os es st)

        to_end : (room : ℕ) (k : In p) → Deep p (here b n os es) k →
            onward room (rest_of b.cursor.now) (scopes_of os) (λ t. at (wants p k)) ≡ onward room (rest_of e.cursor.now) (scopes_of os) (whole q right.exp u (around os es st room k))
        to_end room k deep = (left os es st).moves room k deep ∙ at_operator os es st room k d.cursor.now v.taken.0 ∙ right.moves room (around os es st room k) (deeper os es st room k deep)

        joined_says : (i : ℕ) → (place_of c.cursor.now ≤ 65535 → i ≡ place_of c.cursor.now) → (w : Translation) → w.cursor.now ≡ e.cursor.now → (r : Result Ty Fault) → Joins o y u i e w r → Says p then (here b n os es) w r
        joined_says i pl w still (Ok t) g =
            let f = yields_true o y u (fitting (takes o) y u) t refl g.0 in
            let xs = of_exp (laid_of_all os) (left os es st).exp in
            let zs = of_exp (laid_of_all os) right.exp in
            let tree = joined o (place_of c.cursor.now) (left os es st).exp right.exp in
            record {
              exp = tree;
              lists = subst (Lists w.listing.now) (
                  ap (λ m. ((es ++ xs) ++ zs) ++ (plain (op_code o) m ∷ [])) (pl (place_fits st c.cursor.now x.went.fine x.went.text))
                  ∙ append_assoc (es ++ xs) zs (plain (op_code o) (place_of c.cursor.now) ∷ [])
                  ∙ append_assoc es xs (zs ++ (plain (op_code o) (place_of c.cursor.now) ∷ []))
                  ∙ ap (λ fs. es ++ fs) (sym (append_assoc xs zs (plain (op_code o) (place_of c.cursor.now) ∷ [])))) (g.1 _ right.lists);
              moves = λ room k deep.
                  to_end room k deep ∙ Judging.same room e.cursor.now (scopes_of os) (whole q right.exp u (around os es st room k)) (then tree t k) (
                  j.fits (left os es st).exp y o (place_of c.cursor.now) k right.exp u (ahead_of e.cursor.now) f.0 ∙ ap (λ s. then tree s k (ahead_of e.cursor.now)) (sym f.1))
                  ∙ ap (λ a. onward room (rest_of a) (scopes_of os) (then tree t k)) (sym still);
            }
        joined_says i pl w still (Err f) g =
            let t = yields_false o y u (fitting (takes o) y u) refl g.0 in
            record {
              refuses = λ room k deep.
                  to_end room k deep ∙ Judging.misfits room e.cursor.now (scopes_of os) (whole q right.exp u (around os es st room k)) WrongType (j.fails (left os es st).exp y o (place_of c.cursor.now) k right.exp u (ahead_of e.cursor.now) t)
                  ∙ ap (λ m. refused m (place_of e.cursor.now)) (sym g.1) ∙ ap (refused f.cause) (sym g.2);
            }

      -- the operator is laid, or the operands do not fit it
      pub joins : (i : ℕ) → (place_of c.cursor.now ≤ 65535 → i ≡ place_of c.cursor.now) → (w : Translation) → w.cursor.now ≡ e.cursor.now → Kept e w → (r : Result Ty Fault) → Joins o y u i e w r → Translates p then b n w r
      joins i pl w still kept r g =
          record {
            says = λ os es st. joined_says os es st i pl w still r g;
            went = any_went (further_still (further_then x.went (further_then (further_moved token_there v) z.went)) still) r;
            kept = kept_then x.kept (kept_then (kept_moved v) (kept_then z.kept kept));
          }
