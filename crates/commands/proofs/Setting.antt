-- What the judge makes of a command's leading name at the token behind it.
use Rattle.std.proofs.Common.{◌≡◌, ℕ, pred, Bool, true, false, List, [], ◌∷◌, ◌++◌, ◌≤◌, Ok, Err, Result, Some, Option as Maybe, sym, refl, ap, ◌∙◌, subst, arith}
use mathlib.Core.Option.{Option, some}
use Rattle.scopes.specs.declared.names.Name.{Name}
use Rattle.model.specs.declared.script.Ty.{Ty}
use Rattle.model.specs.declared.tokens.Sign.TheVariants as Signs
use Rattle.model.specs.declared.faults.MeaningFault.TheVariants.{WrongType}
use Rattle.model.specs.declared.faults.Cause.TheVariants as Causes
use Rattle.model.specs.declared.faults.Fault.{Fault}
use Rattle.model.specs.declared.table.Entry.{Entry}
use Rattle.model.specs.Tokens as Tokens
use Rattle.model.specs.Tree.{Found, invoke, assign}
use Rattle.model.specs.Types.{same_type}
use Rattle.model.specs.Ahead.{Next, is_sign}
use Rattle.model.specs.Names.{a_variable, a_procedure, a_function, Seen, visible}
use Rattle.model.specs.Contexts.{CommandIn, Focus, want_command, assigned, want_simple, left_of, to_assign, past_name}
use Rattle.model.specs.Settling.{at, settle, settle_expression, settle_command}
use Rattle.model.specs.Judged.{admitted, on, with_seen}
use Rattle.model.specs.Judge.{shift}
use Rattle.model.specs.Code.{Laid, of_exp, entry, cell_of}
use Rattle.model.specs.Codes.{STR}
use Rattle.cursor.specs.Rests.{behind, ahead_of, place_of, Breaks}
use Rattle.scopes.specs.Levels.{Matches, neither, variables, procedures, functions}
use Rattle.scopes.specs.Levels.{Level, scopes_of, laid_of_all}
use Rattle.listing.specs.Listings.{Lists}
use Rattle.expressions.specs.declared.Translation.{Translation}
use Rattle.expressions.specs.Parts.{expression, whole}
use Rattle.expressions.specs.Says as Says
use Rattle.expressions.specs.Says.{here, Stands, Reached}
use Rattle.expressions.proofs.Tokens.{There, sign_there}
use Rattle.expressions.proofs.Chains.{Moved, stands_moved, place_fits}
use Rattle.expressions.proofs.Opening.{behind_tree}
use Rattle.commands.specs.Runs.{wanted, Comes, Done, Halts, Runs, GoesOn}
use Rattle.commands.proofs.Coming.{begun, continue, then_same, then_takes, then_breaks, then_misfits, then_expression, then_refused}

-- from `:=` on, what stands at place p is set
module _ {b d : Translation} (v : Moved b d) (i : is_sign Signs.Becomes (ahead_of b.cursor.now) ≡ true) (n p : ℕ) (y : Ty) (f : Found) (os : List Level) (es : List Entry) (st : Stands (here b n os es)) where
  due : Comes (λ k t. at (to_assign p f y k)) (here b n os es) (λ k t. at (want_simple (left_of (assigned p f y k)))) d.cursor.now
  due =
      let w : There (ahead_of b.cursor.now) = sign_there Signs.Becomes refl (ahead_of b.cursor.now) i in
      let g : is_sign Signs.Becomes (some w.token) ≡ true = ap (is_sign Signs.Becomes) (sym w.is) ∙ i in
      then_takes (begun (λ k t. at (to_assign p f y k)) (here b n os es)) w.token w.is (to_assign p f y) (λ k. refl) (λ k. want_simple (left_of (assigned p f y k))) (λ room k. ap (λ w. admitted w (on (scopes_of os) (want_simple (left_of (assigned p f y k))))) g) d.cursor.now v.taken.0

  pub value_refused : (e : Translation) (g : Fault) → Says.Translates expression (whole expression) d n e (Err g) → Halts (λ k t. at (to_assign p f y k)) (here b n os es) g
  value_refused e g z = then_refused d (assigned p f y) due es n (λ k h. h) g (z.says os es (stands_moved st n v))

  module _ {u : Ty} {e : Translation} (z : Says.Translates expression (whole expression) d n e (Ok u)) where
    abbrev value : Reached expression (whole expression) (here d n os es) u e
    value = z.says os es (stands_moved st n v)

    past : Comes (λ k t. at (to_assign p f y k)) (here b n os es) (λ k t. settle_expression t value.exp u (assigned p f y k)) e.cursor.now
    past = then_expression d (assigned p f y) due es n (λ k h. h) u e value

    pub value_misfits : same_type u y ≡ false → (g : Fault) → (g.cause ≡ Causes.Meaning WrongType) × (g.place ≡ place_of e.cursor.now) → Halts (λ k t. at (to_assign p f y k)) (here b n os es) g
    value_misfits s g x = then_misfits past WrongType (λ k. rw (s, settle_expression) refl) g x.0 x.1

    pub value_set : same_type u y ≡ true → (c : Translation) → c.cursor.now ≡ e.cursor.now → (cell : ℕ) → cell ≡ cell_of (laid_of_all os) f → ((fs : List Entry) → Lists e.listing.now fs → Lists c.listing.now (fs ++ (entry STR cell 0 p ∷ []))) → Done (λ k t. at (to_assign p f y k)) (here b n os es) c
    value_set s c still cell is l =
        record {
          cmd = assign p f value.exp;
          lists = behind_tree c.listing.now es (of_exp (laid_of_all os) value.exp) _ _ (ap (λ i. entry STR i 0 p) is) (l _ value.lists);
          comes = subst (Comes (λ k t. at (to_assign p f y k)) (here b n os es) (λ k t. settle_command t (assign p f value.exp) k)) (sym still) (then_same past (λ k t. settle_command t (assign p f value.exp) k) (λ k. rw (s, settle_expression) refl));
        }

-- what the judge found, as it is
module _ (t : Next) (p : ℕ) (k : CommandIn) where
  -- before `:=`
  module _ (b : is_sign Signs.Becomes t ≡ true) where
    pub sets_variable : (y : Ty) (i h : ℕ) (c : Bool) → settle t (past_name p (a_variable y i) h c k) ≡ at (to_assign p (record { hops = h; index = i }) y k)
    sets_variable y i h c = rw (b, settle) refl

    pub sets_result : (y : Ty) (w h : ℕ) (c : Bool) → c ≡ true → settle t (past_name p (a_function y w) h c k) ≡ at (to_assign p (record { hops = pred h; index = 0 }) y k)
    sets_result y w h c e = ap (λ i. settle t (past_name p (a_function y w) h i k)) e ∙ rw (b, settle) refl

  -- before another token
  module _ (b : is_sign Signs.Becomes t ≡ false) where
    pub calls : (w h : ℕ) (c : Bool) → settle t (past_name p (a_procedure w) h c k) ≡ settle_command t (invoke p (record { hops = h; index = w })) k
    calls w h c = rw (b, settle) refl

-- the judge sees what is found
pub record SeenAs (o : Option Seen) : Type 0 where
  pub seen : Seen
  pub is : o ≡ some seen

pub seen_as : (ls : List Laid) (over : Bool) (m : Maybe Name) (o : Option Seen) → Matches ls over m o → (n : Name) → m ≡ Some n → SeenAs o
seen_as ls over m o neither n e = let z : ◌≡◌ {A = ℕ} 0 1 = cc in absurd (omega arith)
seen_as ls over m o (variables v y i h c e f) n q = record { seen = record { kind = a_variable y i; hops = h; inside = c }; is = refl }
seen_as ls over m o (procedures v w h c e f) n q = record { seen = record { kind = a_procedure w; hops = h; inside = c }; is = refl }
seen_as ls over m o (functions v y w h c e f g j) n q = record { seen = record { kind = a_function y w; hops = h; inside = c }; is = refl }

-- ── the name ────────────────────────────────────────────────────────────────────────────────

-- a name that has a record is taken
module _ (b : Translation) (name : List ℕ) (i : ahead_of b.cursor.now ≡ some (Tokens.name name)) (n : ℕ) (os : List Level) (es : List Entry) {m : Maybe Name} {v : Name} (is : m ≡ Some v) (x : Matches (laid_of_all os) b.listing.now.over m (visible name (scopes_of os))) where
  found_as : SeenAs (visible name (scopes_of os))
  found_as = seen_as (laid_of_all os) b.listing.now.over m (visible name (scopes_of os)) x v is

  abbrev past_in : CommandIn → Focus
  past_in k = past_name (place_of b.cursor.now) found_as.seen.kind found_as.seen.hops found_as.seen.inside k

  sees : (room : ℕ) (k : CommandIn) → shift room (scopes_of os) (Tokens.name name) (place_of b.cursor.now) (want_command k) ≡ on (scopes_of os) (past_in k)
  sees room k = ap (λ o. with_seen o (λ q. on (scopes_of os) (past_name (place_of b.cursor.now) q.kind q.hops q.inside k))) found_as.is

  pub name_breaks : (f : Fault) → Breaks (behind b.cursor.now) f → Halts wanted (here b n os es) f
  name_breaks f h = then_breaks (begun wanted (here b n os es)) (Tokens.name name) i want_command (λ k. refl) past_in sees f h

  pub name_goes : (st : Stands (here b n os es)) {d : Translation} → Moved b d → (p : ℕ) → (place_of b.cursor.now ≤ 65535 → p ≡ place_of b.cursor.now) → (c : Translation) (r : Result (Unit {0}) Fault) → GoesOn v p d n c r → Runs wanted (here b n os es) c r
  name_goes st {d} w p e c r g =
      continue d (then_takes (begun wanted (here b n os es)) (Tokens.name name) i want_command (λ k. refl) past_in sees d.cursor.now w.taken.0) c r (
      subst (λ q. Runs (λ k t. settle t (past_name q found_as.seen.kind found_as.seen.hops found_as.seen.inside k)) (here d n os es) c r) (e (place_fits st b.cursor.now st.fine refl)) (
      g os es found_as.seen (stands_moved st n w) (subst (λ l. Matches (laid_of_all os) l.now.over (Some v) (some found_as.seen)) (sym w.listing) (subst (λ o. Matches (laid_of_all os) b.listing.now.over o (some found_as.seen)) is (subst (Matches (laid_of_all os) b.listing.now.over m) found_as.is x)))))
