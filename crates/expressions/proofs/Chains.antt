-- Calls one after another: what they leave alone, the tokens that are left, and where the next one stands.
use Rattle.std.proofs.Common.{◌≡◌, ℕ, ◌<◌, ◌≤◌, List, length, Ok, Err, Result, sym, refl, ap, ◌∙◌, subst, arith}
use mathlib.Core.Option.{none}
use Rattle.model.specs.declared.table.Entry.{Entry}
use Rattle.model.specs.declared.faults.Fault.{Fault}
use Rattle.cursor.specs.declared.Cursor.{Cursor}
use Rattle.cursor.specs.Rests.{text_of, ahead_of, place_of, left, Fine, Takes}
use Rattle.listing.specs.declared.Listing.{Listing}
use Rattle.listing.specs.Listings.{Lists, SameTable}
use Rattle.scopes.specs.Levels.{Holds}
use Rattle.scopes.specs.Records
use Rattle.scopes.proofs.Declaring.{less_sure}
use Rattle.expressions.specs.declared.Translation.{Translation}
use Rattle.expressions.specs.Says.{Here, Stands, Kept, Further, Went}
use Rattle.expressions.proofs.Tokens.{There, falls, place_low}

-- ── what is left alone ──────────────────────────────────────────────────────────────────────

pub same_then : (l m n : Listing) → SameTable l m → SameTable m n → SameTable l n
same_then l m n x y = (y.0 ∙ x.0, y.1 ∙ x.1, λ f. x.2 (y.2 f))

pub kept_then : {b c d : Translation} → Kept b c → Kept c d → Kept b d
kept_then {b} {c} {d} x y =
    record { cursor = y.cursor ∙ x.cursor; names = y.names ∙ x.names; listing = y.listing ∙ x.listing; table = same_then b.listing.now c.listing.now d.listing.now x.table y.table }

-- ── the text ────────────────────────────────────────────────────────────────────────────────

-- the token ahead was taken, and nothing else was done
pub record Moved (b d : Translation) : Type 0 where
  pub taken : Takes b.cursor.now (Ok tt) d.cursor.now
  pub cursor : d.cursor.ghost_name ≡ b.cursor.ghost_name
  pub names : d.names ≡ b.names
  pub listing : d.listing ≡ b.listing

-- only the cursor went on
pub kept_ahead : {b d : Translation} → d.cursor.ghost_name ≡ b.cursor.ghost_name → d.names ≡ b.names → d.listing ≡ b.listing → Kept b d
kept_ahead {b} {d} c n l = record { cursor = c; names = n; listing = ap (λ i. i.ghost_name) l; table = subst (λ i. SameTable b.listing.now i.now) (sym l) (refl, refl, λ f. f) }

abbrev pub ahead_by : Translation → Cursor → Translation
ahead_by b d = record { cursor = record { ref_ptr = b.cursor.ref_ptr; ghost_name = b.cursor.ghost_name; now = d }; names = b.names; listing = b.listing }

pub moved : (b : Translation) (d : Cursor) → Takes b.cursor.now (Ok tt) d → Moved b (ahead_by b d)
moved b d t = record { taken = t; cursor = refl; names = refl; listing = refl }

pub kept_moved : {b d : Translation} → Moved b d → Kept b d
kept_moved v = kept_ahead v.cursor v.names v.listing

pub further_then : {b c d : Translation} → Further b c → Further c d → Further b d
further_then x y = record { fewer = omega (arith, x.fewer, y.fewer); fine = y.fine; text = y.text ∙ x.text }

pub further_moved : {b d : Translation} → There (ahead_of b.cursor.now) → Moved b d → Further b d
further_moved {b} {d} t v = record { fewer = falls b.cursor.now d.cursor.now t.token t.is v.taken.1; fine = v.taken.2; text = v.taken.3 }

-- the same, with nothing taken between
pub further_still : {b c d : Translation} → Further b c → d.cursor.now ≡ c.cursor.now → Further b d
further_still {b} {c} {d} x h =
    record { fewer = subst (λ e. left e < left b.cursor.now) (sym h) x.fewer; fine = subst Fine (sym h) x.fine; text = ap text_of h ∙ x.text }

-- whatever was answered, tokens were taken
pub any_went : {A : Type 0} {b c : Translation} → Further b c → (r : Result A Fault) → Went b r c
any_went x (Ok y) = x
any_went x (Err f) = tt

pub went_behind : {A : Type 0} {b d : Translation} → There (ahead_of b.cursor.now) → Moved b d → (c : Translation) (r : Result A Fault) → Went d r c → Went b r c
went_behind t v c (Ok y) w = further_then (further_moved t v) w
went_behind t v c (Err f) w = tt

-- ── where the next call stands ──────────────────────────────────────────────────────────────

pub stands_further : {a : Here} → Stands a → {d : Translation} (es : List Entry) (n : ℕ) → Kept a.from d → Lists d.listing.now es → Fine d.cursor.now → text_of d.cursor.now ≡ text_of a.from.cursor.now →
    Stands (record { from = d; levels = a.levels; entries = es; depth = n })
stands_further {a} st {d} es n k l f u =
    record {
      fine = f;
      short = subst (λ text. length text ≤ 65535) (sym u) st.short;
      holds = subst (λ s. Holds s.now d.listing.now.over a.levels) (sym k.names) (less_sure (Records.text_of a.from.names.now) a.from.listing.now.over d.listing.now.over k.table.2 a.levels (Records.records_of a.from.names.now) none 0 st.holds);
      calm = st.calm;
      lists = l;
    }

-- with other levels open
pub stands_at : {a : Here} → Stands a → (n : ℕ) → Stands (record { from = a.from; levels = a.levels; entries = a.entries; depth = n })
stands_at st n = record { fine = st.fine; short = st.short; holds = st.holds; calm = st.calm; lists = st.lists }

-- behind the token ahead
pub stands_moved : {a : Here} → Stands a → {d : Translation} (n : ℕ) → Moved a.from d → Stands (record { from = d; levels = a.levels; entries = a.entries; depth = n })
stands_moved {a} st {d} n v = stands_further st a.entries n (kept_moved v) (subst (λ l. Lists l.now a.entries) (sym v.listing) st.lists) v.taken.2 v.taken.3

-- the place of a token further on, as an entry holds it
pub place_fits : {a : Here} → Stands a → (c : Cursor) → Fine c → text_of c ≡ text_of a.from.cursor.now → place_of c ≤ 65535
place_fits st c f u = place_low c f (subst (λ text. length text ≤ 65535) (sym u) st.short)
