-- Factors of one token: constants, variables and calls.
use Rattle.std.proofs.Common.{◌≡◌, ◌<◌, ◌≤◌, false, List, ◌++◌, length, Ok, Err, Result, sym, refl, ap, ◌∙◌, subst}
use mathlib.Core.Option.{some}
use Rattle.model.specs.declared.script.Ty.{Ty}
use Rattle.model.specs.declared.faults.Fault.{Fault}
use Rattle.model.specs.declared.table.Entry.{Entry}
use Rattle.model.specs.Tokens.{Token}
use Rattle.model.specs.Tree.{Exp}
use Rattle.model.specs.Contexts.{FactorIn, want_factor, past_factor}
use Rattle.model.specs.Settling.{at}
use Rattle.model.specs.Judged.{on}
use Rattle.model.specs.Bodies.{shift_factor}
use Rattle.model.specs.Code.{of_exp}
use Rattle.cursor.specs.Rests.{rest_of, ahead_of, place_of}
use Rattle.cursor.specs.Onward.{onward}
use Rattle.cursor.proofs.Judging.{takes, breaks_off}
use Rattle.listing.specs.declared.Listing.{Listing}
use Rattle.listing.specs.Listings.{limit, Lists}
use Rattle.expressions.specs.declared.Translation.{Translation}
use Rattle.expressions.specs.Parts.{factor, whole}
use Rattle.expressions.specs.Says.{Here, scopes_at, laid_at, Says, Went, Taken}
use Rattle.expressions.proofs.Tokens.{falls}

module _ (a : Here) (t : Token) (i : ahead_of a.from.cursor.now ≡ some t) where
  -- the token is a factor
  pub one_token : (x : Exp) (y : Ty) → ((k : FactorIn) → shift_factor (scopes_at a) t (place_of a.from.cursor.now) k ≡ on (scopes_at a) (past_factor x y k)) →
      (c : Translation) → Lists c.listing.now (a.entries ++ of_exp (laid_at a) x) → (r : Result Ty Fault) → Taken a.from.cursor.now y r c.cursor.now → Says factor (whole factor) a c r
  one_token x y h c l (Ok z) e =
      record {
        exp = x;
        lists = l;
        moves = λ room k deep. takes room a.from.cursor.now (scopes_at a) (λ _. at (want_factor k)) t (want_factor k) i refl (scopes_at a) (past_factor x y k) (h k) c.cursor.now e.1 ∙ ap (λ w. onward room (rest_of c.cursor.now) (scopes_at a) (whole factor x w k)) (sym e.0);
      }
  one_token x y h c l (Err f) e =
      record { refuses = λ room k deep. breaks_off room a.from.cursor.now (scopes_at a) (λ _. at (want_factor k)) t (want_factor k) i refl (scopes_at a) (past_factor x y k) (h k) f e }

pub taken_went : (b c : Translation) (t : Token) (y : Ty) (r : Result Ty Fault) → ahead_of b.cursor.now ≡ some t → Taken b.cursor.now y r c.cursor.now → Went b r c
taken_went b c t y (Ok z) i e = record { fewer = falls b.cursor.now c.cursor.now t i e.2; fine = e.3; text = e.4 }
taken_went b c t y (Err f) i e = tt

-- where the entries do not fit, only how many they are matters
pub relisted : (m : Listing) (fs gs : List Entry) → length fs ≡ length gs → (m.over ≡ false → fs ≡ gs) → Lists m fs → Lists m gs
relisted m fs gs n h x =
    record {
      fits = λ f. let e = h f in ((x.fits f).0 ∙ e, subst (λ es. length es ≤ limit m) e (x.fits f).1);
      exceeds = λ f. subst (λ k. limit m < k) n (x.exceeds f);
    }
