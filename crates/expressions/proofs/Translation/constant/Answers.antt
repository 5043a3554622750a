-- The token is a constant.
use Rattle.std.proofs.Common.{[], ◌∷◌, ◌++◌, pos, refl, ap, ◌∙◌, subst}
use Rattle.model.specs.Tree
use Rattle.model.specs.Code.{entry}
use Rattle.model.specs.Codes.{LDC}
use Rattle.cursor.specs.Rests.{place_of}
use Rattle.listing.specs.Listings.{Lists}
use Rattle.expressions.specs.Says.{here, scopes_at}
use Rattle.expressions.proofs.Chains.{place_fits}
use Rattle.expressions.proofs.Single.{one_token, taken_went}
use Rattle.expressions.proofs.Translation.constant.Goals as goal

pub returns : goal.returns
returns c =
    let b = c.args.self.now in
    let t = c.requires in
    λ n.
    record {
      says = λ os es st.
          let a = here b n os es in
          let p = c.entry_place-place.ensures (place_fits st b.cursor.now st.fine refl) in
          let e = c.constant_of.ensures (t.small st.fine) ∙ ap (λ q. entry LDC c.args.value 0 q) p in
          one_token a t.token t.is (Tree.constant (place_of b.cursor.now) (pos c.args.value)) c.args.ty (t.means (scopes_at a) (place_of b.cursor.now)) _ (subst (λ x. Lists c.lay.new.self (es ++ (x ∷ []))) e (c.lay.ensures.lists es st.lists)) c.taken.result c.taken.ensures;
      went = taken_went b _ t.token c.args.ty c.taken.result t.is c.taken.ensures;
      kept = record { cursor = refl; names = refl; listing = refl; table = c.lay.ensures.same };
    }
