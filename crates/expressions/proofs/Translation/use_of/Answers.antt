-- The token is a name.
use Rattle.std.proofs.Common.{◌≡◌, false, [], ◌∷◌, ◌++◌, length, sym, refl, ap, ◌∙◌, subst, append_assoc, length-append}
use Rattle.model.specs.declared.table.Entry.{Entry}
use Rattle.model.specs.Tree
use Rattle.model.specs.Tokens
use Rattle.model.specs.Judged.{with_seen}
use Rattle.model.specs.Bodies.{use_of}
use Rattle.model.specs.Code.{entry, cell_of, begin_of}
use Rattle.model.specs.Codes.{LDV, CALL}
use Rattle.cursor.specs.Rests.{place_of}
use Rattle.listing.specs.Listings.{Lists}
use Rattle.expressions.specs.Says.{here, scopes_at, laid_at, Taken}
use Rattle.expressions.proofs.Chains.{kept_then, kept_ahead, place_fits}
use Rattle.expressions.proofs.Single.{one_token, taken_went, relisted}
use Rattle.expressions.proofs.Uses.{variable_seen, function_seen}
use Rattle.expressions.proofs.Translation.use_of.Goals as goal

pub returns-in-Variable : goal.returns-in-Variable
returns-in-Variable c =
    let b = c.args.self.now in
    let t = Tokens.name c.args.name.now in
    let taken = subst (λ q. Taken q c.in-Variable.ty c.taken.result c.taken.new.cursor) c.lay.ensures.still c.taken.ensures in
    λ n.
    record {
      says = λ os es st.
          let a = here b n os es in
          let v = variable_seen (laid_at a) _ c.in-Some.known c.look_up.result _ (c.look_up.ensures.matches _ os st.holds st.calm) c.in-Some.is c.in-Variable.ty c.in-Variable.is in
          let f : Tree.Found = record { hops = v.hops; index = v.index } in
          let p = c.entry_place-place.ensures (place_fits st b.cursor.now st.fine refl) in
          let e : entry LDV c.in-Some.known.cell 0 c.entry_place-place.result ≡ entry LDV (cell_of (laid_at a) f) 0 (place_of b.cursor.now) = cc (v.cell) in
          one_token a t c.requires (Tree.variable (place_of b.cursor.now) f) c.in-Variable.ty (λ k. ap (λ d. with_seen d (λ g. use_of (scopes_at a) (place_of b.cursor.now) k g.kind g.hops)) v.is) _ (subst (λ x. Lists c.lay.new.self.listing.now (es ++ (x ∷ []))) e (c.lay.ensures.lists es st.lists)) c.taken.result taken;
      went = taken_went b _ t c.in-Variable.ty c.taken.result c.requires taken;
      kept = kept_then c.lay.ensures.kept (kept_ahead refl refl refl);
    }

pub returns-in-Function : goal.returns-in-Function
returns-in-Function c =
    let b = c.args.self.now in
    let t = Tokens.name c.args.name.now in
    let first = c.lay-in-Function.ensures in
    let second = c.lay-in-Function-2.ensures in
    let kept = kept_then first.kept second.kept in
    let taken = subst (λ q. Taken q c.in-Function.ty c.taken-in-Function.result c.taken-in-Function.new.cursor) (second.still ∙ first.still) c.taken-in-Function.ensures in
    λ n.
    record {
      says = λ os es st.
          let a = here b n os es in
          let v = function_seen (laid_at a) _ c.in-Some.known c.look_up.result _ (c.look_up.ensures.matches _ os st.holds st.calm) c.in-Some.is c.in-Function.ty c.in-Function.is in
          let f : Tree.Found = record { hops = v.hops; index = v.index } in
          let p = c.entry_place-place.ensures (place_fits st b.cursor.now st.fine refl) in
          let x = entry CALL c.in-Some.known.entry 0 c.entry_place-place.result in
          let y = entry LDV 0 0 c.entry_place-place.result in
          let call : Entry = entry CALL (begin_of (laid_at a) f) 0 (place_of b.cursor.now) in
          let load : Entry = entry LDV 0 0 (place_of b.cursor.now) in
          let is_load : y ≡ load = cc in
          let is_call : b.listing.now.over ≡ false → x ≡ call = λ o. let e = v.entry o in cc in
          one_token a t c.requires (Tree.call (place_of b.cursor.now) f) c.in-Function.ty (λ k. ap (λ d. with_seen d (λ g. use_of (scopes_at a) (place_of b.cursor.now) k g.kind g.hops)) v.is) _ (
          relisted c.lay-in-Function-2.new.self.listing.now ((es ++ (x ∷ [])) ++ (y ∷ [])) (es ++ (call ∷ load ∷ [])) (ap length (append_assoc es (x ∷ []) (y ∷ [])) ∙ (length-append es (x ∷ y ∷ []) ∙ sym (length-append es (call ∷ load ∷ [])))) (
          λ o. append_assoc es (x ∷ []) (y ∷ []) ∙ ap (λ z. es ++ (z ∷ y ∷ [])) (is_call (kept.table.2 o)) ∙ ap (λ z. es ++ (call ∷ z ∷ [])) is_load) (second.lists (es ++ (x ∷ [])) (first.lists es st.lists))) c.taken-in-Function.result taken;
      went = taken_went b _ t c.in-Function.ty c.taken-in-Function.result c.requires taken;
      kept = kept_then kept (kept_ahead refl refl refl);
    }
