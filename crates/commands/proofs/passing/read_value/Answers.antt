-- `leia`.
use Rattle.std.proofs.Common.{◌≡◌, [], ◌∷◌, ◌++◌, sym, refl, ap, ◌∙◌, subst, append_assoc}
use Rattle.std.proofs.lemmas.Result.{err_from_is_err_and}
use Rattle.model.specs.declared.table.Entry.{Entry}
use Rattle.model.specs.Code.{entry, plain, cell_of}
use Rattle.model.specs.Codes.{RD, STR}
use Rattle.cursor.specs.Rests.{ahead_of, place_of}
use Rattle.listing.specs.Listings.{Lists}
use Rattle.scopes.specs.Levels.{laid_of_all}
use Rattle.expressions.proofs.Chains.{moved, place_fits, further_then, further_moved, further_still}
use Rattle.commands.specs.Runs.{reads}
use Rattle.commands.proofs.Values.{keyword_there, way_refused, found_way, way_done}
use Rattle.commands.proofs.passing.read_value.Goals as goal

pub returns-in_err-variable-clause-translates : goal.returns-in_err-variable-clause-translates
returns-in_err-variable-clause-translates c =
    let z = err_from_is_err_and c.from_residual-in_err-variable.result c.from_residual-in_err-variable.ensures.1 in
    rw (z.1, z.2) (λ h n. record { says = λ os es st. way_refused (moved c.args.translation.now c.advance.new.self c.in_ok-advance.ensures) reads h n os es st c.bracketed.new.translation _ c.in_err-variable.ensures.says; went = tt })

pub returns-clause-translates : goal.returns-clause-translates
returns-clause-translates c =
    let b = c.args.translation.now in
    let v = moved c.args.translation.now c.advance.new.self c.in_ok-advance.ensures in
    let t = c.in_ok-variable.variable in
    let told = c.in_ok-variable.ensures in
    λ h n.
    record {
      says = λ os es st.
          let f = found_way v reads h n os es st told.says in
          let key = c.entry_place-keyword.ensures (place_fits st b.cursor.now st.fine refl) in
          let one : Entry = plain RD (place_of b.cursor.now) in
          let two : Entry = entry STR (cell_of (laid_of_all os) f.found) 0 t.place in
          let x : Entry = plain RD c.entry_place-keyword.result in
          let y : Entry = entry STR t.cell 0 t.place in
          let is_one : x ≡ one = cc in
          let is_two : y ≡ two = cc (f.cell) in
          way_done v reads h n os es st told.says _ (c.lay-2.ensures.still ∙ c.lay.ensures.still) (
          subst (Lists c.lay-2.new.self.listing.now) (append_assoc es (x ∷ []) (y ∷ []) ∙ ap (λ z. es ++ (z ∷ y ∷ [])) is_one ∙ ap (λ z. es ++ (one ∷ z ∷ [])) is_two) (
          c.lay-2.ensures.lists (es ++ (x ∷ [])) (c.lay.ensures.lists es (subst (λ l. Lists l.now es) (sym told.listing) st.lists))));
      went = further_still (further_then (further_moved (keyword_there reads (ahead_of b.cursor.now) h) v) told.passed.went) (c.lay-2.ensures.still ∙ c.lay.ensures.still);
    }
