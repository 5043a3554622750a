-- What closing an open jump makes of the entries that a listing stands for.
use Rattle.std.proofs.Common.{◌≡◌, ℕ, ◌≤◌, false, List, ◌∷◌, ◌++◌, length, set, sym, ap, ◌∙◌, subst, arith, length-append, length-set}
use Rattle.std.proofs.lemmas.List.{set_at}
use Rattle.model.specs.declared.table.Entry.{Entry}
use Rattle.listing.specs.declared.Listing.{Listing}
use Rattle.listing.specs.declared.OpenJump.{OpenJump}
use Rattle.listing.specs.Listings.{limit, Lists, SameTable, Stands, jump_to}

-- a jump that gets its target
pub closed : (l m : Listing) (j : OpenJump) (n : ℕ) (b : List Entry) (x : Entry) (es : List Entry) → SameTable l m →
    Lists l (es ++ (x ∷ b)) → Stands j l es → (l.over ≡ false → n ≡ length (es ++ (x ∷ b))) →
    Lists m (set (es ++ (x ∷ b)) j.at (jump_to j n)) → Lists m (es ++ (jump_to j (length (es ++ (x ∷ b))) ∷ b))
closed l m j n b x es s y h k z =
    record {
      fits = λ t.
          let f = s.2 t in
          let e : set (es ++ (x ∷ b)) j.at (jump_to j n) ≡ es ++ (jump_to j (length (es ++ (x ∷ b))) ∷ b)
          = set_at es x b (jump_to j n) j.at (sym (h f)) ∙ ap (λ i. es ++ (jump_to j i ∷ b)) (k f) in
          ((z.fits t).0 ∙ e, subst (λ fs. length fs ≤ limit m) e (z.fits t).1);
      exceeds = λ t. omega (arith, z.exceeds t, length-set (es ++ (x ∷ b)) j.at (jump_to j n), length-append es (x ∷ b), length-append es (jump_to j (length (es ++ (x ∷ b))) ∷ b));
    }
