-- Each turn changes one element more.
use Rattle.std.proofs.Common.{◌≡◌, refl, ℕ, min, ◌-◌, ◌+◌, ◌≤◌, ◌<◌, List, [], ◌∷◌, ◌++◌, map, length, get_or, set, take, drop, sym, ap, subst, ◌∙◌, arith, rules, length-append, length-take, length-drop}
use Rattle.std.specs.List.{AllZip}
use Rattle.std.proofs.lemmas.List.{places, same_lists, take_all, take_at, take_min, take_more_set, drop_at, drop_min, drop-drop, drop-set-lt, get_or-drop, take-append-drop}
use Rattle.std.proofs.lemmas.List.Elements.{all_zip_more}
use Rattle.std.proofs.lemmas.Slice.{take-put_mid, drop-put_mid}
use borrow.Rule.Slice.PartMut.{put_mid}
use Rattle.pile.specs.declared.Pile.{Pile}
use Rattle.pile.specs.Piles.{memory, front, fill_of}
use Rattle.pile.proofs.Pile.update.Goals as goal

-- R holds of the first k of xs and ys, place by place, and the rest is the same; y is written over x, at k
module _ {A : Type 0} (R : A → A → Type 0) (xs ys : List A) (k : ℕ) (x y : A) (on : k < length xs) (long : length ys ≡ length xs) (is : x ≡ get_or ys k x) (r : R (get_or ys k x) y) (h : AllZip R (take k xs) (take k ys) × (drop k ys ≡ drop k xs)) where
  stood : x ≡ get_or xs k x
  stood =
      let at : k ≡ k + 0 = omega arith in
      is ∙ ap (λ n. get_or ys n x) at ∙ sym (get_or-drop k ys 0 x) ∙ ap (λ l. get_or l 0 x) h.1 ∙ get_or-drop k xs 0 x ∙ ap (λ n. get_or xs n x) (sym at)

  one_more : AllZip R (take (k + 1) xs) (take (k + 1) (set ys k y)) × (drop (k + 1) (set ys k y) ≡ drop (k + 1) xs)
  one_more = (
    subst (AllZip R (take (k + 1) xs)) (sym (take_more_set ys k y (omega (arith, on, long)))) (all_zip_more R xs (take k ys) k x y on stood h.0 (subst (λ z. R z y) (sym is) r)),
    drop-set-lt (k + 1) ys k y (omega arith) ∙ sym (drop-drop 1 k ys) ∙ ap (drop 1) h.1 ∙ drop-drop 1 k xs,
  )

-- the span of p from `low` on holds ys now, which R allows for what it held
module _ {A : Type 0} (p : Pile A) (from low : ℕ) (e : low ≡ min from p.fill) (R : A → A → Type 0) (k : ℕ) (ys : List A) where
  abbrev span : List A
  span = take (p.fill - low) (drop low (memory p))

  abbrev written : List A
  written = put_mid low (p.fill - low) (memory p) ys

  module _ (past : length span ≤ k) (long : length ys ≡ length span) (reached : AllZip R (take k span) (take k ys)) where
    all_made : AllZip R span ys
    all_made = subst (AllZip R span) (take_all k ys (omega (arith, long))) (subst (λ xs. AllZip R xs (take k ys)) (take_all k span past) reached)

    count : length ys ≡ p.fill - low
    count = long ∙ omega (arith, p.fits, length-take (p.fill - low) (drop low (memory p)), length-drop low (memory p))

    below : take low (memory p) ≡ take from (front p)
    below = same_lists _ _ (search (rules, places)) (λ i d h. grind (arith, places))

    above : span ≡ drop from (front p)
    above = same_lists _ _ (search (rules, places)) (λ i d h. grind (arith, places))

    front_made : take p.fill written ≡ take low (memory p) ++ ys
    front_made = take-put_mid low (p.fill - low) (memory p) ys p.fill (omega (arith, count)) (omega (arith, p.fits))

    short : length (take low (memory p)) ≡ low
    short = omega (arith, p.fits, length-take low (memory p))

    cut : min from (length (take low (memory p) ++ ys)) ≡ low
    cut = omega (arith, count, short, length-append (take low (memory p)) ys)

    below_kept : take from (take p.fill written) ≡ take from (front p)
    below_kept =
        ap (take from) front_made ∙ sym (take_min from (take low (memory p) ++ ys)) ∙ ap (λ n. take n (take low (memory p) ++ ys)) cut
        ∙ take_at (take low (memory p)) ys low short ∙ below

    above_made : drop from (take p.fill written) ≡ ys
    above_made =
        ap (drop from) front_made ∙ sym (drop_min from (take low (memory p) ++ ys)) ∙ ap (λ n. drop n (take low (memory p) ++ ys)) cut
        ∙ drop_at (take low (memory p)) ys low short

    rest_kept : drop p.fill written ≡ drop (fill_of p) (memory p)
    rest_kept = drop-put_mid low (p.fill - low) (memory p) ys p.fill (omega arith) (omega (arith, p.fits)) count ∙ ap (λ n. drop n (memory p)) (omega (arith, p.fits))

    same_room : length written ≡ length (memory p)
    same_room = omega (
      arith,
      p.fits,
      count,
      length-append (take low (memory p)) (ys ++ drop (p.fill - low) (drop low (memory p))),
      length-append ys (drop (p.fill - low) (drop low (memory p))),
      length-take low (memory p),
      length-drop (p.fill - low) (drop low (memory p)),
      length-drop low (memory p),
    )

    replaced : (min p.fill (length written) ≡ fill_of p) × (take from (take p.fill written) ≡ take from (front p)) × AllZip R (drop from (front p)) (drop from (take p.fill written)) × (written ≡ take p.fill written ++ drop (fill_of p) (memory p))
    replaced = (
      ap (min p.fill) same_room,
      below_kept,
      subst (AllZip R (drop from (front p))) (sym above_made) (subst (λ xs. AllZip R xs ys) above all_made),
      sym (take-append-drop p.fill written) ∙ ap (λ xs. take p.fill written ++ xs) rest_kept,
    )

-- where R leaves one result alone
module _ {A : Type 0} (R : A → A → Type 0) (g : A → A) (one : (x y : A) → R x y → y ≡ g x) where
  mapped : (xs ys : List A) → AllZip R xs ys → ys ≡ map g xs
  mapped [] [] h = refl
  mapped [] (y ∷ ys) h = absurd h
  mapped (x ∷ xs) [] h = absurd h
  mapped (x ∷ xs) (y ∷ ys) h = λ i. one x y h.0 i ∷ mapped xs ys h.1 i

  front_mapped : (fs ys : List A) (i : ℕ) → take i ys ≡ take i fs → AllZip R (drop i fs) (drop i ys) → ys ≡ take i fs ++ map g (drop i fs)
  front_mapped fs ys i below above = sym (take-append-drop i ys) ∙ ap (λ xs. xs ++ drop i ys) below ∙ ap (λ xs. take i fs ++ xs) (mapped (drop i fs) (drop i ys) above)

pub loop-cell-preserved : goal.loop-cell-preserved
loop-cell-preserved g c =
    let at = c.loop-cell in
    one_more (goal.F-post g c.args.f) _ at.span at.cell-index c.cell-item.result c.f.result c.loop-cell-test.true at.auto.span c.cell-item.is c.f.ensures at.invariant

pub returns-clause-each : goal.returns-clause-each
returns-clause-each g c =
    let r = replaced c.args.self.now c.args.from c.min.result c.min.ensures _ c.loop-cell.cell-index c.loop-cell.span c.loop-cell-test.false c.loop-cell.auto.span c.loop-cell.invariant.0 in
    (r.0, r.1, r.2, r.3, refl)

pub returns-clause-updated : goal.returns-clause-updated
returns-clause-updated g c = λ m h. let r = returns-clause-each g c in (r.0, front_mapped _ m h _ _ c.args.from r.1 r.2, r.3, r.4)
