-- Which declaration a name finds: the newest of the innermost block that has one.
use Rattle.std.proofs.Common.{◌≡◌, ℕ, suc, ◌+◌, Bool, true, false, List, [], ◌∷◌, ◌++◌, length, Decides, sym, refl, ap, ◌∙◌, subst, ap₂, ⊎_elim, true≢false, arith}
use mathlib.Core.Option.{Option, none, some, some-injective, none-ne-some}
use borrow.Author.Tests.{both_ways}
use Rattle.std.proofs.lemmas.Slice.Eq.{compares_Decides}
use Rattle.std.proofs.lemmas.Bool.{cases_Bool, or_parts, or_from}
use Rattle.model.specs.Reading.{same}
use Rattle.model.specs.Ahead.{present}
use Rattle.model.specs.Names.{Kind, Known, spelled_so, Seen, Scope, alike_numbers, routine_number, seen_from, waits}
use Rattle.model.specs.Promise.{Each}
use Rattle.grammar.specs.Visibility.{Newest, newest, Absent, Finds, outermost, finds, FoundByRules, DeclaredByRules}

decides : (xs ys : List ℕ) → Decides (same xs ys) (xs ≡ ys)
decides =
    compares_Decides same (
    record { empty = refl; shorter = λ y ys. refl; longer = λ x xs. refl; heads = λ x y xs ys. refl }
    )

module _ (s : List ℕ) where
  unlike : (n : List ℕ) → same s n ≡ false → s ≡ n → ⊥
  unlike n h e = both_ways (same s n) h ((decides s n).1 e)

  found_unlike : (n : List ℕ) → (s ≡ n → ⊥) → same s n ≡ false
  found_unlike n h = ⊎_elim (λ e. absurd (h ((decides s n).0 e))) (λ e. e) (cases_Bool (same s n))

  -- ── the names of one block ────────────────────────────────────────────────────────────────

  abbrev first_or : Bool → Kind → Option Kind → Option Kind
  first_or b d o = elim b [ true ↦ some d | false ↦ o ]

  one_newer : {d : Kind} (k : Known) {ks : List Known} → (s ≡ k.spelling → ⊥) → Newest s d ks → Newest s d (k ∷ ks)
  one_newer k n (newest j newer older a e f) = newest j (k ∷ newer) older (n, a) e f

  what_is_found_is_newest : (d : Kind) (ks : List Known) → spelled_so s ks ≡ some d → Newest s d ks
  what_is_found_is_newest d [] h = absurd (none-ne-some d h)
  what_is_found_is_newest d (k ∷ ks) h =
      by_test (λ i. what_is_found_is_newest d ks i) (same s k.spelling) refl h
    where
      by_test :
          (spelled_so s ks ≡ some d → Newest s d ks) → (b : Bool) → same s k.spelling ≡ b →
          first_or b k.kind (spelled_so s ks) ≡ some d → Newest s d (k ∷ ks)
      by_test further true q i =
          newest k [] ks tt ((decides s k.spelling).0 q) (sym (some-injective k.kind d i))
      by_test further false q i = one_newer k (unlike k.spelling q) (further i)

  the_newest_is_found : {d : Kind} {ks : List Known} → Newest s d ks → spelled_so s ks ≡ some d
  the_newest_is_found {d} (newest k newer older a e f) = past newer a
    where
      past : (ns : List Known) → Absent s ns → spelled_so s (ns ++ k ∷ older) ≡ some d
      past [] n =
          ap (λ b. first_or b k.kind (spelled_so s older)) ((decides s k.spelling).1 e) ∙ ap some (sym f)
      past (j ∷ ns) n =
          ap (λ b. first_or b j.kind (spelled_so s (ns ++ k ∷ older))) (found_unlike j.spelling n.0)
          ∙ past ns n.1

  the_absent_is_not_found : (ks : List Known) → Absent s ks → spelled_so s ks ≡ none
  the_absent_is_not_found [] n = refl
  the_absent_is_not_found (k ∷ ks) n =
      ap (λ b. first_or b k.kind (spelled_so s ks)) (found_unlike k.spelling n.0)
      ∙ the_absent_is_not_found ks n.1

  what_is_not_found_is_absent : (ks : List Known) → spelled_so s ks ≡ none → Absent s ks
  what_is_not_found_is_absent [] h = tt
  what_is_not_found_is_absent (k ∷ ks) h =
      by_test (λ i. what_is_not_found_is_absent ks i) (same s k.spelling) refl h
    where
      by_test :
          (spelled_so s ks ≡ none → Absent s ks) → (b : Bool) → same s k.spelling ≡ b →
          first_or b k.kind (spelled_so s ks) ≡ none → Absent s (k ∷ ks)
      by_test further true q i = absurd (none-ne-some k.kind (sym i))
      by_test further false q i = (unlike k.spelling q, further i)

  -- ── block by block ────────────────────────────────────────────────────────────────────────

  -- the same as `Finds` from a block that is h blocks up, where the routine numbered `last` was left for it
  data FindsFrom (d : Seen) (h : ℕ) (last : Option ℕ) : List Scope → Type 0 where
    finds_from :
        (c : Scope) (inner outer : List Scope) →
        Each (λ b. Absent s b.known) inner → Newest s d.kind c.known → d.hops ≡ h + length inner →
        d.inside ≡ alike_numbers (outermost last inner) (routine_number d.kind) →
        FindsFrom d h last (inner ++ c ∷ outer)

  one_further_in :
      {d : Seen} {h : ℕ} {last : Option ℕ} (c : Scope) {cs : List Scope} → Absent s c.known →
      FindsFrom d (suc h) (some c.which) cs → FindsFrom d h last (c ∷ cs)
  one_further_in c n (finds_from b inner outer a e f i) = finds_from b (c ∷ inner) outer (n, a) e (omega (arith, f)) i

  abbrev seen_or : List Scope → ℕ → Option ℕ → Scope → Option Kind → Option Seen
  seen_or cs h last c o =
      elim o [
        | none ↦ seen_from s (suc h) (some c.which) cs
        | some k ↦ some (record { kind = k; hops = h; inside = alike_numbers last (routine_number k) })
      ]

  what_is_seen_is_found :
      (d : Seen) (h : ℕ) (last : Option ℕ) (cs : List Scope) → seen_from s h last cs ≡ some d → FindsFrom d h last cs
  what_is_seen_is_found d h last [] e = absurd (none-ne-some d e)
  what_is_seen_is_found d h last (c ∷ cs) e =
      by_names (λ i. what_is_seen_is_found d (suc h) (some c.which) cs i) (spelled_so s c.known) refl e
    where
      by_names :
          (seen_from s (suc h) (some c.which) cs ≡ some d → FindsFrom d (suc h) (some c.which) cs) →
          (o : Option Kind) → spelled_so s c.known ≡ o → seen_or cs h last c o ≡ some d →
          FindsFrom d h last (c ∷ cs)
      by_names further none q i = one_further_in c (what_is_not_found_is_absent c.known q) (further i)
      by_names further (some k) q i =
          subst (λ z. FindsFrom z h last (c ∷ cs)) (some-injective _ d i)
          (finds_from c [] cs tt (what_is_found_is_newest k c.known q) (omega arith) refl)

  what_is_found_is_seen :
      {d : Seen} {h : ℕ} {last : Option ℕ} {cs : List Scope} → FindsFrom d h last cs → seen_from s h last cs ≡ some d
  what_is_found_is_seen {d} {h} {last} (finds_from c inner outer a e f i) = past inner h last a f i
    where
      past :
          (bs : List Scope) (h : ℕ) (last : Option ℕ) → Each (λ b. Absent s b.known) bs → d.hops ≡ h + length bs →
          d.inside ≡ alike_numbers (outermost last bs) (routine_number d.kind) →
          seen_from s h last (bs ++ c ∷ outer) ≡ some d
      past [] h last a f i =
          ap (seen_or outer h last c) (the_newest_is_found e)
          ∙ ap₂ (λ x y. some (record { kind = d.kind; hops = x; inside = y })) (omega (arith, f)) (sym i)
      past (b ∷ bs) h last a f i =
          ap (seen_or (bs ++ c ∷ outer) h last b) (the_absent_is_not_found b.known a.0)
          ∙ past bs (suc h) (some b.which) a.1 (omega (arith, f)) i

  as_found : {d : Seen} {cs : List Scope} → FindsFrom d 0 none cs → Finds s d cs
  as_found (finds_from c inner outer a e f i) = finds c inner outer a e (omega (arith, f)) i

  as_found_from : {d : Seen} {cs : List Scope} → Finds s d cs → FindsFrom d 0 none cs
  as_found_from (finds c inner outer a e f i) = finds_from c inner outer a e (omega (arith, f)) i

  -- ── names that wait for their type ────────────────────────────────────────────────────────

  abbrev UnlikeAll : List (List ℕ × ℕ) → Type 0
  UnlikeAll ws = Each (λ w. s ≡ w.0 → ⊥) ws

  none_waits : (ws : List (List ℕ × ℕ)) → waits s ws ≡ false → UnlikeAll ws
  none_waits [] h = tt
  none_waits (w ∷ ws) h =
      let p = or_parts (same s w.0) (waits s ws) h in (unlike w.0 p.0, none_waits ws p.1)

  waits_not : (ws : List (List ℕ × ℕ)) → UnlikeAll ws → waits s ws ≡ false
  waits_not [] n = refl
  waits_not (w ∷ ws) n = or_from (same s w.0) (waits s ws) (found_unlike w.0 n.0) (waits_not ws n.1)

  not_present : (o : Option Kind) → present o ≡ false → o ≡ none
  not_present none h = refl
  not_present (some k) h = absurd (true≢false h)

pub found_by_rules : FoundByRules
found_by_rules s cs d =
    (λ e. as_found s (what_is_seen_is_found s d 0 none cs e), λ f. what_is_found_is_seen s (as_found_from s f))

pub declared_by_rules : DeclaredByRules
declared_by_rules s c = (
  λ h.
      let p = or_parts (present (spelled_so s c.known)) (waits s c.waiting) h in (
        what_is_not_found_is_absent s c.known (not_present s (spelled_so s c.known) p.0),
        none_waits s
            c.waiting p.1,
      ),
  λ n.
      or_from (present (spelled_so s c.known)) (waits s c.waiting)
      (ap present (the_absent_is_not_found s c.known n.0)) (waits_not s c.waiting n.1),
)
