-- The newest record that is spelled so matches the declaration that the judge finds.
use Rattle.std.proofs.Common.{◌≡◌, ℕ, suc, pred, ◌+◌, Bool, true, false, List, [], ◌∷◌, ◌++◌, get_or, Some, sym, refl, ap, ◌∙◌, subst, ⊎_elim, true≢false, arith}
use mathlib.Core.Option.{Option, none, some}
use Rattle.std.proofs.lemmas.Bool.{cases_Bool}
use Rattle.model.specs.Reading.{same}
use Rattle.scopes.specs.declared.names.Name.{Name}
use Rattle.model.specs.Names.{Kind, a_variable, a_procedure, a_function, Known, spelled_so, routine_number, alike_numbers, seen_from, visible}
use Rattle.model.specs.Code.{Laid, nowhere}
use Rattle.scopes.specs.Records.{spelling, newest}
use Rattle.scopes.specs.Levels.{Level, laid_of, scopes_of, laid_of_all, StandsFor, Recorded, Waiting, Knows, Calm, Matches, neither, variables, procedures, functions}

module _ (text s : List ℕ) (over : Bool) where
  -- ── one block ─────────────────────────────────────────────────────────────────────────────

  module _ (first : ℕ) (begins : List ℕ) (last : Option ℕ) (inner : ℕ) (rest : List Name) where
    -- what a search through the block's records gives, where the block's names give this
    abbrev pub Finds : List Name → Option Kind → Type 0
    Finds own none = newest text s (own ++ rest) ≡ newest text s rest
    Finds own (some d) = (n : Name) × (newest text s (own ++ rest) ≡ Some n) × StandsFor over first begins last inner n d

    finds_below : (k : Known) (ks : List Known) (n : Name) (own : List Name) → same s k.spelling ≡ false → same s (spelling text n) ≡ false → (o : Option Kind) → o ≡ spelled_so s ks → Finds own o → Finds (n ∷ own) o
    finds_below k ks n own g h none e x = rw (h, newest) x
    finds_below k ks n own g h (some d) e x = (x.0, rw (h, newest) x.1, x.2)

    pub finds : (ks : List Known) (own : List Name) → Recorded text over first begins last inner ks own → Finds own (spelled_so s ks)
    finds [] [] x = refl
    finds [] (n ∷ own) x = absurd x
    finds (k ∷ ks) [] x = absurd x
    finds (k ∷ ks) (n ∷ own) x =
        let e : same s k.spelling ≡ same s (spelling text n) = ap (same s) x.0 in
        ⊎_elim
        (λ y.
        let g : same s k.spelling ≡ true = y in
        let z : same s (spelling text n) ≡ true = sym e ∙ g in
        let here : newest text s ((n ∷ own) ++ rest) ≡ Some n = rw (z, newest) refl in
        let so : spelled_so s (k ∷ ks) ≡ some k.kind = rw (g, spelled_so) refl in
        subst (Finds (n ∷ own)) (sym so) (n, here, x.1))
        (λ y.
        let g : same s k.spelling ≡ false = y in
        let so : spelled_so s (k ∷ ks) ≡ spelled_so s ks = rw (g, spelled_so) refl in
        subst (Finds (n ∷ own)) (sym so) (finds_below k ks n own g (sym e ∙ g) (spelled_so s ks) refl (finds ks own x.2)))
        (cases_Bool (same s k.spelling))

  pub none_wait : (first : ℕ) (ws : List (List ℕ × ℕ)) (top : List Name) → ws ≡ [] → Waiting text first ws top → top ≡ []
  none_wait first [] [] e x = refl
  none_wait first [] (n ∷ top) e x = absurd x
  none_wait first (w ∷ ws) top e x = let z : ◌≡◌ {A = ℕ} 0 1 = cc in absurd (omega arith)

  -- around an open block no variable waits
  outer_calm : (os : List Level) (ns : List Name) (w inner : ℕ) → Knows text over (some w) inner os ns → Calm os
  outer_calm [] ns w inner x = tt
  outer_calm (o ∷ os) ns w inner x = x.numbered.1

  -- ── all blocks ────────────────────────────────────────────────────────────────────────────

  module _ (ls : List Laid) where
    module _ (o : Level) (last : Option ℕ) (inner h : ℕ) (here : get_or ls h nowhere ≡ laid_of o) (inn : (w : ℕ) → last ≡ some w → inner ≡ (get_or ls (pred h) nowhere).first) where
      is_open : (l : Option ℕ) (w : ℕ) → last ≡ l → alike_numbers l (some w) ≡ true → inner ≡ (get_or ls (pred h) nowhere).first + 0
      is_open none w e x = absurd (true≢false (sym x))
      is_open (some v) w e x = omega (arith, inn v e)

      matched : (n : Name) (d : Kind) → StandsFor over o.scope.first o.begins last inner n d → Matches ls over (Some n) (some (record { kind = d; hops = h; inside = alike_numbers last (routine_number d) }))
      matched n (a_variable y i) x = variables n y i h _ x.0 (x.1 ∙ ap (λ l. l.first + i) (sym here))
      matched n (a_procedure w) x = procedures n w h _ x.0 (λ f. x.1 f ∙ ap (λ l. get_or l.begins w 0) (sym here))
      matched n (a_function y w) x =
          functions n y w h _ x.0 (λ f. x.1 f ∙ ap (λ l. get_or l.begins w 0) (sym here)) x.2 (λ t. x.3 (x.2 ∙ t) ∙ is_open last w refl t)

      -- from this block on
      goes_on : (os : List Level) (own outer : List Name) → Matches ls over (newest text s outer) (seen_from s (suc h) (some o.scope.which) (scopes_of os)) →
          (d : Option Kind) → spelled_so s o.scope.known ≡ d → Finds o.scope.first o.begins last inner outer own d → Matches ls over (newest text s (own ++ outer)) (seen_from s h last (scopes_of (o ∷ os)))
      goes_on os own outer below none e f =
          subst (λ m. Matches ls over m (seen_from s h last (scopes_of (o ∷ os)))) (sym f) (subst (Matches ls over (newest text s outer)) (sym (rw (e, seen_from) refl)) below)
      goes_on os own outer below (some d) e f =
          subst (λ m. Matches ls over m (seen_from s h last (scopes_of (o ∷ os)))) (sym f.1) (subst (Matches ls over (Some f.0)) (sym (rw (e, seen_from) refl)) (matched f.0 d f.2))

    seen : (os : List Level) (ns : List Name) (last : Option ℕ) (inner h : ℕ) → Knows text over last inner os ns → Calm os →
        ((j : ℕ) → get_or ls (h + j) nowhere ≡ get_or (laid_of_all os) j nowhere) → ((w : ℕ) → last ≡ some w → inner ≡ (get_or ls (pred h) nowhere).first) →
        Matches ls over (newest text s ns) (seen_from s h last (scopes_of os))
    seen [] ns last inner h x calm at inn = subst (λ m. Matches ls over (newest text s m) none) (sym x) neither
    seen (o ∷ os) ns last inner h x calm at inn =
        let here : get_or ls h nowhere ≡ laid_of o = ap (λ i. get_or ls i nowhere) (omega arith) ∙ at 0 in
        let flat : ns ≡ x.own ++ x.outer = x.parts ∙ ap (λ t. t ++ (x.own ++ x.outer)) (none_wait o.scope.first o.scope.waiting x.top calm x.waiting) in
        let below : Matches ls over (newest text s x.outer) (seen_from s (suc h) (some o.scope.which) (scopes_of os))
        = seen os x.outer (some o.scope.which) o.scope.first (suc h) x.below (outer_calm os x.outer o.scope.which o.scope.first x.below) (λ j. ap (λ i. get_or ls i nowhere) (omega arith) ∙ at (suc j)) (λ w e. ap (λ l. l.first) (sym here)) in
        subst (λ m. Matches ls over (newest text s m) (seen_from s h last (scopes_of (o ∷ os)))) (sym flat) (
        goes_on o last inner h here inn os x.own x.outer below (spelled_so s o.scope.known) refl (finds o.scope.first o.begins last inner x.outer o.scope.known x.own x.known))

  pub visible_matches : (os : List Level) (ns : List Name) → Knows text over none 0 os ns → Calm os → Matches (laid_of_all os) over (newest text s ns) (visible s (scopes_of os))
  visible_matches os ns x calm =
      seen (laid_of_all os) os ns none 0 0 x calm (λ j. ap (λ i. get_or (laid_of_all os) i nowhere) (omega arith)) (λ w e. let z : ◌≡◌ {A = ℕ} 0 1 = cc in absurd (omega arith))
