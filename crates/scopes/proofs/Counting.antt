-- How many records the open blocks have, which are those of the innermost, and whether it has a name already.
use Rattle.std.proofs.Common.{◌≡◌, ℕ, suc, ◌+◌, ◌<◌, ◌≤◌, Bool, true, false, ◌||◌, ltb, leb, List, [], ◌∷◌, ◌++◌, reverse, length, take, drop, is_some, sym, refl, ap, ◌∙◌, ⊎_elim, append_assoc, append-nil, arith, length-append, le-ltb, lt-ltb, le-leb}
use mathlib.Core.Option.{Option, none, some}
use Rattle.std.proofs.Math.Bool.{or_comm}
use Rattle.std.proofs.lemmas.Bool.{cases_Bool, lt-leb}
use Rattle.std.proofs.lemmas.List.{reverse-append, reverse-reverse, length-reverse, take-append-le, drop-append-le, take_all}
use lib.Seq.{drop-length}
use Rattle.model.specs.Reading.{same}
use Rattle.model.specs.Ahead.{present}
use Rattle.scopes.specs.declared.names.Name.{Name}
use Rattle.model.specs.Names.{Kind, Known, spelled_so, waits, declared_here, records}
use Rattle.model.specs.Judged.{Judged, refuses}
use Rattle.model.specs.Heads.{declares}
use Rattle.model.specs.declared.faults.Cause.TheVariants as Causes
use Rattle.model.specs.declared.faults.MeaningFault.TheVariants.{Twice}
use Rattle.model.specs.declared.faults.RoomFault.TheVariants.{NamesFull, ManyCells}
use Rattle.scopes.specs.Records.{spelling, newest}
use Rattle.scopes.specs.Levels.{Level, scopes_of, Recorded, Waiting, Block, Knows}
use Rattle.scopes.proofs.Seeing.{Finds, finds}

-- ── how many ────────────────────────────────────────────────────────────────────────────────

module _ (text : List ℕ) (over : Bool) where
  recorded_length : (first : ℕ) (begins : List ℕ) (last : Option ℕ) (inner : ℕ) (ks : List Known) (ns : List Name) → Recorded text over first begins last inner ks ns → length ns ≡ length ks
  recorded_length first begins last inner [] [] x = refl
  recorded_length first begins last inner [] (n ∷ ns) x = absurd x
  recorded_length first begins last inner (k ∷ ks) [] x = absurd x
  recorded_length first begins last inner (k ∷ ks) (n ∷ ns) x = ap suc (recorded_length first begins last inner ks ns x.2)

  waiting_length : (first : ℕ) (ws : List (List ℕ × ℕ)) (ns : List Name) → Waiting text first ws ns → length ns ≡ length ws
  waiting_length first [] [] x = refl
  waiting_length first [] (n ∷ ns) x = absurd x
  waiting_length first (w ∷ ws) [] x = absurd x
  waiting_length first (w ∷ ws) (n ∷ ns) x = ap suc (waiting_length first ws ns x.2)

  pub counted : (os : List Level) (ns : List Name) (last : Option ℕ) (inner : ℕ) → Knows text over last inner os ns → length ns ≡ records (scopes_of os)
  counted [] ns last inner x = ap length x
  counted (o ∷ os) ns last inner x =
      ap length x.parts ∙ omega (
        arith,
        length-append x.top (x.own ++ x.outer),
        length-append x.own x.outer,
        waiting_length o.scope.first o.scope.waiting x.top x.waiting,
        recorded_length o.scope.first o.begins last inner o.scope.known x.own x.known,
        counted os x.outer (some o.scope.which) o.scope.first x.below,
      )

  -- the records below those that wait
  pub settled_length : (o : Level) (os : List Level) (ns : List Name) (last : Option ℕ) (inner : ℕ) (x : Knows text over last inner (o ∷ os) ns) → length (x.own ++ x.outer) ≡ length o.scope.known + records (scopes_of os)
  settled_length o os ns last inner x =
      omega (
        arith,
        length-append x.own x.outer,
        recorded_length o.scope.first o.begins last inner o.scope.known x.own x.known,
        counted os x.outer (some o.scope.which) o.scope.first x.below,
      )

-- ── which are the newest ────────────────────────────────────────────────────────────────────

module _ (xs new old : List Name) (n : ℕ) (e : reverse xs ≡ new ++ old) (m : n ≡ length old) where
  turned : xs ≡ reverse old ++ reverse new
  turned = sym (reverse-reverse xs) ∙ ap reverse e ∙ reverse-append new old

  pub newer_part : reverse (drop n xs) ≡ new
  newer_part =
      ap (λ ys. reverse (drop n ys)) turned ∙ ap (λ k. reverse (drop k (reverse old ++ reverse new))) (m ∙ sym (length-reverse old))
      ∙ ap reverse (drop-append-le (length (reverse old)) (reverse old) (reverse new) (omega arith) ∙ ap (λ ys. ys ++ reverse new) (drop-length (reverse old))) ∙ reverse-reverse new

  pub older_part : reverse (take n xs) ≡ old
  older_part =
      ap (λ ys. reverse (take n ys)) turned ∙ ap (λ k. reverse (take k (reverse old ++ reverse new))) (m ∙ sym (length-reverse old))
      ∙ ap reverse (take-append-le (length (reverse old)) (reverse old) (reverse new) (omega arith) ∙ take_all (length (reverse old)) (reverse old) (omega arith)) ∙ reverse-reverse old

-- ── whether a name is there ─────────────────────────────────────────────────────────────────

module _ (text s : List ℕ) (over : Bool) where
  waits_first : (first : ℕ) (ws : List (List ℕ × ℕ)) (top own : List Name) → Waiting text first ws top → is_some (newest text s (top ++ own)) ≡ waits s ws || is_some (newest text s own)
  waits_first first [] [] own x = refl
  waits_first first [] (n ∷ top) own x = absurd x
  waits_first first (w ∷ ws) [] own x = absurd x
  waits_first first (w ∷ ws) (n ∷ top) own x =
      let e : same s w.0 ≡ same s (spelling text n) = ap (same s) x.0 in
      ⊎_elim
      (λ y. let g : same s w.0 ≡ true = y in let z : same s (spelling text n) ≡ true = sym e ∙ g in rw (z, g, newest, waits) refl)
      (λ y. let g : same s w.0 ≡ false = y in let z : same s (spelling text n) ≡ false = sym e ∙ g in rw (z, g, newest, waits) (waits_first first ws top own x.2))
      (cases_Bool (same s w.0))

  found_present : (first : ℕ) (begins : List ℕ) (last : Option ℕ) (inner : ℕ) (own : List Name) (d : Option Kind) → Finds text s over first begins last inner [] own d → is_some (newest text s (own ++ [])) ≡ present d
  found_present first begins last inner own none f = ap is_some f
  found_present first begins last inner own (some d) f = ap is_some f.1

  pub has_already : (o : Level) (around : List Name → Type 0) (ns : List Name) (last : Option ℕ) (inner : ℕ) (x : Block text over last inner o around ns) → is_some (newest text s (x.top ++ x.own)) ≡ declared_here s o.scope
  has_already o around ns last inner x =
      let f = finds text s over o.scope.first o.begins last inner [] o.scope.known x.own x.known in
      let g : is_some (newest text s x.own) ≡ present (spelled_so s o.scope.known)
      = ap (λ ys. is_some (newest text s ys)) (sym (append-nil x.own)) ∙ found_present o.scope.first o.begins last inner x.own (spelled_so s o.scope.known) f in
      waits_first o.scope.first o.scope.waiting x.top x.own x.waiting ∙ ap (λ b. waits s o.scope.waiting || b) g
      ∙ or_comm (waits s o.scope.waiting) (present (spelled_so s o.scope.known))

-- ── what the judge says of a new name ───────────────────────────────────────────────────────

module _ (text s : List ℕ) (over : Bool) (room cell : ℕ) (o : Level) (os : List Level) (xs : List Name) (level : ℕ) (x : Knows text over none 0 (o ∷ os) (reverse xs)) (e : level ≡ records (scopes_of os)) (j : Judged) where
  own_names : reverse (drop level xs) ≡ x.top ++ x.own
  own_names =
      newer_part xs (x.top ++ x.own) x.outer level (x.parts ∙ sym (append_assoc x.top x.own x.outer)) (e ∙ sym (counted text over os x.outer (some o.scope.which) o.scope.first x.below))

  here : (b : Bool) → b ≡ is_some (newest text s (reverse (drop level xs))) → declared_here s o.scope ≡ b
  here b h = sym (h ∙ ap (λ ys. is_some (newest text s ys)) own_names ∙ has_already text s over o _ (reverse xs) none 0 x)

  fill : records (o.scope ∷ scopes_of os) ≡ length xs
  fill = sym (counted text over (o ∷ os) (reverse xs) none 0 x) ∙ length-reverse xs

  pub twice : true ≡ is_some (newest text s (reverse (drop level xs))) → declares room (scopes_of os) o.scope s cell j ≡ refuses (Causes.Meaning Twice)
  twice h = let g : declared_here s o.scope ≡ true = here true h in rw (g, declares) refl

  module _ (h : false ≡ is_some (newest text s (reverse (drop level xs)))) where
    pub full : room ≤ length xs → declares room (scopes_of os) o.scope s cell j ≡ refuses (Causes.Room NamesFull)
    full n =
        let g : declared_here s o.scope ≡ false = here false h in
        let f : ltb (records (o.scope ∷ scopes_of os)) room ≡ false = le-ltb _ _ (omega (arith, fill)) in
        rw (g, declares) (rw f refl)

    module _ (n : length xs < room) where
      fits : ltb (records (o.scope ∷ scopes_of os)) room ≡ true
      fits = lt-ltb _ _ (omega (arith, fill))

      pub many : 4096 < cell → declares room (scopes_of os) o.scope s cell j ≡ refuses (Causes.Room ManyCells)
      many c =
          let g : declared_here s o.scope ≡ false = here false h in
          let f : leb cell 4096 ≡ false = lt-leb _ _ c in
          rw (g, declares) (rw fits (rw f refl))

      pub admitted : cell ≤ 4096 → declares room (scopes_of os) o.scope s cell j ≡ j
      admitted c =
          let g : declared_here s o.scope ≡ false = here false h in
          let f : leb cell 4096 ≡ true = le-leb _ _ c in
          rw (g, declares) (rw fits (rw f refl))
