-- Records laid, given their type and cut back stand for what the judge's declarations make of the open blocks.
use Rattle.std.proofs.Common.{◌≡◌, ℕ, suc, ◌+◌, ◌<◌, ◌≤◌, Bool, true, false, List, [], ◌∷◌, ◌++◌, map, length, take, drop, sym, refl, ap, ◌∙◌, subst, true≢false, append_assoc, arith, length-append, eq-eqb, ne_eqb}
use mathlib.Core.Option.{Option, none, some}
use Rattle.std.proofs.lemmas.List.{get_or_append_left, get_or_push}
use Rattle.scopes.specs.declared.names.Name.{Name}
use Rattle.model.specs.declared.names.NameKind.TheVariants.{Procedure, Function}
use Rattle.model.specs.declared.script.Ty.{Ty}
use Rattle.model.specs.Tree
use Rattle.model.specs.Names.{Kind, a_variable, a_procedure, a_function, Known, routine_number, alike_numbers}
use Rattle.model.specs.Blocks.{all_known, program_opened}
use Rattle.scopes.specs.declared.Scopes.{Scopes}
use Rattle.scopes.specs.Records.{text_of, records_of, room_of, spelling, with_type, left}
use Rattle.scopes.specs.Levels.{Level, waited, grouped, named, entered, ended, StandsFor, Recorded, Waiting, Below, Knows, Holds, Keeps, SpelledAt, RoomLeft}
use Rattle.scopes.proofs.Counting.{counted}
use Rattle.scopes.proofs.Seeing.{none_wait}

-- the same records, by equal lists
pub carried : (text text' : List ℕ) (over : Bool) (last : Option ℕ) (inner : ℕ) (os : List Level) (ns ns' : List Name) → text' ≡ text → ns' ≡ ns → Knows text over last inner os ns → Knows text' over last inner os ns'
carried text text' over last inner os ns ns' e f x =
    subst (λ t. Knows t over last inner os ns') (sym e) (subst (λ m. Knows text over last inner os m) (sym f) x)

-- a record more, where there was one left
pub one_more : (s t : Scopes) (n : Name) (over : Bool) (o : Level) (os os' : List Level) → Holds s over (o ∷ os) → RoomLeft s (o ∷ os) →
    (length (records_of s) < room_of s → records_of t ≡ n ∷ records_of s) → Keeps s t → Knows (text_of s) over none 0 os' (n ∷ records_of s) → Holds t over os'
one_more s t n over o os os' x room lays keeps k =
    carried (text_of s) (text_of t) over none 0 os' (n ∷ records_of s) (records_of t) keeps.0 (lays (omega (arith, counted (text_of s) over (o ∷ os) (records_of s) none 0 x))) k

-- how a record is spelled that is laid for a name at its place
pub as_spelled : (text n : List ℕ) (p l : ℕ) → SpelledAt text n p → (length n ≤ 30 → l ≡ length n) → n ≡ take l (drop p text)
as_spelled text n p l s e = s.0 ∙ ap (λ k. take k (drop p text)) (sym (e s.1))

module _ (text : List ℕ) (over : Bool) where
  -- ── a variable that waits ─────────────────────────────────────────────────────────────────

  pub one_waits : (o : Level) (os : List Level) (ns : List Name) (s : List ℕ) (n : Name) → Knows text over none 0 (o ∷ os) ns → s ≡ spelling text n → n.cell ≡ o.scope.first + o.scope.cells → Knows text over none 0 (waited o s ∷ os) (n ∷ ns)
  one_waits o os ns s n x e c =
      record {
        top = n ∷ x.top;
        own = x.own;
        outer = x.outer;
        parts = ap (λ m. n ∷ m) x.parts;
        waiting = (e, c, x.waiting);
        known = x.known;
        numbered = x.numbered;
        begun = x.begun;
        below = x.below;
      }

  -- ── variables that get their type ─────────────────────────────────────────────────────────

  module _ (y : Ty) (first : ℕ) (begins : List ℕ) (last : Option ℕ) (inner : ℕ) where
    typed_records : (ws : List (List ℕ × ℕ)) (ks : List Known) (top own : List Name) → Waiting text first ws top → Recorded text over first begins last inner ks own → Recorded text over first begins last inner (all_known y ws ks) (map (with_type y) top ++ own)
    typed_records [] ks [] own w x = x
    typed_records [] ks (n ∷ top) own w x = absurd w
    typed_records (v ∷ ws) ks [] own w x = absurd w
    typed_records (v ∷ ws) ks (n ∷ top) own w x = (w.0, (refl, w.1), typed_records ws ks top own w.2 x)

  below_typed : (y : Ty) (c : ℕ) (ws : List (List ℕ × ℕ)) (ks : List Known) → Below c ks → Below c (all_known y ws ks)
  below_typed y c [] ks x = x
  below_typed y c (w ∷ ws) ks x = (λ v e. let z : ◌≡◌ {A = ℕ} 0 1 = cc in omega arith, below_typed y c ws ks x)

  pub group_typed : (y : Ty) (o : Level) (os : List Level) (ns : List Name) (x : Knows text over none 0 (o ∷ os) ns) → Knows text over none 0 (grouped o y ∷ os) (map (with_type y) x.top ++ (x.own ++ x.outer))
  group_typed y o os ns x =
      record {
        top = [];
        own = map (with_type y) x.top ++ x.own;
        outer = x.outer;
        parts = sym (append_assoc (map (with_type y) x.top) x.own x.outer);
        waiting = tt;
        known = typed_records y o.scope.first o.begins none 0 o.scope.waiting o.scope.known x.top x.own x.waiting x.known;
        numbered = below_typed y o.scope.count o.scope.waiting o.scope.known x.numbered;
        begun = x.begun;
        below = x.below;
      }

  -- ── a routine that opens ──────────────────────────────────────────────────────────────────

  apart : (w v : ℕ) → v < w → alike_numbers (some w) (some v) ≡ false
  apart w v h = ne_eqb w v (λ e. absurd (omega arith))

  alone : (w : ℕ) → alike_numbers (some w) (some w) ≡ true
  alone w = eq-eqb w w refl

  -- the other names are still what they were, seen from inside the routine
  module _ (first : ℕ) (begins : List ℕ) (w e inner : ℕ) (l : length begins ≡ w) where
    still : (n : Name) (d : Kind) → ((v : ℕ) → routine_number d ≡ some v → v < w) → StandsFor over first begins none 0 n d → StandsFor over first (begins ++ (e ∷ [])) (some w) inner n d
    still n (a_variable y i) b x = x
    still n (a_procedure v) b x = (x.0, λ f. x.1 f ∙ sym (get_or_append_left begins (e ∷ []) 0 v (omega (arith, b v refl))))
    still n (a_function y v) b x =
        (x.0, λ f. x.1 f ∙ sym (get_or_append_left begins (e ∷ []) 0 v (omega (arith, b v refl))), x.2 ∙ sym (apart w v (b v refl)), λ t. absurd (true≢false (sym t ∙ x.2)))

    all_still : (ks : List Known) (ns : List Name) → Below w ks → Recorded text over first begins none 0 ks ns → Recorded text over first (begins ++ (e ∷ [])) (some w) inner ks ns
    all_still [] [] b x = tt
    all_still [] (n ∷ ns) b x = absurd x
    all_still (k ∷ ks) [] b x = absurd x
    all_still (k ∷ ks) (n ∷ ns) b x = (x.0, still n k.kind b.0 x.1, all_still ks ns b.1 x.2)

  pub routine_opens : (o : Level) (os : List Level) (ns : List Name) (s : List ℕ) (n : Name) (d : Kind) (p : ℕ) (r : Tree.Role) (c e : ℕ) →
      Knows text over none 0 (o ∷ os) ns → s ≡ spelling text n → o.scope.waiting ≡ [] → routine_number d ≡ some o.scope.count →
      StandsFor over o.scope.first (o.begins ++ (e ∷ [])) (some o.scope.count) (o.scope.first + o.scope.cells) n d →
      Knows text over none 0 (entered o p r c ∷ named o s d e ∷ os) (n ∷ ns)
  routine_opens o os ns s n d p r c e x sp calm num st =
      let empty = none_wait text s over o.scope.first o.scope.waiting x.top calm x.waiting in
      record {
        top = [];
        own = [];
        outer = n ∷ ns;
        parts = refl;
        waiting = tt;
        known = tt;
        numbered = tt;
        begun = refl;
        below = record {
          top = x.top;
          own = n ∷ x.own;
          outer = x.outer;
          parts = ap (λ m. n ∷ m) x.parts ∙ ap (λ t. n ∷ (t ++ (x.own ++ x.outer))) empty ∙ ap (λ t. t ++ ((n ∷ x.own) ++ x.outer)) (sym empty);
          waiting = x.waiting;
          known = (sp, st, all_still o.scope.first o.begins o.scope.count e (o.scope.first + o.scope.cells) x.begun o.scope.known x.own x.numbered x.known);
          numbered = (record { named = record { spelling = s; kind = d }; others = o.scope.known; names = refl; number = num; lower = x.numbered; count = refl }, calm);
          begun = length-append o.begins (e ∷ []) ∙ omega (arith, x.begun);
          below = x.below;
        };
      }

  -- the record of the routine itself
  pub procedure_stands : (n : Name) (first w e inner : ℕ) (begins : List ℕ) → length begins ≡ w → n.kind ≡ Procedure → (over ≡ false → n.entry ≡ e) → StandsFor over first (begins ++ (e ∷ [])) (some w) inner n (a_procedure w)
  procedure_stands n first w e inner begins l k h = (k, λ f. h f ∙ sym (get_or_push begins e 0 w l))

  pub function_stands : (n : Name) (y : Ty) (first w e inner : ℕ) (begins : List ℕ) → length begins ≡ w → n.kind ≡ Function y → (over ≡ false → n.entry ≡ e) → n.inside ≡ true → n.cell ≡ inner → StandsFor over first (begins ++ (e ∷ [])) (some w) inner n (a_function y w)
  function_stands n y first w e inner begins l k h i c = (k, λ f. h f ∙ sym (get_or_push begins e 0 w l), i ∙ sym (alone w), λ _. c)

  -- ── a routine that is closed ──────────────────────────────────────────────────────────────

  module _ (first : ℕ) (begins : List ℕ) (w inner : ℕ) where
    again : (n : Name) (d : Kind) → ((v : ℕ) → routine_number d ≡ some v → v < w) → StandsFor over first begins (some w) inner n d → StandsFor over first begins none 0 n d
    again n (a_variable y i) b x = x
    again n (a_procedure v) b x = x
    again n (a_function y v) b x = let f : n.inside ≡ false = x.2 ∙ apart w v (b v refl) in (x.0, x.1, f, λ t. absurd (true≢false (sym t ∙ f)))

    all_again : (ks : List Known) (ns : List Name) → Below w ks → Recorded text over first begins (some w) inner ks ns → Recorded text over first begins none 0 ks ns
    all_again [] [] b x = tt
    all_again [] (n ∷ ns) b x = absurd x
    all_again (k ∷ ks) [] b x = absurd x
    all_again (k ∷ ks) (n ∷ ns) b x = (x.0, again n k.kind b.0 x.1, all_again ks ns b.1 x.2)

    closed_one : (n : Name) (d : Kind) → StandsFor over first begins (some w) inner n d → StandsFor over first begins none 0 (left n) d
    closed_one n (a_variable y i) x = x
    closed_one n (a_procedure v) x = x
    closed_one n (a_function y v) x = (x.0, x.1, refl, λ t. absurd (true≢false (sym t)))

    -- a routine in front: its record is there, and is left
    pub record Fronted (k : Known) (ks : List Known) (own : List Name) : Type 0 where
      pub head : Name
      pub tail : List Name
      pub whole : own ≡ head ∷ tail
      pub now : Recorded text over first begins none 0 (k ∷ ks) (left head ∷ tail)

    fronted : (k : Known) (ks : List Known) (own : List Name) → Below w ks → Recorded text over first begins (some w) inner (k ∷ ks) own → Fronted k ks own
    fronted k ks [] b x = absurd x
    fronted k ks (n ∷ ns) b x = record { head = n; tail = ns; whole = refl; now = (x.0, closed_one n k.kind x.1, all_again ks ns b x.2) }

  below_next : (k : Known) (ks : List Known) (w : ℕ) → routine_number k.kind ≡ some w → Below w ks → Below (suc w) (k ∷ ks)
  below_next k ks w e b = (λ v f. let g : some w ≡ some v = sym e ∙ f in let h : w ≡ v = cc in omega arith, wider ks b)
    where
      wider : (ls : List Known) → Below w ls → Below (suc w) ls
      wider [] c = tt
      wider (l ∷ ls) c = (λ v f. omega (arith, c.0 v f), wider ls c.1)

  -- what is left once the block's names are cut back, and its routine's record left
  pub record Left (o : Level) (os : List Level) (b : Tree.Block) (outer : List Name) : Type 0 where
    pub head : Name
    pub tail : List Name
    pub whole : outer ≡ head ∷ tail
    pub knows : Knows text over none 0 (ended o b ∷ os) (left head ∷ tail)

  pub routine_closes : (o : Level) (os : List Level) (b : Tree.Block) (outer : List Name) (w inner : ℕ) → Knows text over (some w) inner (o ∷ os) outer → Left o os b outer
  routine_closes o os b outer w inner x =
      let nw = x.numbered.0 in
      let empty = none_wait text [] over o.scope.first o.scope.waiting x.top x.numbered.1 x.waiting in
      let f = fronted o.scope.first o.begins w inner nw.named nw.others x.own nw.lower (subst (λ ks. Recorded text over o.scope.first o.begins (some w) inner ks x.own) nw.names x.known) in
      record {
        head = f.head;
        tail = f.tail ++ x.outer;
        whole = x.parts ∙ ap (λ t. t ++ (x.own ++ x.outer)) empty ∙ ap (λ t. t ++ x.outer) f.whole;
        knows = record {
          top = x.top;
          own = left f.head ∷ f.tail;
          outer = x.outer;
          parts = ap (λ t. t ++ ((left f.head ∷ f.tail) ++ x.outer)) (sym empty);
          waiting = x.waiting;
          known = subst (λ ks. Recorded text over o.scope.first o.begins none 0 ks (left f.head ∷ f.tail)) (sym nw.names) f.now;
          numbered = subst (λ ks. Below o.scope.count ks) (sym nw.names) (subst (λ c. Below c (nw.named ∷ nw.others)) (sym nw.count) (below_next nw.named nw.others w nw.number nw.lower));
          begun = x.begun;
          below = x.below;
        };
      }

-- ── a table that turns out too short ────────────────────────────────────────────────────────

-- where fewer entries are sure, the records still stand for the names
module _ (text : List ℕ) (over over' : Bool) (h : over' ≡ false → over ≡ false) where
  less_sure_one : (first : ℕ) (begins : List ℕ) (last : Option ℕ) (inner : ℕ) (n : Name) (d : Kind) → StandsFor over first begins last inner n d → StandsFor over' first begins last inner n d
  less_sure_one first begins last inner n (a_variable y i) x = x
  less_sure_one first begins last inner n (a_procedure w) x = (x.0, λ f. x.1 (h f))
  less_sure_one first begins last inner n (a_function y w) x = (x.0, λ f. x.1 (h f), x.2, x.3)

  less_sure_own : (first : ℕ) (begins : List ℕ) (last : Option ℕ) (inner : ℕ) (ks : List Known) (ns : List Name) → Recorded text over first begins last inner ks ns → Recorded text over' first begins last inner ks ns
  less_sure_own first begins last inner [] [] x = tt
  less_sure_own first begins last inner [] (n ∷ ns) x = absurd x
  less_sure_own first begins last inner (k ∷ ks) [] x = absurd x
  less_sure_own first begins last inner (k ∷ ks) (n ∷ ns) x =
      (x.0, less_sure_one first begins last inner n k.kind x.1, less_sure_own first begins last inner ks ns x.2)

  pub less_sure : (os : List Level) (ns : List Name) (last : Option ℕ) (inner : ℕ) → Knows text over last inner os ns → Knows text over' last inner os ns
  less_sure [] ns last inner x = x
  less_sure (o ∷ os) ns last inner x =
      record {
        top = x.top;
        own = x.own;
        outer = x.outer;
        parts = x.parts;
        waiting = x.waiting;
        known = less_sure_own o.scope.first o.begins last inner o.scope.known x.own x.known;
        numbered = x.numbered;
        begun = x.begun;
        below = less_sure os x.outer (some o.scope.which) o.scope.first x.below;
      }

-- ── the program ─────────────────────────────────────────────────────────────────────────────

-- the program's block has no names at first
pub program_begins : (text : List ℕ) (over : Bool) (p : ℕ) → Knows text over none 0 (record { scope = program_opened p; begins = [] } ∷ []) []
program_begins text over p =
    record { top = []; own = []; outer = []; parts = refl; waiting = tt; known = tt; numbered = tt; begun = refl; below = refl }
