-- The open blocks of the judge declare what its names find, and stay so through every declaration.
use mathlib.Core.Path.{◌≡◌, refl, sym, ◌∙◌, ap, subst}
use mathlib.Core.Bool.{true≢false, Bool, true, false}
use mathlib.Core.List.{List, [], ◌∷◌, ◌++◌, append-nil, append_assoc}
use mathlib.Core.Option.{Option, some, none}
use Prim.Native.Nat.{ℕ, suc, pred, ◌+◌, ◌≤◌, ◌<◌}
use native.Mathlib.Nat.{add-zero, zero-add}
use native.Mathlib.Omega.{arith}
use lib.Dec.{T, eqb→eq}
use lib.ListN.{length, get_or, length-append, get_or-append}
use lib.Seq.{get_or_at}
use Rattle.model.specs.declared.script.Ty.{Ty}
use Rattle.model.specs.Tree.{Cmd, Role, Block, Routines, no_more, routine}
use Rattle.model.specs.Reading.{same}
use Rattle.model.specs.Names.{Kind, a_variable, a_procedure, a_function, Known, Scope, Seen, spelled_so, routine_number, alike_numbers, seen_from, visible}
use Rattle.model.specs.Blocks.{wait, all_known, typed, with_routine_name, opened, closed, with_routine, add_routine}
use Rattle.faithful.proofs.Scoped.Trees.{is_function_block, is_function, ResultHasCell, Declared, declared, VariableKnown, RoutineKnown, FunctionKnown, CmdScoped, BlockScoped, RoutinesScoped, function_flags}

-- ── what the open blocks declare ────────────────────────────────────────────────────────────

-- x are the flags of the routine that is open in the first block: none, or its one
abbrev pub declared_by : List Bool → List Scope → List Declared
declared_by x [] = []
declared_by x (s ∷ cs) =
    declared s.cells (function_flags s.routines ++ x) ∷ declared_by (is_function s.role ∷ []) cs

-- what a name stands for is there
abbrev pub KindKnown : Declared → Kind → Type 0
KindKnown o (a_variable y i) = i < o.cells
KindKnown o (a_procedure w) = w < length o.kinds
KindKnown o (a_function y w) = (w < length o.kinds) × (get_or o.kinds w false ≡ true)

abbrev pub AllKnown : Declared → List Known → Type 0
AllKnown o [] = Unit {0}
AllKnown o (k ∷ ks) = KindKnown o k.kind × AllKnown o ks

-- the cells of names that wait for their type are there
abbrev pub WaitingKnown : ℕ → List (List ℕ × ℕ) → Type 0
WaitingKnown n [] = Unit {0}
WaitingKnown n (w ∷ ws) = (w.1 < n) × WaitingKnown n ws

-- an open routine's number is that of the next routine of the block around it
abbrev pub WhichCounted : Scope → List Scope → Type 0
WhichCounted s [] = Unit {0}
WhichCounted s (u ∷ cs) = s.which ≡ length (function_flags u.routines)

-- an open block inside the blocks cs
pub record ScopeSound (x : List Bool) (s : Scope) (cs : List Scope) : Type 0 where
  pub result_cell : ResultHasCell s.role s.cells
  pub routines_scoped : RoutinesScoped (declared_by (is_function s.role ∷ []) cs) s.cells [] s.routines
  pub count_right : s.count ≡ length (function_flags s.routines ++ x)
  pub names_known : AllKnown (declared s.cells (function_flags s.routines ++ x)) s.known
  pub waiting_known : WaitingKnown s.cells s.waiting
  pub which_right : WhichCounted s cs

abbrev pub ScopesSound : List Bool → List Scope → Type 0
ScopesSound x [] = Unit {0}
ScopesSound x (s ∷ cs) = ScopeSound x s cs × ScopesSound (is_function s.role ∷ []) cs

-- ── names ───────────────────────────────────────────────────────────────────────────────────

-- what a name stands for is there, h blocks up
abbrev pub KindSeen : List Declared → ℕ → Kind → Type 0
KindSeen Δ h (a_variable y i) = VariableKnown Δ h i
KindSeen Δ h (a_procedure w) = RoutineKnown Δ h w
KindSeen Δ h (a_function y w) = RoutineKnown Δ h w × FunctionKnown Δ h w

-- inside a function, its name can be set: the block below its declaration has a cell for the result
abbrev pub Inside : List Declared → ℕ → Kind → Bool → Type 0
Inside Δ h (a_variable y i) b = Unit {0}
Inside Δ h (a_procedure w) b = Unit {0}
Inside Δ h (a_function y w) b = b ≡ true → VariableKnown Δ (pred h) 0

abbrev pub SeenKnown : List Declared → Option Seen → Type 0
SeenKnown Δ none = Unit {0}
SeenKnown Δ (some d) = KindSeen Δ d.hops d.kind × Inside Δ d.hops d.kind d.inside

abbrev SomeKindKnown : Declared → Option Kind → Type 0
SomeKindKnown o none = Unit {0}
SomeKindKnown o (some d) = KindKnown o d

spelled_known : (o : Declared) (s : List ℕ) (ks : List Known) → AllKnown o ks → SomeKindKnown o (spelled_so s ks)
spelled_known o s [] h = tt
spelled_known o s (k ∷ ks) h = at (same s k.spelling) (spelled_known o s ks h.1)
  where
    at : (b : Bool) → SomeKindKnown o (spelled_so s ks) →
        SomeKindKnown o (elim b [ true ↦ some k.kind | false ↦ spelled_so s ks ])
    at true r = h.0
    at false r = r

-- what is declared in Δ1 is declared in Δ, h blocks further up
record FurtherUp (Δ1 Δ : List Declared) (h : ℕ) : Type 0 where
  pub variables : (k i : ℕ) → VariableKnown Δ1 k i → VariableKnown Δ (h + k) i
  pub routines : (k i : ℕ) → RoutineKnown Δ1 k i → RoutineKnown Δ (h + k) i
  pub functions : (k i : ℕ) → FunctionKnown Δ1 k i → FunctionKnown Δ (h + k) i

further_up_next : (o : Declared) (Δ1 Δ : List Declared) (h : ℕ) → FurtherUp (o ∷ Δ1) Δ h → FurtherUp Δ1 Δ (suc h)
further_up_next o Δ1 Δ h s =
    record {
      variables =
          λ k i x. let e : h + suc k ≡ suc h + k = omega arith in
          subst (λ z. VariableKnown Δ z i) e (s.variables (suc k) i x);
      routines =
          λ k i x. let e : h + suc k ≡ suc h + k = omega arith in
          subst (λ z. RoutineKnown Δ z i) e (s.routines (suc k) i x);
      functions =
          λ k i x. let e : h + suc k ≡ suc h + k = omega arith in
          subst (λ z. FunctionKnown Δ z i) e (s.functions (suc k) i x);
    }

-- the routine that was left for the block is a function, and has its result's cell
abbrev LastKnown : List Declared → ℕ → List Bool → Option ℕ → List Scope → Type 0
LastKnown Δ h x none cs = Unit {0}
LastKnown Δ h x (some w) [] = Unit {0}
LastKnown Δ h x (some w) (c ∷ cs) =
    get_or (function_flags c.routines ++ x) w false ≡ true → VariableKnown Δ (pred h) 0

last_known : (Δ : List Declared) (h : ℕ) (x : List Bool) (c : Scope) (cs : List Scope) →
    FurtherUp (declared_by x (c ∷ cs)) Δ h → ScopeSound x c cs →
    LastKnown Δ (suc h) (is_function c.role ∷ []) (some c.which) cs
last_known Δ h x c [] s sc = tt
last_known Δ h x c (u ∷ us) s sc = λ e.
    let flags : List Bool = function_flags u.routines in
    let own : Bool = is_function c.role in
    let g : get_or (flags ++ own ∷ []) c.which false ≡ own = get_or_at flags own [] false c.which
    (sym sc.which_right) in
    let f : own ≡ true = sym g ∙ e in
    subst (λ z. VariableKnown Δ z 0) (add-zero h) (s.variables 0 0 (sc.result_cell f))

module _ (str : List ℕ) (Δ : List Declared) where
  found : (h : ℕ) (x : List Bool) (last : Option ℕ) (c : Scope) (cs : List Scope) (d : Kind) →
      FurtherUp (declared_by x (c ∷ cs)) Δ h → LastKnown Δ h x last (c ∷ cs) →
      KindKnown (declared c.cells (function_flags c.routines ++ x)) d →
      SeenKnown Δ (some (record { kind = d; hops = h; inside = alike_numbers last (routine_number d) }))
  found h x last c cs (a_variable y i) s l k = (subst (λ z. VariableKnown Δ z i) (add-zero h) (s.variables 0 i k), tt)
  found h x last c cs (a_procedure w) s l k = (subst (λ z. RoutineKnown Δ z w) (add-zero h) (s.routines 0 w k), tt)
  found h x last c cs (a_function y w) s l k = (
    (
      subst (λ z. RoutineKnown Δ z w) (add-zero h) (s.routines 0 w k.0),
      subst (λ z. FunctionKnown Δ z w) (add-zero h) (s.functions 0 w k.1),
    ),
    in_it last l,
  )
    where
      in_it : (last : Option ℕ) → LastKnown Δ h x last (c ∷ cs) → alike_numbers last (some w) ≡ true →
          VariableKnown Δ (pred h) 0
      in_it none l e = absurd (true≢false cc)
      in_it (some v) l e =
          l (ap (λ z. get_or (function_flags c.routines ++ x) z false) (eqb→eq v w (subst T (sym e) tt)) ∙ k.1)

  seen_known : (cs : List Scope) (h : ℕ) (x : List Bool) (last : Option ℕ) → FurtherUp (declared_by x cs) Δ h →
      ScopesSound x cs → LastKnown Δ h x last cs → SeenKnown Δ (seen_from str h last cs)
  seen_known [] h x last s sc l = tt
  seen_known (c ∷ cs) h x last s sc l =
      at (spelled_so str c.known) (spelled_known (declared c.cells (function_flags c.routines ++ x)) str
      c.known sc.0.names_known)
      (seen_known cs (suc h) (is_function c.role ∷ []) (some c.which)
      (further_up_next (declared c.cells (function_flags c.routines ++ x))
      (declared_by (is_function c.role ∷ []) cs) Δ h s) sc.1 (last_known Δ h x c cs s sc.0))
    where
      at : (o : Option Kind) → SomeKindKnown (declared c.cells (function_flags c.routines ++ x)) o →
          SeenKnown Δ (seen_from str (suc h) (some c.which) cs) →
          SeenKnown Δ (elim o [
            | none ↦ seen_from str (suc h) (some c.which) cs
            | some d ↦ some (record { kind = d; hops = h; inside = alike_numbers last (routine_number d) })
          ])
      at none o r = r
      at (some d) o r = found h x last c cs d s l o

pub visible_known : (str : List ℕ) (cs : List Scope) → ScopesSound [] cs →
    SeenKnown (declared_by [] cs) (visible str cs)
visible_known str cs sc =
    seen_known str (declared_by [] cs) cs 0 [] none
    (record {
      variables = λ k i x. subst (λ z. VariableKnown (declared_by [] cs) z i) (sym (zero-add k)) x;
      routines = λ k i x. subst (λ z. RoutineKnown (declared_by [] cs) z i) (sym (zero-add k)) x;
      functions = λ k i x. subst (λ z. FunctionKnown (declared_by [] cs) z i) (sym (zero-add k)) x;
    }) sc tt

-- ── declarations ────────────────────────────────────────────────────────────────────────────

-- what is known stays known where more is declared
kind_more : (o1 o2 : Declared) (d : Kind) → o1.cells ≤ o2.cells → length o1.kinds ≤ length o2.kinds →
    ((w : ℕ) → w < length o1.kinds → get_or o2.kinds w false ≡ get_or o1.kinds w false) → KindKnown o1 d →
    KindKnown o2 d
kind_more o1 o2 (a_variable y i) l1 l2 e k = omega arith
kind_more o1 o2 (a_procedure w) l1 l2 e k = omega arith
kind_more o1 o2 (a_function y w) l1 l2 e k = let z = k.0 in (omega arith, e w z ∙ k.1)

known_more : (o1 o2 : Declared) (ks : List Known) → o1.cells ≤ o2.cells → length o1.kinds ≤ length o2.kinds →
    ((w : ℕ) → w < length o1.kinds → get_or o2.kinds w false ≡ get_or o1.kinds w false) → AllKnown o1 ks →
    AllKnown o2 ks
known_more o1 o2 [] l1 l2 e k = tt
known_more o1 o2 (d ∷ ks) l1 l2 e k = (kind_more o1 o2 d.kind l1 l2 e k.0, known_more o1 o2 ks l1 l2 e k.1)

wait_more : (n m : ℕ) (ws : List (List ℕ × ℕ)) → n ≤ m → WaitingKnown n ws → WaitingKnown m ws
wait_more n m [] le h = tt
wait_more n m (w ∷ ws) le h = (let z = h.0 in omega arith, wait_more n m ws le h.1)

pub wait_sound : (s : Scope) (cs : List Scope) (n : List ℕ) → s.routines ≡ no_more → ScopesSound [] (s ∷ cs) →
    ScopesSound [] (wait s n ∷ cs)
wait_sound s cs n e sc =
    let o = sc.0 in (
      record {
        result_cell = λ f. omega arith;
        routines_scoped =
            subst (λ rs. RoutinesScoped (declared_by (is_function s.role ∷ []) cs) (suc s.cells) [] rs)
            (sym e) tt;
        count_right = o.count_right;
        names_known =
            known_more (declared s.cells (function_flags s.routines ++ []))
            (declared (suc s.cells) (function_flags s.routines ++ [])) s.known (omega arith) (omega arith)
            (λ w l. refl) o.names_known;
        waiting_known =
            (omega arith, wait_more s.cells (suc s.cells) s.waiting (omega arith) o.waiting_known);
        which_right = o.which_right;
      },
      sc.1,
    )

known_typed : (o : Declared) (y : Ty) (ws : List (List ℕ × ℕ)) (ks : List Known) → WaitingKnown o.cells ws →
    AllKnown o ks → AllKnown o (all_known y ws ks)
known_typed o y [] ks h k = k
known_typed o y (w ∷ ws) ks h k = (h.0, known_typed o y ws ks h.1 k)

pub typed_sound : (s : Scope) (cs : List Scope) (y : Ty) → ScopesSound [] (s ∷ cs) → ScopesSound [] (typed s y ∷ cs)
typed_sound s cs y sc =
    let o = sc.0 in (
      record {
        result_cell = o.result_cell;
        routines_scoped = o.routines_scoped;
        count_right = o.count_right;
        names_known =
            known_typed (declared s.cells (function_flags s.routines ++ [])) y s.waiting s.known
            o.waiting_known o.names_known;
        waiting_known = tt;
        which_right = o.which_right;
      },
      sc.1,
    )

which_named : (s : Scope) (cs : List Scope) (n : List ℕ) (k : Kind) → WhichCounted s cs →
    WhichCounted (with_routine_name s n k) cs
which_named s [] n k w = tt
which_named s (u ∷ cs) n k w = w

-- a routine's block opens
pub opened_sound : (s : Scope) (cs : List Scope) (p : ℕ) (r : Role) (c : ℕ) (n : List ℕ) (k : Kind) →
    ResultHasCell r c → KindKnown (declared s.cells (function_flags s.routines ++ is_function r ∷ [])) k →
    ScopesSound [] (s ∷ cs) →
    ScopesSound [] (opened s p r c ∷ with_routine_name s n k ∷ cs)
opened_sound s cs p r c n k okn kok sc =
    let o = sc.0 in
    let fs : List Bool = function_flags s.routines in
    let l0 : length (fs ++ []) ≡ length fs = ap length (append-nil fs) in
    let l1 = length-append fs (is_function r ∷ []) in (
      record {
        result_cell = okn;
        routines_scoped = tt;
        count_right = refl;
        names_known = tt;
        waiting_known = tt;
        which_right = o.count_right ∙ l0;
      },
      (
        record {
          result_cell = o.result_cell;
          routines_scoped = o.routines_scoped;
          count_right = omega (arith, o.count_right, l0, l1);
          names_known = (
            kok,
            known_more (declared s.cells (fs ++ [])) (declared s.cells (fs ++ is_function r ∷ []))
                s.known (omega arith) (omega (arith, l0, l1)) (λ w lt. getD_more w lt) o.names_known,
          );
          waiting_known = o.waiting_known;
          which_right = which_named s cs n k o.which_right;
        },
        sc.1,
      ),
    )
  where
    getD_more : (w : ℕ) → w < length (function_flags s.routines ++ []) →
        get_or (function_flags s.routines ++ is_function r ∷ []) w false ≡ get_or (function_flags s.routines ++ [])
        w false
    getD_more w lt =
        get_or-append (function_flags s.routines) (is_function r ∷ []) false w
        (omega (arith, ap length (append-nil (function_flags s.routines))))
        ∙ ap (λ z. get_or z w false) (sym (append-nil (function_flags s.routines)))

pub count_at : (s : Scope) (cs : List Scope) (r : Role) → ScopesSound [] (s ∷ cs) →
    s.count < length (function_flags s.routines ++ is_function r ∷ [])
count_at s cs r sc =
    omega (
      arith,
      sc.0.count_right,
      ap length (append-nil (function_flags s.routines)),
      length-append (function_flags s.routines) (is_function r ∷ []),
    )

pub count_flag : (s : Scope) (cs : List Scope) (f : Bool) → ScopesSound [] (s ∷ cs) →
    get_or (function_flags s.routines ++ f ∷ []) s.count false ≡ f
count_flag s cs f sc =
    get_or_at (function_flags s.routines) f [] false s.count (sym (sc.0.count_right
    ∙ ap length (append-nil (function_flags s.routines))))

flags_add : (rs : Routines) (b : Block) →
    function_flags (add_routine rs b) ≡ function_flags rs ++ is_function_block b ∷ []
flags_add no_more b = refl
flags_add (routine a rs) b = ap (λ z. is_function_block a ∷ z) (flags_add rs b)

routines_add : (Δ : List Declared) (k : ℕ) (seen : List Bool) (rs : Routines) (b : Block) →
    RoutinesScoped Δ k seen rs →
    BlockScoped (declared k (seen ++ (function_flags rs ++ is_function_block b ∷ [])) ∷ Δ) b →
    RoutinesScoped Δ k seen (add_routine rs b)
routines_add Δ k seen no_more b o ob = (ob, tt)
routines_add Δ k seen (routine a rs) b o ob = (
  o.0,
  routines_add Δ k (seen ++ is_function_block a ∷ []) rs b o.1 (subst (λ z. BlockScoped (declared k z ∷ Δ) b)
      (sym (append_assoc seen (is_function_block a ∷ []) (function_flags rs ++ is_function_block b ∷ []))) ob),
)

which_with : (s : Scope) (cs : List Scope) (b : Block) → WhichCounted s cs → WhichCounted (with_routine s b) cs
which_with s [] b w = tt
which_with s (u ∷ cs) b w = w

-- a block is closed
pub closed_scoped : (s : Scope) (cs : List Scope) (c : Cmd) → ScopesSound [] (s ∷ cs) →
    CmdScoped (declared_by [] (s ∷ cs)) c → BlockScoped (declared_by (is_function s.role ∷ []) cs) (closed s c)
closed_scoped s cs c sc oc = (
  sc.0.result_cell,
  sc.0.routines_scoped,
  subst (λ z. CmdScoped (declared s.cells z ∷ declared_by (is_function s.role ∷ []) cs) c)
      (append-nil (function_flags s.routines)) oc,
)

pub ended_sound : (s u : Scope) (cs : List Scope) (c : Cmd) → ScopesSound [] (s ∷ u ∷ cs) →
    CmdScoped (declared_by [] (s ∷ u ∷ cs)) c → ScopesSound [] (with_routine u (closed s c) ∷ cs)
ended_sound s u cs c sc oc =
    let b : Block = closed s c in
    let o = sc.1.0 in
    let ob : BlockScoped (declared_by (is_function s.role ∷ []) (u ∷ cs)) b = closed_scoped s (u ∷ cs) c sc oc in
    let all : Routines = add_routine u.routines b in
    let e : function_flags u.routines ++ is_function_block b ∷ [] ≡ function_flags all ++ [] =
    sym (append-nil (function_flags all) ∙ flags_add u.routines b) in (
      record {
        result_cell = o.result_cell;
        routines_scoped =
            routines_add (declared_by (is_function u.role ∷ []) cs) u.cells [] u.routines b
            o.routines_scoped ob;
        count_right = o.count_right ∙ ap length e;
        names_known = subst (λ z. AllKnown (declared u.cells z) u.known) e o.names_known;
        waiting_known = o.waiting_known;
        which_right = which_with u cs b o.which_right;
      },
      sc.1.1,
    )
