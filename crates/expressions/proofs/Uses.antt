-- What a record says of the declaration that its name finds, by the record's kind.
use Rattle.std.proofs.Common.{◌≡◌, ℕ, pred, Bool, true, false, List, Some, Option as Maybe, sym, refl, ap, ◌∙◌, arith}
use mathlib.Core.Option.{Option, some}
use Rattle.scopes.specs.declared.names.Name.{Name}
use Rattle.model.specs.declared.names.NameKind.{NameKind}
use Rattle.model.specs.declared.names.NameKind.TheVariants.{Nothing, Variable, Procedure, Function}
use Rattle.model.specs.declared.script.Ty.{Ty}
use Rattle.model.specs.Names.{a_variable, a_procedure, a_function, Seen}
use Rattle.model.specs.Code.{Laid, cell_of, begin_of}
use Rattle.scopes.specs.Levels.{Matches, neither, variables, procedures, functions}

module _ (ls : List Laid) (over : Bool) where
  -- the judge sees a variable
  pub record VariableSeen (n : Name) (y : Ty) (d : Option Seen) : Type 0 where
    pub index : ℕ
    pub hops : ℕ
    pub inside : Bool
    pub is : d ≡ some (record { kind = a_variable y index; hops = hops; inside = inside })
    pub cell : n.cell ≡ cell_of ls (record { hops = hops; index = index })

  pub record ProcedureSeen (n : Name) (d : Option Seen) : Type 0 where
    pub index : ℕ
    pub hops : ℕ
    pub inside : Bool
    pub is : d ≡ some (record { kind = a_procedure index; hops = hops; inside = inside })
    pub entry : over ≡ false → n.entry ≡ begin_of ls (record { hops = hops; index = index })

  pub record FunctionSeen (n : Name) (y : Ty) (d : Option Seen) : Type 0 where
    pub index : ℕ
    pub hops : ℕ
    pub inside : Bool
    pub is : d ≡ some (record { kind = a_function y index; hops = hops; inside = inside })
    pub entry : over ≡ false → n.entry ≡ begin_of ls (record { hops = hops; index = index })
    pub within : n.inside ≡ inside
    pub cell : inside ≡ true → n.cell ≡ cell_of ls (record { hops = pred hops; index = 0 })

  -- kinds are told apart
  abbrev kind_number : NameKind → ℕ
  kind_number Nothing = 0
  kind_number (Variable y) = 1
  kind_number Procedure = 2
  kind_number (Function y) = 3

  apart : (n n' : Name) (k k' : NameKind) → n'.kind ≡ k' → n' ≡ n → n.kind ≡ k → kind_number k' ≡ kind_number k
  apart n n' k k' e s f = ap kind_number (sym e ∙ ap (λ x. x.kind) s ∙ f)

  module _ (n : Name) where
    pub variable_seen : (m : Maybe Name) (d : Option Seen) → Matches ls over m d → m ≡ Some n → (y : Ty) → n.kind ≡ Variable y → VariableSeen n y d
    variable_seen m d neither q y k = let z : ◌≡◌ {A = ℕ} 0 1 = cc in absurd (omega arith)
    variable_seen m d (variables n' y' i h c e f) q y k =
        let s : n' ≡ n = cc in
        let v : Variable y' ≡ Variable y = sym e ∙ ap (λ x. x.kind) s ∙ k in
        let z : y' ≡ y = cc in
        record { index = i; hops = h; inside = c; is = ap (λ w. some (record { kind = a_variable w i; hops = h; inside = c })) z; cell = sym (ap (λ x. x.cell) s) ∙ f }
    variable_seen m d (procedures n' w h c e f) q y k = let s : n' ≡ n = cc in absurd (omega (arith, apart n n' (Variable y) Procedure e s k))
    variable_seen m d (functions n' y' w h c e f g j) q y k = let s : n' ≡ n = cc in absurd (omega (arith, apart n n' (Variable y) (Function y') e s k))

    pub function_seen : (m : Maybe Name) (d : Option Seen) → Matches ls over m d → m ≡ Some n → (y : Ty) → n.kind ≡ Function y → FunctionSeen n y d
    function_seen m d neither q y k = let z : ◌≡◌ {A = ℕ} 0 1 = cc in absurd (omega arith)
    function_seen m d (variables n' y' i h c e f) q y k = let s : n' ≡ n = cc in absurd (omega (arith, apart n n' (Function y) (Variable y') e s k))
    function_seen m d (procedures n' w h c e f) q y k = let s : n' ≡ n = cc in absurd (omega (arith, apart n n' (Function y) Procedure e s k))
    function_seen m d (functions n' y' w h c e f g j) q y k =
        let s : n' ≡ n = cc in
        let v : Function y' ≡ Function y = sym e ∙ ap (λ x. x.kind) s ∙ k in
        let z : y' ≡ y = cc in
        record {
          index = w;
          hops = h;
          inside = c;
          is = ap (λ u. some (record { kind = a_function u w; hops = h; inside = c })) z;
          entry = λ o. sym (ap (λ x. x.entry) s) ∙ f o;
          within = sym (ap (λ x. x.inside) s) ∙ g;
          cell = λ o. sym (ap (λ x. x.cell) s) ∙ j o;
        }

    pub procedure_seen : (m : Maybe Name) (d : Option Seen) → Matches ls over m d → m ≡ Some n → n.kind ≡ Procedure → ProcedureSeen n d
    procedure_seen m d neither q k = let z : ◌≡◌ {A = ℕ} 0 1 = cc in absurd (omega arith)
    procedure_seen m d (variables n' y' i h c e f) q k = let s : n' ≡ n = cc in absurd (omega (arith, apart n n' Procedure (Variable y') e s k))
    procedure_seen m d (procedures n' w h c e f) q k =
        let s : n' ≡ n = cc in record { index = w; hops = h; inside = c; is = refl; entry = λ o. sym (ap (λ x. x.entry) s) ∙ f o }
    procedure_seen m d (functions n' y' w h c e f g j) q k = let s : n' ≡ n = cc in absurd (omega (arith, apart n n' Procedure (Function y') e s k))
