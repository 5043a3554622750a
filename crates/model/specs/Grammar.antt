-- LPD's grammar with its name and type rules, as rules: which tokens make which tree. Assumes nothing.
-- The judge accepts a text exactly when these rules give its tokens a tree.
use Rattle.std.specs.Prelude.{◌≡◌, Bool, true, false, List, [], ◌∷◌, ◌++◌, ℕ, suc, pred, ◌+◌, ◌<◌, ◌≤◌, pos, length}
use Rattle.std.proofs.Math.Option.{some}
use Rattle.model.specs.declared.tokens.Word.{Word}
use Rattle.model.specs.declared.tokens.Word.TheVariants as Words
use Rattle.model.specs.declared.tokens.Sign.{Sign}
use Rattle.model.specs.declared.tokens.Sign.TheVariants as Signs
use Rattle.model.specs.declared.script.Ty.{Ty}
use Rattle.model.specs.declared.script.Ty.TheVariants.{Inteiro, Booleano}
use Rattle.model.specs.declared.script.Operator.{Operator}
use Rattle.model.specs.Tokens.{Token, Lexeme, word, sign, name, number}
use Rattle.model.specs.Tree
use Rattle.model.specs.Tree.{Found, Exp, Cmd, Block, procedure, function}
use Rattle.model.specs.Tree.{constant, variable, call, negated, denied, joined, assign, invoke, then_do, se_senao}
use Rattle.model.specs.Ahead.{multiplying, adding, comparing, type_named}
use Rattle.model.specs.Types.{takes, fitting, giving}
use Rattle.model.specs.Names.{Kind, a_variable, a_procedure, a_function, Scope, Seen, visible, declared_here, records}
use Rattle.model.specs.Blocks.{wait, typed, opened, with_routine_name, with_routine, closed as closed_by, program_opened}

abbrev pub w : Word → ℕ → Lexeme
w t p = record { token = word t; place = p }

abbrev pub g : Sign → ℕ → Lexeme
g t p = record { token = sign t; place = p }

abbrev pub name_at : List ℕ → ℕ → Lexeme
name_at s p = record { token = name s; place = p }

abbrev pub at : Token → ℕ → Lexeme
at t p = record { token = t; place = p }

abbrev pub Deep : ℕ → Type 0
Deep n = suc n ≤ 64

-- inside the blocks cs, under n open levels
mutual
  pub data Expression (cs : List Scope) : ℕ → List Lexeme → Exp → Ty → Type 0 where
    alone : {n : ℕ} (ts : List Lexeme) {x : Exp} (y : Ty) → Simple cs n ts x y → Expression cs n ts x y
    compared :
        {n : ℕ} (ts us : List Lexeme) {x z : Exp} (y : Ty) (t : Token) (o : Operator) (p : ℕ) →
        Simple cs n ts x y → comparing (some t) ≡ some o → Simple cs n us z y →
        Expression cs n (ts ++ at t p ∷ us) (joined o p x z) Booleano

  pub data Simple (cs : List Scope) : ℕ → List Lexeme → Exp → Ty → Type 0 where
    unsigned : {n : ℕ} (ts : List Lexeme) {x : Exp} (y : Ty) → Term cs n ts x y → Simple cs n ts x y
    positive :
        {n : ℕ} (ts : List Lexeme) {x : Exp} (p : ℕ) →
        Term cs n ts x Inteiro →
        Simple cs n (g Signs.Plus p ∷ ts) x Inteiro
    negative :
        {n : ℕ} (ts : List Lexeme) {x : Exp} (p : ℕ) →
        Term cs n ts x Inteiro →
        Simple cs n (g Signs.Minus p ∷ ts) (negated p x) Inteiro
    summed :
        {n : ℕ} (ts us : List Lexeme) {x z : Exp} (y v : Ty) (t : Token) (o : Operator) (p : ℕ) →
        Simple cs n ts x y → adding (some t) ≡ some o → Term cs n us z v → fitting (takes o) y v ≡ true →
        Simple cs n (ts ++ at t p ∷ us) (joined o p x z) (giving (takes o))

  pub data Term (cs : List Scope) : ℕ → List Lexeme → Exp → Ty → Type 0 where
    single : {n : ℕ} (ts : List Lexeme) {x : Exp} (y : Ty) → Factor cs n ts x y → Term cs n ts x y
    multiplied :
        {n : ℕ} (ts us : List Lexeme) {x z : Exp} (y v : Ty) (t : Token) (o : Operator) (p : ℕ) →
        Term cs n ts x y → multiplying (some t) ≡ some o → Factor cs n us z v → fitting (takes o) y v ≡ true →
        Term cs n (ts ++ at t p ∷ us) (joined o p x z) (giving (takes o))

  pub data Factor (cs : List Scope) : ℕ → List Lexeme → Exp → Ty → Type 0 where
    variable_use :
        {n : ℕ} (p i : ℕ) (s : List ℕ) (d : Seen) (y : Ty) →
        visible s cs ≡ some d → d.kind ≡ a_variable y i →
        Factor cs n (name_at s p ∷ []) (variable p (record { hops = d.hops; index = i })) y
    function_use :
        {n : ℕ} (p i : ℕ) (s : List ℕ) (d : Seen) (y : Ty) →
        visible s cs ≡ some d → d.kind ≡ a_function y i →
        Factor cs n (name_at s p ∷ []) (call p (record { hops = d.hops; index = i })) y
    a_number : {n : ℕ} (p v : ℕ) → Factor cs n (at (number v) p ∷ []) (constant p (pos v)) Inteiro
    verdadeiro : {n : ℕ} (p : ℕ) → Factor cs n (w Words.Verdadeiro p ∷ []) (constant p (pos 1)) Booleano
    falso : {n : ℕ} (p : ℕ) → Factor cs n (w Words.Falso p ∷ []) (constant p (pos 0)) Booleano
    bracketed :
        {n : ℕ} (p q : ℕ) (ts : List Lexeme) {x : Exp} (y : Ty) →
        Deep n → Expression cs (suc n) ts x y →
        Factor cs n (g Signs.OpenBracket p ∷ ts ++ g Signs.CloseBracket q ∷ []) x y
    denying :
        {n : ℕ} (p : ℕ) (ts : List Lexeme) {x : Exp} →
        Deep n → Factor cs (suc n) ts x Booleano →
        Factor cs n (w Words.Nao p ∷ ts) (denied p x) Booleano

-- what `:=` may set
abbrev pub SettableKind : Kind → ℕ → Bool → Ty → Found → Type 0
SettableKind (a_variable z i) h inside y f = (z ≡ y) × (f ≡ record { hops = h; index = i })
SettableKind (a_function z i) h true y f = (z ≡ y) × (f ≡ record { hops = pred h; index = 0 })
SettableKind (a_function z i) h false y f = ⊥
SettableKind (a_procedure i) h inside y f = ⊥

abbrev pub Settable : Seen → Ty → Found → Type 0
Settable d y f = SettableKind d.kind d.hops d.inside y f

-- the last part says whether a `senao` after the command would belong to a `se` inside it
mutual
  pub data Command (cs : List Scope) : ℕ → List Lexeme → Cmd → Bool → Type 0 where
    assigning :
        {n : ℕ} (p q : ℕ) (s : List ℕ) (d : Seen) (ts : List Lexeme) {x : Exp} (y : Ty) (f : Found) →
        visible s cs ≡ some d → Settable d y f → Expression cs n ts x y →
        Command cs n (name_at s p ∷ g Signs.Becomes q ∷ ts) (assign p f x) false
    calling :
        {n : ℕ} (p i : ℕ) (s : List ℕ) (d : Seen) →
        visible s cs ≡ some d → d.kind ≡ a_procedure i →
        Command cs n (name_at s p ∷ []) (invoke p (record { hops = d.hops; index = i })) false
    reading :
        {n : ℕ} (p q r o i : ℕ) (s : List ℕ) (d : Seen) →
        visible s cs ≡ some d → d.kind ≡ a_variable Inteiro i →
        Command cs n (w Words.Leia p ∷ g Signs.OpenBracket o ∷ name_at s q ∷ g Signs.CloseBracket r ∷ []) (Tree.leia p q (record { hops = d.hops; index = i })) false
    writing :
        {n : ℕ} (p q r o i : ℕ) (s : List ℕ) (d : Seen) →
        visible s cs ≡ some d → d.kind ≡ a_variable Inteiro i →
        Command cs n (w Words.Escreva p ∷ g Signs.OpenBracket o ∷ name_at s q ∷ g Signs.CloseBracket r ∷ []) (Tree.escreva p q (record { hops = d.hops; index = i })) false
    grouped : {n : ℕ} (ts : List Lexeme) {c : Cmd} → Body cs n ts c → Command cs n ts c false
    looping :
        {n : ℕ} (p q : ℕ) (ts us : List Lexeme) {x : Exp} {c : Cmd} {b : Bool} →
        Deep n → Expression cs (suc n) ts x Booleano → Command cs (suc n) us c b →
        Command cs n (w Words.Enquanto p ∷ ts ++ w Words.Faca q ∷ us) (Tree.enquanto p x c) b
    choosing :
        {n : ℕ} (p q : ℕ) (ts us : List Lexeme) {x : Exp} {c : Cmd} {b : Bool} →
        Deep n → Expression cs (suc n) ts x Booleano → Command cs (suc n) us c b →
        Command cs n (w Words.Se p ∷ ts ++ w Words.Entao q ∷ us) (Tree.se p x c) true
    choosing_either :
        {n : ℕ} (p q r : ℕ) (ts us vs : List Lexeme) {x : Exp} {c d : Cmd} {b : Bool} →
        Deep n → Expression cs (suc n) ts x Booleano → Command cs (suc n) us c false → Command cs (suc n) vs d b →
        Command cs n (w Words.Se p ∷ ts ++ w Words.Entao q ∷ us ++ w Words.Senao r ∷ vs) (se_senao p x c r d) b

  pub data Commands (cs : List Scope) : ℕ → List Lexeme → Cmd → Type 0 where
    one : {n : ℕ} (ts : List Lexeme) {c : Cmd} {b : Bool} → Command cs n ts c b → Commands cs n ts c
    more :
        {n : ℕ} (p : ℕ) (ts us : List Lexeme) {c d : Cmd} {b : Bool} →
        Commands cs n ts c → Command cs n us d b →
        Commands cs n (ts ++ g Signs.Semicolon p ∷ us) (then_do c d)

  pub data Body (cs : List Scope) : ℕ → List Lexeme → Cmd → Type 0 where
    closed :
        {n : ℕ} (p q : ℕ) (ts : List Lexeme) {c : Cmd} →
        Deep n → Commands cs (suc n) ts c →
        Body cs n (w Words.Inicio p ∷ ts ++ w Words.Fim q ∷ []) c
    trailing :
        {n : ℕ} (p q r : ℕ) (ts : List Lexeme) {c : Cmd} →
        Deep n → Commands cs (suc n) ts c →
        Body cs n (w Words.Inicio p ∷ ts ++ g Signs.Semicolon q ∷ w Words.Fim r ∷ []) c

-- a name that its block does not have yet, a record for it, and a cell
abbrev pub Fresh : ℕ → List Scope → Scope → List ℕ → Type 0
Fresh room cs s n = (declared_here n s ≡ false) × (records (s ∷ cs) < room) × (s.first + s.cells + 1 ≤ 4096)

abbrev pub FreshRoutine : ℕ → List Scope → Scope → List ℕ → Type 0
FreshRoutine room cs s n = (declared_here n s ≡ false) × (records (s ∷ cs) < room)

-- the variable part of a block, groups of names, each declared where it stands; s is the block before and u after
pub data Names (room : ℕ) (cs : List Scope) : List Lexeme → Scope → Scope → Type 0 where
  first_name : (p : ℕ) (n : List ℕ) (s : Scope) → Fresh room cs s n → Names room cs (name_at n p ∷ []) s (wait s n)
  next_name :
      (p q : ℕ) (n : List ℕ) (ts : List Lexeme) (s u : Scope) →
      Names room cs ts s u → Fresh room cs u n →
      Names room cs (ts ++ g Signs.Comma q ∷ name_at n p ∷ []) s (wait u n)

pub data Groups (room : ℕ) (cs : List Scope) : List Lexeme → Scope → Scope → Type 0 where
  no_group : (s : Scope) → Groups room cs [] s s
  group :
      (p q r : ℕ) (ts us : List Lexeme) (t : Token) (y : Ty) (s u v : Scope) →
      Groups room cs ts s u → Names room cs us u v → type_named (some t) ≡ some y →
      Groups room cs (ts ++ us ++ g Signs.Colon p ∷ at t q ∷ g Signs.Semicolon r ∷ []) s (typed v y)

pub data Variables (room : ℕ) (cs : List Scope) : List Lexeme → Scope → Scope → Type 0 where
  none_declared : (s : Scope) → Variables room cs [] s s
  declared :
      (p : ℕ) {l : Lexeme} (ts : List Lexeme) (s u : Scope) →
      Groups room cs (l ∷ ts) s u →
      Variables room cs (w Words.Var p ∷ l ∷ ts) s u

-- routines and blocks: s is the innermost open block before, u after
mutual
  pub data Routine (room : ℕ) : List Scope → List Lexeme → Scope → Scope → Type 0 where
    a_procedure_of :
        {cs : List Scope} (p q r o : ℕ) (n : List ℕ) (ts : List Lexeme) (s v : Scope) {c : Cmd} →
        Deep (length cs) → FreshRoutine room cs s n →
        Inside room (with_routine_name s n (a_procedure s.count) ∷ cs) ts (opened s p procedure 0) v c →
        Routine room cs (w Words.Procedimento p ∷ name_at n q ∷ g Signs.Semicolon r ∷ ts ++ g Signs.Semicolon o ∷ []) s (with_routine (with_routine_name s n (a_procedure s.count)) (closed_by v c))
    a_function_of :
        {cs : List Scope} (p q r o h i : ℕ) (n : List ℕ) (ts : List Lexeme) (t : Token) (y : Ty) (s v : Scope) {c : Cmd} →
        Deep (length cs) → Fresh room cs s n → type_named (some t) ≡ some y →
        Inside room (with_routine_name s n (a_function y s.count) ∷ cs) ts (opened s p (function y) 1) v c →
        Routine room cs (w Words.Funcao p ∷ name_at n q ∷ g Signs.Colon h ∷ at t i ∷ g Signs.Semicolon r ∷ ts ++ g Signs.Semicolon o ∷ []) s (with_routine (with_routine_name s n (a_function y s.count)) (closed_by v c))

  pub data RoutineList (room : ℕ) : List Scope → List Lexeme → Scope → Scope → Type 0 where
    no_routine : {cs : List Scope} (s : Scope) → RoutineList room cs [] s s
    routine_more :
        {cs : List Scope} (ts us : List Lexeme) (s u v : Scope) →
        RoutineList room cs ts s u → Routine room cs us u v →
        RoutineList room cs (ts ++ us) s v

  pub data Inside (room : ℕ) : List Scope → List Lexeme → Scope → Scope → Cmd → Type 0 where
    whole :
        {cs : List Scope} (ts us vs : List Lexeme) (s u v : Scope) {c : Cmd} →
        Variables room cs ts s u → RoutineList room cs us u v → Body (v ∷ cs) (length cs) vs c →
        Inside room cs (ts ++ us ++ vs) s v c

pub data Program (room : ℕ) : List Lexeme → Block → Type 0 where
  the_program :
      (p q r o : ℕ) (n : List ℕ) (ts : List Lexeme) (v : Scope) {c : Cmd} →
      Inside room [] ts (program_opened p) v c →
      Program room (w Words.Programa p ∷ name_at n q ∷ g Signs.Semicolon r ∷ ts ++ g Signs.Period o ∷ []) (closed_by v c)
