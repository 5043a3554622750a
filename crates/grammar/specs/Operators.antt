-- The operators and types, as tables: which token stands for which, and what each takes and yields. Assumes nothing.
use Rattle.std.specs.Prelude.{◌≡◌, true, ◌↔◌}
use Rattle.std.proofs.Math.Option.{some}
use Rattle.model.specs.declared.script.Ty.{Ty}
use Rattle.model.specs.declared.script.Operator.{Operator}
use Rattle.model.specs.declared.tokens.Word.TheVariants as Words
use Rattle.model.specs.declared.tokens.Sign.TheVariants as Signs
use Rattle.model.specs.declared.script.Operator.TheVariants as Operators
use Rattle.model.specs.declared.script.Ty.TheVariants.{Inteiro, Booleano}
use Rattle.model.specs.Tokens.{Token, sign, word}
use Rattle.model.specs.Ahead.{multiplying, adding, comparing, type_named}
use Rattle.model.specs.Types.{fitting, takes, giving}

-- ── tokens ──────────────────────────────────────────────────────────────────────────────────

-- between two factors
pub data Multiplies : Token → Operator → Type 0 where
  times : Multiplies (sign Signs.Times) Operators.Mult
  div : Multiplies (word Words.Div) Operators.Divi
  and : Multiplies (word Words.E) Operators.And

-- between two terms
pub data Adds : Token → Operator → Type 0 where
  plus : Adds (sign Signs.Plus) Operators.Add
  minus : Adds (sign Signs.Minus) Operators.Sub
  or : Adds (word Words.Ou) Operators.Or

-- between two simple expressions
pub data Compares : Token → Operator → Type 0 where
  equal : Compares (sign Signs.Equal) Operators.Equal
  unequal : Compares (sign Signs.Unequal) Operators.Unequal
  less : Compares (sign Signs.Less) Operators.Less
  at_most : Compares (sign Signs.AtMost) Operators.AtMost
  greater : Compares (sign Signs.Greater) Operators.Greater
  at_least : Compares (sign Signs.AtLeast) Operators.AtLeast

pub data NamesType : Token → Ty → Type 0 where
  inteiro : NamesType (word Words.Inteiro) Inteiro
  booleano : NamesType (word Words.Booleano) Booleano

-- the definitions tell the tokens so
abbrev pub TokensTold : Type 0
TokensTold =
    ((t : Token) (o : Operator) → (multiplying (some t) ≡ some o) ↔ Multiplies t o)
    × ((t : Token) (o : Operator) → (adding (some t) ≡ some o) ↔ Adds t o)
    × ((t : Token) (o : Operator) → (comparing (some t) ≡ some o) ↔ Compares t o)
    × ((t : Token) (y : Ty) → (type_named (some t) ≡ some y) ↔ NamesType t y)

-- ── types ───────────────────────────────────────────────────────────────────────────────────

-- an operator, the types of its left and right operand, and the type of its result
pub data Fits : Operator → Ty → Ty → Ty → Type 0 where
  of_add : Fits Operators.Add Inteiro Inteiro Inteiro
  of_sub : Fits Operators.Sub Inteiro Inteiro Inteiro
  of_mult : Fits Operators.Mult Inteiro Inteiro Inteiro
  of_divi : Fits Operators.Divi Inteiro Inteiro Inteiro
  of_and : Fits Operators.And Booleano Booleano Booleano
  of_or : Fits Operators.Or Booleano Booleano Booleano
  -- two of one type
  of_equal : (y : Ty) → Fits Operators.Equal y y Booleano
  of_unequal : (y : Ty) → Fits Operators.Unequal y y Booleano
  of_less : (y : Ty) → Fits Operators.Less y y Booleano
  of_at_most : (y : Ty) → Fits Operators.AtMost y y Booleano
  of_greater : (y : Ty) → Fits Operators.Greater y y Booleano
  of_at_least : (y : Ty) → Fits Operators.AtLeast y y Booleano

-- the definitions give the types so
abbrev pub TypesTold : Type 0
TypesTold =
    (o : Operator) (y z v : Ty) → ((fitting (takes o) y z ≡ true) × (giving (takes o) ≡ v)) ↔ Fits o y z v
