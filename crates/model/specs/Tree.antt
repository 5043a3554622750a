-- A script as a tree, every use of a name resolved to its declaration. Assumes nothing.
use Rattle.std.specs.Prelude.{ℕ, ℤ}
use Rattle.model.specs.declared.script.Ty.{Ty}
use Rattle.model.specs.declared.script.Operator.{Operator}

-- a declaration, as seen from a use: how many blocks up, and which of that block's cells or routines
pub record Found : Type 0 where
  pub hops : ℕ
  pub index : ℕ

-- in each of these the first number is the place of the token that the entries come from

pub data Exp : Type 0 where
  constant : ℕ → ℤ → Exp
  variable : ℕ → Found → Exp
  call : ℕ → Found → Exp
  negated : ℕ → Exp → Exp
  denied : ℕ → Exp → Exp
  joined : Operator → ℕ → Exp → Exp → Exp

-- the second number of leia and escreva is the name's place, that of se_senao the place of `senao`
pub data Cmd : Type 0 where
  assign : ℕ → Found → Exp → Cmd
  invoke : ℕ → Found → Cmd
  leia : ℕ → ℕ → Found → Cmd
  escreva : ℕ → ℕ → Found → Cmd
  then_do : Cmd → Cmd → Cmd
  se : ℕ → Exp → Cmd → Cmd
  se_senao : ℕ → Exp → Cmd → ℕ → Cmd → Cmd
  enquanto : ℕ → Exp → Cmd → Cmd

pub data Role : Type 0 where
  program procedure : Role
  function : Ty → Role

mutual
  -- its keyword's place, what it is, how many own cells, its routines in order, its body
  pub data Block : Type 0 where
    block : ℕ → Role → ℕ → Routines → Cmd → Block

  pub data Routines : Type 0 where
    no_more : Routines
    routine : Block → Routines → Routines
