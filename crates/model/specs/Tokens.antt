-- The tokens of a script, and what reading a text to its end gives. Assumes nothing.
use Rattle.std.specs.Prelude.{List, ℕ}
use Rattle.model.specs.declared.tokens.Word.{Word}
use Rattle.model.specs.declared.tokens.Sign.{Sign}
use Rattle.model.specs.declared.faults.ReaderFault.{ReaderFault}

-- a name by its bytes, a number by its worth
pub data Token : Type 0 where
  word : Word → Token
  sign : Sign → Token
  name : List ℕ → Token
  number : ℕ → Token

-- a token and the place of its first byte
pub record Lexeme : Type 0 where
  pub token : Token
  pub place : ℕ

-- the tokens of a text with their places, and behind them the text's end, or the fault that ends the reading
pub data Stream : Type 0 where
  next : Token → ℕ → Stream → Stream
  ends : ℕ → Stream
  breaks : ReaderFault → ℕ → Stream
