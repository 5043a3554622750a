-- What listing the tokens of a text comes to. Assumes nothing.
use Rattle.std.specs.Prelude.{◌≡◌, ℕ, suc, Ok, Err, Result}
use Rattle.model.specs.declared.faults.Fault.{Fault}
use Rattle.model.specs.declared.faults.Cause.TheVariants as Causes
use Rattle.model.specs.Tokens.{Stream, next, ends, breaks}

-- behind k tokens: how many there are in all, or the fault that ends the reading
abbrev pub Listed : ℕ → Stream → Result ℕ Fault → Type 0
Listed k (next t p s) r = Listed (suc k) s r
Listed k (ends p) r = r ≡ Ok k
Listed k (breaks f p) r = r ≡ Err (record { cause = Causes.Reader f; place = p })
