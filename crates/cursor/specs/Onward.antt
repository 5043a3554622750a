-- What becomes of the rest of a text where the parts that end before the next token are given as a function of it.
-- Assumes nothing.
use Rattle.std.specs.Prelude.{ℕ, List}
use Rattle.std.proofs.Math.Option.{none, some}
use Rattle.model.specs.declared.faults.Cause.TheVariants as Causes
use Rattle.model.specs.Tokens.{Stream, next, ends, breaks}
use Rattle.model.specs.Ahead.{Next}
use Rattle.model.specs.Names.{Scope}
use Rattle.model.specs.Settling.{Settled}
use Rattle.model.specs.Judge.{Verdict, refused, settled, go_on, ended, verdict}

-- The judge's focus is settled before each token. So a state is its open blocks, and what its focus is settled to at
-- the next token: `verdict room s st` is `onward room s st.scopes (λ t. settle t st.focus)`.
abbrev pub onward : ℕ → Stream → List Scope → (Next → Settled) → Verdict
onward room (next t p ts) cs σ = go_on (verdict room ts) p ts (settled room cs t p (σ (some t)))
onward room (ends p) cs σ = ended p (σ none)
onward room (breaks f p) cs σ = refused (Causes.Reader f) p
