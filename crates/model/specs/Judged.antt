-- What judging one token gives: the state behind it, a whole program, or a refusal. Assumes nothing.
use Rattle.std.specs.Prelude.{Bool, true, false, List, ℕ, suc, pred, ◌+◌, leb, length}
use Rattle.std.proofs.Math.Option.{Option, none, some}
use Rattle.model.specs.declared.script.Ty.{Ty}
use Rattle.model.specs.declared.script.Operator.{Operator}
use Rattle.model.specs.declared.faults.Cause.{Cause}
use Rattle.model.specs.declared.faults.Cause.TheVariants as Causes
use Rattle.model.specs.declared.faults.GrammarFault.TheVariants.{NotAdmitted, TooDeep}
use Rattle.model.specs.declared.faults.MeaningFault.TheVariants.{NotVisible, WrongKind}
use Rattle.model.specs.Tokens.{Token, word, sign, name, number}
use Rattle.model.specs.Tree.{Block}
use Rattle.model.specs.Names.{Scope, Seen}
use Rattle.model.specs.Contexts.{Focus, State}

pub data Judged : Type 0 where
  goes : State → Judged
  completes : Block → Judged
  refuses : Cause → Judged

abbrev pub not_admitted : Judged
not_admitted = refuses (Causes.Grammar NotAdmitted)

abbrev pub wrong_kind : Judged
wrong_kind = refuses (Causes.Meaning WrongKind)

-- the state behind the token: the open blocks, and what the next token has to bring
abbrev pub on : List Scope → Focus → Judged
on cs f = goes (record { scopes = cs; focus = f })

abbrev pub admitted : Bool → Judged → Judged
admitted true j = j
admitted false j = not_admitted

-- one level more, where n levels are open inside the innermost block; each block but the program's is a level too
abbrev pub deeper : List Scope → ℕ → Judged → Judged
deeper cs n j = elim (leb (suc (pred (length cs) + n)) 64) [ true ↦ j | false ↦ refuses (Causes.Grammar TooDeep) ]

abbrev pub with_operator : Option Operator → (Operator → Judged) → Judged
with_operator none j = not_admitted
with_operator (some o) j = j o

abbrev pub with_type : Option Ty → (Ty → Judged) → Judged
with_type none j = not_admitted
with_type (some y) j = j y

abbrev pub with_name : Token → (List ℕ → Judged) → Judged
with_name (name s) j = j s
with_name (number n) j = not_admitted
with_name (word w) j = not_admitted
with_name (sign g) j = not_admitted

abbrev pub with_seen : Option Seen → (Seen → Judged) → Judged
with_seen none j = refuses (Causes.Meaning NotVisible)
with_seen (some s) j = j s
