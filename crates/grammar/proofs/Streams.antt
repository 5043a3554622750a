-- Lists of tokens in front of streams, and the judge's verdict on them.
use Rattle.std.proofs.Common.{◌≡◌, ℕ, List, [], ◌∷◌, ◌++◌, refl, ap, ◌∙◌}
use mathlib.Core.Option.{Option, none, some, some-injective, none-ne-some}
use Rattle.model.specs.Tokens.{next, Stream, Token, Lexeme, ends, breaks}
use Rattle.model.specs.Tree.{Block}
use Rattle.model.specs.Ahead.{Next}
use Rattle.model.specs.Names.{Scope}
use Rattle.model.specs.Contexts.{Focus, State}
use Rattle.model.specs.Settling.{Settled, settle}
use Rattle.model.specs.Judge.{Verdict, verdict, settled, go_on, accepted, ended}
use Rattle.model.specs.Grammar.{at}
use Rattle.model.specs.Acceptance.{and_then, listed}

abbrev pub state : List Scope → Focus → State
state cs f = record { scopes = cs; focus = f }

-- what becomes of a stream in the open blocks cs, where f is what its next token has to bring
abbrev pub outcome : ℕ → List Scope → Stream → Focus → Verdict
outcome room cs s f = verdict room s (state cs f)

-- what becomes of token t at place p and the stream s behind it, once the parts before it are settled
abbrev pub decided : ℕ → List Scope → Token → ℕ → Stream → Settled → Verdict
decided room cs t p s sd = go_on (verdict room s) p s (settled room cs t p sd)

pub accepted_is_one : {a b : Block} → accepted a ≡ accepted b → a ≡ b
accepted_is_one e = cc

-- ── a list of tokens in front of a stream ───────────────────────────────────────────────────

infixr 60 ◌▷◌
abbrev pub ◌▷◌ : List Lexeme → Stream → Stream
[] ▷ s = s
(l ∷ ts) ▷ s = next l.token l.place (ts ▷ s)

pub ▷-append : (ts us : List Lexeme) (s : Stream) → (ts ++ us) ▷ s ≡ ts ▷ (us ▷ s)
▷-append [] us s = refl
▷-append (l ∷ ts) us s = ap (next l.token l.place) (▷-append ts us s)

-- two lists in front of a stream are judged one after the other
pub split :
    (room : ℕ) (cs : List Scope) (ts us : List Lexeme) (s : Stream) (f : Focus) →
    outcome room cs ((ts ++ us) ▷ s) f ≡ outcome room cs (ts ▷ (us ▷ s)) f
split room cs ts us s f = ap (λ (r : Stream). outcome room cs r f) (▷-append ts us s)

-- two places where the same parts end before every token are judged alike
pub settles_alike :
    (room : ℕ) (cs : List Scope) (s : Stream) (f h : Focus) → ((t : Next) → settle t f ≡ settle t h) →
    outcome room cs s f ≡ outcome room cs s h
settles_alike room cs (next t p s) f h e = ap (decided room cs t p s) (e (some t))
settles_alike room cs (ends p) f h e = ap (ended p) (e none)
settles_alike room cs (breaks b p) f h e = refl

-- ── a stream that ends ──────────────────────────────────────────────────────────────────────

-- the stream is this list and then an end
abbrev IsAll : Stream → List Lexeme → Type 0
IsAll s ts = (z : ℕ) × (s ≡ ts ▷ ends z)

one_more :
    (t : Token) (p : ℕ) (s : Stream) (o : Option (List Lexeme)) → ((us : List Lexeme) → o ≡ some us → IsAll s us) →
    (ts : List Lexeme) → and_then (at t p) o ≡ some ts → IsAll (next t p s) ts
one_more t p s none h ts e = absurd (none-ne-some ts e)
one_more t p s (some us) h ts e =
    let a : IsAll s us = h us refl in (
      a.0,
      ap (next t p) a.1 ∙ ap (λ (r : List Lexeme). r ▷ ends a.0) (some-injective _ _ e),
    )

pub listed_is_all : (s : Stream) (ts : List Lexeme) → listed s ≡ some ts → IsAll s ts
listed_is_all (next t p s) ts e = one_more t p s (listed s) (λ us h. listed_is_all s us h) ts e
listed_is_all (ends p) ts e = (p, ap (λ (r : List Lexeme). r ▷ ends p) (some-injective _ _ e))
listed_is_all (breaks f p) ts e = absurd (none-ne-some ts e)
