-- How the judge goes on at the token ahead: it takes the token, it stops, or it stands as well in another state.
use Rattle.std.proofs.Common.{◌≡◌, ℕ, List, length, Some, None, Option as Maybe, sym, refl, ap, ◌∙◌}
use mathlib.Core.Option.{some}
use Rattle.model.specs.declared.faults.Fault.{Fault}
use Rattle.model.specs.declared.faults.Cause.{Cause}
use Rattle.model.specs.declared.faults.Cause.TheVariants as Causes
use Rattle.model.specs.declared.faults.MeaningFault.{MeaningFault}
use Rattle.model.specs.Tokens.{Token, Stream, next, ends, breaks}
use Rattle.model.specs.Ahead.{Next}
use Rattle.model.specs.Names.{Scope}
use Rattle.model.specs.Contexts.{Focus}
use Rattle.model.specs.Settling.{Settled, at, wrong, settle}
use Rattle.model.specs.Judged.{refuses, not_admitted, on}
use Rattle.model.specs.Judge.{Verdict, refused, shift, settled, go_on, ended, verdict}
use Rattle.reader.specs.declared.tokens.Lexeme.{Lexeme}
use Rattle.reader.specs.Pieces.{token_of}
use Rattle.cursor.specs.declared.Cursor.{Cursor}
use Rattle.cursor.specs.Rests.{text_of, from_lexeme, rest_of, behind, next_of, ahead_of, place_from, place_of, Breaks, stray}
use Rattle.cursor.specs.Onward.{onward}

-- a state of the judge, by what its focus is settled to
pub from_state : (room : ℕ) (s : Stream) (cs : List Scope) (f : Focus) → verdict room s (record { scopes = cs; focus = f }) ≡ onward room s cs (λ t. settle t f)
from_state room (next t p ts) cs f = refl
from_state room (ends p) cs f = refl
from_state room (breaks g p) cs f = refl

-- every state refuses a text whose reading breaks off
pub broken : (room : ℕ) (s : Stream) (cs : List Scope) (f : Focus) (g : Fault) → Breaks s g → verdict room s (record { scopes = cs; focus = f }) ≡ refused g.cause g.place
broken room s cs f g b = ap (λ r. verdict room r (record { scopes = cs; focus = f })) b.stream ∙ ap (λ c. refused c g.place) (sym b.cause)

module _ (room : ℕ) (text : List ℕ) (s : Stream) (cs : List Scope) (σ : Next → Settled) where
  abbrev Rest : Maybe Lexeme → Verdict
  Rest m = onward room (from_lexeme text s m) cs σ

  same_at : (σ' : Next → Settled) (m : Maybe Lexeme) → σ (next_of m) ≡ σ' (next_of m) → Rest m ≡ onward room (from_lexeme text s m) cs σ'
  same_at σ' (Some l) e = ap (λ x. go_on (verdict room s) l.place s (settled room cs (token_of l.token) l.place x)) e
  same_at σ' None e = ap (ended (length text)) e

  misfits_at : (f : MeaningFault) (m : Maybe Lexeme) → σ (next_of m) ≡ wrong f → Rest m ≡ refused (Causes.Meaning f) (place_from (length text) m)
  misfits_at f (Some l) e = ap (λ x. go_on (verdict room s) l.place s (settled room cs (token_of l.token) l.place x)) e
  misfits_at f None e = ap (ended (length text)) e

  strays_at : (f : Focus) (m : Maybe Lexeme) → σ (next_of m) ≡ at f → ((t : Token) (p : ℕ) → next_of m ≡ some t → shift room cs t p f ≡ not_admitted) → Rest m ≡ refused (stray (next_of m)) (place_from (length text) m)
  strays_at f (Some l) e h =
      ap (λ x. go_on (verdict room s) l.place s (settled room cs (token_of l.token) l.place x)) e ∙ ap (go_on (verdict room s) l.place s) (h (token_of l.token) l.place refl)
  strays_at f None e h = ap (ended (length text)) e

  module _ (t : Token) (f : Focus) where
    step_at : (m : Maybe Lexeme) → next_of m ≡ some t → σ (some t) ≡ at f → Rest m ≡ go_on (verdict room s) (place_from (length text) m) s (shift room cs t (place_from (length text) m) f)
    step_at (Some l) i e =
        let j : token_of l.token ≡ t = cc in
        ap (λ u. go_on (verdict room s) l.place s (settled room cs u l.place (σ (some u)))) j ∙ ap (λ x. go_on (verdict room s) l.place s (settled room cs t l.place x)) e
    step_at None i e = cc

-- two focuses at which every token is judged alike
module _ (room : ℕ) (text : List ℕ) (s : Stream) (cs : List Scope) (f f' : Focus) where
  alike_at : (m : Maybe Lexeme) → ((t : Token) (p : ℕ) → next_of m ≡ some t → shift room cs t p f ≡ shift room cs t p f') → onward room (from_lexeme text s m) cs (λ _. at f) ≡ onward room (from_lexeme text s m) cs (λ _. at f')
  alike_at (Some l) h = ap (go_on (verdict room s) l.place s) (h (token_of l.token) l.place refl)
  alike_at None h = refl

pub alike : (room : ℕ) (c : Cursor) (cs : List Scope) (f f' : Focus) → ((t : Token) (p : ℕ) → ahead_of c ≡ some t → shift room cs t p f ≡ shift room cs t p f') → onward room (rest_of c) cs (λ _. at f) ≡ onward room (rest_of c) cs (λ _. at f')
alike room c cs f f' h = alike_at room (text_of c) (behind c) cs f f' c.ahead h

module _ (room : ℕ) (c : Cursor) (cs : List Scope) (σ : Next → Settled) where
  -- the parts that end before the token do so alike
  pub same : (σ' : Next → Settled) → σ (ahead_of c) ≡ σ' (ahead_of c) → onward room (rest_of c) cs σ ≡ onward room (rest_of c) cs σ'
  same σ' e = same_at room (text_of c) (behind c) cs σ σ' c.ahead e

  -- a type or a name does not fit
  pub misfits : (f : MeaningFault) → σ (ahead_of c) ≡ wrong f → onward room (rest_of c) cs σ ≡ refused (Causes.Meaning f) (place_of c)
  misfits f e = misfits_at room (text_of c) (behind c) cs σ f c.ahead e

  -- the token may not stand here, or the text ends
  pub strays : (f : Focus) → σ (ahead_of c) ≡ at f → ((t : Token) (p : ℕ) → ahead_of c ≡ some t → shift room cs t p f ≡ not_admitted) → onward room (rest_of c) cs σ ≡ refused (stray (ahead_of c)) (place_of c)
  strays f e h = strays_at room (text_of c) (behind c) cs σ f c.ahead e h

  module _ (t : Token) (f : Focus) (i : ahead_of c ≡ some t) (e : σ (some t) ≡ at f) where
    step : onward room (rest_of c) cs σ ≡ go_on (verdict room (behind c)) (place_of c) (behind c) (shift room cs t (place_of c) f)
    step = step_at room (text_of c) (behind c) cs σ t f c.ahead i e

    -- the judge refuses the token
    pub halts : (k : Cause) → shift room cs t (place_of c) f ≡ refuses k → onward room (rest_of c) cs σ ≡ refused k (place_of c)
    halts k h = step ∙ ap (go_on (verdict room (behind c)) (place_of c) (behind c)) h

    module _ (cs' : List Scope) (f' : Focus) (h : shift room cs t (place_of c) f ≡ on cs' f') where
      went : onward room (rest_of c) cs σ ≡ verdict room (behind c) (record { scopes = cs'; focus = f' })
      went = step ∙ ap (go_on (verdict room (behind c)) (place_of c) (behind c)) h

      -- it takes the token, and the next one is ahead
      pub takes : (d : Cursor) → rest_of d ≡ behind c → onward room (rest_of c) cs σ ≡ onward room (rest_of d) cs' (λ u. settle u f')
      takes d r = went ∙ ap (λ s. verdict room s (record { scopes = cs'; focus = f' })) (sym r) ∙ from_state room (rest_of d) cs' f'

      -- it takes the token, and reading breaks off behind it
      pub breaks_off : (g : Fault) → Breaks (behind c) g → onward room (rest_of c) cs σ ≡ refused g.cause g.place
      breaks_off g b = went ∙ broken room (behind c) cs' f' g b
