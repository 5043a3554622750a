-- How the judge comes on, from token to token of a command.
use Rattle.std.proofs.Common.{◌≡◌, ℕ, pred, ◌+◌, List, length, Ok, Err, Result, sym, refl, ap, ◌∙◌}
use mathlib.Core.Option.{some}
use Rattle.model.specs.declared.script.Ty.{Ty}
use Rattle.model.specs.declared.faults.Fault.{Fault}
use Rattle.model.specs.declared.faults.Cause.{Cause}
use Rattle.model.specs.declared.faults.Cause.TheVariants as Causes
use Rattle.model.specs.declared.faults.MeaningFault.{MeaningFault}
use Rattle.model.specs.declared.table.Entry.{Entry}
use Rattle.model.specs.Tokens.{Token}
use Rattle.model.specs.Contexts.{CommandIn, ExpressionIn, levels_of_expression, Focus, want_simple, left_of}
use Rattle.model.specs.Settling.{at, wrong, settle, settle_expression}
use Rattle.model.specs.Judged.{on, refuses, not_admitted}
use Rattle.model.specs.Judge.{shift, refused}
use Rattle.cursor.specs.declared.Cursor.{Cursor}
use Rattle.cursor.specs.Rests.{rest_of, behind, ahead_of, place_of, Breaks, stray}
use Rattle.cursor.proofs.Judging as Judging
use Rattle.expressions.specs.Parts.{expression, whole}
use Rattle.expressions.specs.declared.Translation.{Translation}
use Rattle.expressions.specs.Says.{Here, scopes_at, Reached, Refuses}
use Rattle.commands.specs.Runs.{Deep, Start, Comes, Halts, Runs}

-- a fault, told as it is
told : (f : Fault) (q : Cause) (p : ℕ) → f.cause ≡ q → f.place ≡ p → refused q p ≡ refused f.cause f.place
told f q p c e = ap (λ w. refused w p) (sym c) ∙ ap (refused f.cause) (sym e)

pub begun : (start : Start) (a : Here) → Comes start a start a.from.cursor.now
begun start a = record { path = λ room k deep. refl }

module _ {start : Start} {a : Here} {σ : Start} {c : Cursor} (x : Comes start a σ c) where
  -- the parts that end before the token do so alike
  pub then_same : (σ' : Start) → ((k : CommandIn) → σ k (ahead_of c) ≡ σ' k (ahead_of c)) → Comes start a σ' c
  then_same σ' h = record { path = λ room k deep. x.path room k deep ∙ Judging.same room c (scopes_at a) (σ k) (σ' k) (h k) }

  -- a type or a name does not fit
  pub then_misfits : (q : MeaningFault) → ((k : CommandIn) → σ k (ahead_of c) ≡ wrong q) → (f : Fault) → f.cause ≡ Causes.Meaning q → f.place ≡ place_of c → Halts start a f
  then_misfits q h f e p =
      record { refuses = λ room k deep. x.path room k deep ∙ Judging.misfits room c (scopes_at a) (σ k) q (h k) ∙ told f (Causes.Meaning q) (place_of c) e p }

  -- the token may not stand here, or the text ends
  pub then_strays : (f : CommandIn → Focus) → ((k : CommandIn) → σ k (ahead_of c) ≡ at (f k)) → ((room : ℕ) (k : CommandIn) (t : Token) (p : ℕ) → ahead_of c ≡ some t → shift room (scopes_at a) t p (f k) ≡ not_admitted) →
      (g : Fault) → g.cause ≡ stray (ahead_of c) → g.place ≡ place_of c → Halts start a g
  then_strays f h s g e p =
      record { refuses = λ room k deep. x.path room k deep ∙ Judging.strays room c (scopes_at a) (σ k) (f k) (h k) (s room k) ∙ told g (stray (ahead_of c)) (place_of c) e p }

  module _ (t : Token) (i : ahead_of c ≡ some t) (f : CommandIn → Focus) (h : (k : CommandIn) → σ k (some t) ≡ at (f k)) where
    -- the token is refused
    pub then_halts : (q : Cause) → ((room : ℕ) (k : CommandIn) → shift room (scopes_at a) t (place_of c) (f k) ≡ refuses q) → (g : Fault) → g.cause ≡ q → g.place ≡ place_of c → Halts start a g
    then_halts q s g e p =
        record { refuses = λ room k deep. x.path room k deep ∙ Judging.halts room c (scopes_at a) (σ k) t (f k) i (h k) q (s room k) ∙ told g q (place_of c) e p }

    module _ (f' : CommandIn → Focus) (s : (room : ℕ) (k : CommandIn) → shift room (scopes_at a) t (place_of c) (f k) ≡ on (scopes_at a) (f' k)) where
      -- it is taken
      pub then_takes : (d : Cursor) → rest_of d ≡ behind c → Comes start a (λ k u. settle u (f' k)) d
      then_takes d r = record { path = λ room k deep. x.path room k deep ∙ Judging.takes room c (scopes_at a) (σ k) t (f k) i (h k) (scopes_at a) (f' k) (s room k) d r }

      -- it is taken, and reading breaks off behind it
      pub then_breaks : (g : Fault) → Breaks (behind c) g → Halts start a g
      then_breaks g b = record { refuses = λ room k deep. x.path room k deep ∙ Judging.breaks_off room c (scopes_at a) (σ k) t (f k) i (h k) (scopes_at a) (f' k) (s room k) g b }

-- an expression is due
module _ {start : Start} {a : Here} (c : Translation) (frame : CommandIn → ExpressionIn) (x : Comes start a (λ k u. at (want_simple (left_of (frame k)))) c.cursor.now) (es : List Entry) (n : ℕ)
    (deep : (k : CommandIn) → Deep a k → pred (length (scopes_at a)) + levels_of_expression (frame k) ≡ n) where
  abbrev pub inside : Here
  inside = record { from = c; levels = a.levels; entries = es; depth = n }

  pub then_expression : (y : Ty) (d : Translation) (z : Reached expression (whole expression) inside y d) → Comes start a (λ k u. settle_expression u z.exp y (frame k)) d.cursor.now
  then_expression y d z = record { path = λ room k h. x.path room k h ∙ z.moves room (frame k) (deep k h) }

  pub then_refused : (f : Fault) → Refuses expression inside f → Halts start a f
  then_refused f z = record { refuses = λ room k h. x.path room k h ∙ z.refuses room (frame k) (deep k h) }

-- ── one translation behind another ──────────────────────────────────────────────────────────

-- a start that the token ahead makes the same
pub from_start : (start start' : Start) (a : Here) → ((k : CommandIn) → start k (ahead_of a.from.cursor.now) ≡ start' k (ahead_of a.from.cursor.now)) → (c : Translation) (r : Result (Unit {0}) Fault) → Runs start' a c r → Runs start a c r
from_start start start' a h c (Ok u) x =
    record { cmd = x.cmd; lists = x.lists; comes = record { path = λ room k deep. Judging.same room a.from.cursor.now (scopes_at a) (start k) (start' k) (h k) ∙ x.comes.path room k deep } }
from_start start start' a h c (Err f) x =
    record { refuses = λ room k deep. Judging.same room a.from.cursor.now (scopes_at a) (start k) (start' k) (h k) ∙ x.refuses room k deep }

module _ {start : Start} {a : Here} {σ : Start} (b : Translation) (x : Comes start a σ b.cursor.now) where
  -- what is translated from where the judge has come to
  pub continue : (c : Translation) (r : Result (Unit {0}) Fault) → Runs σ (record { from = b; levels = a.levels; entries = a.entries; depth = a.depth }) c r → Runs start a c r
  continue c (Ok u) y = record { cmd = y.cmd; lists = y.lists; comes = record { path = λ room k deep. x.path room k deep ∙ y.comes.path room k deep } }
  continue c (Err f) y = record { refuses = λ room k deep. x.path room k deep ∙ y.refuses room k deep }

  -- what is refused from where the judge has come to
  pub then_halted : (f : Fault) → Halts σ (record { from = b; levels = a.levels; entries = a.entries; depth = a.depth }) f → Halts start a f
  then_halted f y = record { refuses = λ room k deep. x.path room k deep ∙ y.refuses room k deep }

  pub then_comes : (σ' : Start) (c : Cursor) → Comes σ (record { from = b; levels = a.levels; entries = a.entries; depth = a.depth }) σ' c → Comes start a σ' c
  then_comes σ' c y = record { path = λ room k deep. x.path room k deep ∙ y.path room k deep }
