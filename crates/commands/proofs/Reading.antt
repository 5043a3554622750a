-- What is said of a translation is said of the values that it reads.
use Rattle.std.proofs.Common.{◌≡◌, ℕ, List, Ok, Err, Result, subst}
use Rattle.model.specs.declared.faults.Fault.{Fault}
use Rattle.model.specs.declared.table.Entry.{Entry}
use Rattle.cursor.specs.declared.Cursor.{Cursor}
use Rattle.listing.specs.declared.Listing.{Listing}
use Rattle.scopes.specs.Levels.{Level}
use Rattle.expressions.specs.declared.Translation.{Translation}
use Rattle.expressions.specs.Says.{here, Stands}
use Rattle.expressions.specs.Apart.{apart}
use Rattle.commands.specs.Runs.{Start, Test, Runs, TestIn}

module _ (b c : Translation) (n : ℕ) (os : List Level) (es : List Entry) where
  pub stands_of : Stands (here (apart b.names.now b.cursor.now b.listing.now) n os es) → Stands (here b n os es)
  stands_of s = record { fine = s.fine; short = s.short; holds = s.holds; calm = s.calm; lists = s.lists }

  runs_now : (start : Start) (r : Result (Unit {0}) Fault) → Runs start (here b n os es) c r →
      Runs start (here (apart b.names.now b.cursor.now b.listing.now) n os es) (apart b.names.now c.cursor.now c.listing.now) r
  runs_now start (Ok u) x = record { cmd = x.cmd; lists = x.lists; comes = record { path = x.comes.path } }
  runs_now start (Err f) x = record { refuses = x.refuses }

  pub runs_apart : (start : Start) (r : Result (Unit {0}) Fault) (m : Cursor) (l : Listing) → c.cursor.now ≡ m → c.listing.now ≡ l → Runs start (here b n os es) c r →
      Runs start (here (apart b.names.now b.cursor.now b.listing.now) n os es) (apart b.names.now m l) r
  runs_apart start r m l h g x =
      let a = here (apart b.names.now b.cursor.now b.listing.now) n os es in
      subst (λ i. Runs start a (apart b.names.now i l) r) h (subst (λ i. Runs start a (apart b.names.now c.cursor.now i) r) g (runs_now start r x))

  tests_now : (w : Test) (p : ℕ) (r : Result (Unit {0}) Fault) → TestIn w p (here b n os es) c r →
      TestIn w p (here (apart b.names.now b.cursor.now b.listing.now) n os es) (apart b.names.now c.cursor.now c.listing.now) r
  tests_now w p (Ok u) x = record { exp = x.exp; lists = x.lists; comes = record { path = x.comes.path } }
  tests_now w p (Err f) x = record { refuses = x.refuses }

  pub tests_apart : (w : Test) (p : ℕ) (r : Result (Unit {0}) Fault) (m : Cursor) (l : Listing) → c.cursor.now ≡ m → c.listing.now ≡ l → TestIn w p (here b n os es) c r →
      TestIn w p (here (apart b.names.now b.cursor.now b.listing.now) n os es) (apart b.names.now m l) r
  tests_apart w p r m l h g x =
      let a = here (apart b.names.now b.cursor.now b.listing.now) n os es in
      subst (λ i. TestIn w p a (apart b.names.now i l) r) h (subst (λ i. TestIn w p a (apart b.names.now c.cursor.now i) r) g (tests_now w p r x))
