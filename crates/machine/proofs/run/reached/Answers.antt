-- A table that is not too long is reached whole.
use Rattle.std.proofs.Common.{◌≡◌, ℕ, ◌-◌, List, take, Some, None, Option, sym, ap, ◌∙◌, arith}
use Rattle.std.proofs.lemmas.List.{take_all}
use Rattle.std.specs.Borrow.{Bor}
use Rattle.std.specs.Prelude.{unwrap_or}
use Rattle.std.specs.Slice.{IsGetRangeResult}
use Rattle.model.specs.declared.table.Entry.{Entry}
use Rattle.machine.proofs.run.reached.Goals as goal

front : (es : Bor (List Entry)) (n : ℕ) (r : Option (Bor (List Entry))) → IsGetRangeResult es.now 0 n r → (unwrap_or r es).now ≡ take n es.now
front es n (Some x) h = let whole : n - 0 ≡ n = omega arith in h.0.2 ∙ ap (λ k. take k es.now) whole
front es n None h = sym (take_all n es.now (omega (arith, h.0)))

pub returns-clause-all : goal.returns-clause-all
returns-clause-all c = ap (λ b. b.now) c.unwrap_or.ensures ∙ front c.args.table 2147483647 c.get.result c.get.ensures.lookup
