-- One byte more is one line more, or one column.
use Rattle.std.proofs.Common.{◌≡◌, suc, ◌<◌, length, min, take, get_or, ap, ◌∙◌, sym, arith, rules}
use Rattle.std.proofs.lemmas.List.{take_min, length-take, get_or-take}
use Rattle.report.specs.Positions.{newlines, since_newline}
use Rattle.report.proofs.Lines.{newlines_within, since_within, newline_here, no_newline_here, since_here, since_on}
use Rattle.report.proofs.positions.locate.Goals as goal
use Rattle.report.proofs.positions.locate.Goals.{then-byte-eq10, else-byte-eq10}

pub overflow_add-line : goal.overflow_add-line
overflow_add-line c = let few = newlines_within c.args.text.now c.loop-byte.byte-index in let is = c.loop-byte.invariant.0 in search rules

pub overflow_add-column : goal.overflow_add-column
overflow_add-column c = let few = since_within c.args.text.now c.loop-byte.byte-index in let is = c.loop-byte.invariant.1 in search rules

pub loop-byte-preserved : goal.loop-byte-preserved
loop-byte-preserved c =
    let text = c.args.text.now in
    let i = c.loop-byte.byte-index in
    let was = c.loop-byte.invariant in
    let long = length-take c.min.result text in
    let there : i < length text = omega (arith, c.min.ensures, long, c.loop-byte-test.true) in
    let byte : get_or (take c.min.result text) i 0 ≡ get_or text i 0 = get_or-take c.min.result text i 0 (omega (arith, long, c.loop-byte-test.true)) in
    elim c.if-byte-eq10.branch [
      | then-byte-eq10 w ↦
          let is : get_or text i 0 ≡ 10 = sym byte ∙ w.if-byte-eq10.true in
          (omega (arith, w.line-is, was.0, newline_here text i there is), omega (arith, w.column-is, since_here text i there is))
      | else-byte-eq10 w ↦
          let not : get_or text i 0 ≡ 10 → ⊥ = λ e. w.if-byte-eq10.false (byte ∙ e) in
          (omega (arith, w.line-is, was.0, no_newline_here text i there not), omega (arith, w.column-is, was.1, since_on text i there not))
    ]

pub returns : goal.returns
returns c =
    let text = c.args.text.now in
    let long = length-take c.min.result text in
    let end : c.loop-byte.byte-index ≡ min c.args.place (length text) = omega (arith, long, c.min.ensures, c.loop-byte.auto.byte-index-end, c.loop-byte-test.false) in
    let all : take c.loop-byte.byte-index text ≡ take c.args.place text = ap (λ n. take n text) end ∙ take_min c.args.place text in
    record {
      line = c.loop-byte.invariant.0 ∙ ap (λ l. suc (newlines l)) all;
      column = c.loop-byte.invariant.1 ∙ ap (λ l. suc (since_newline 0 l)) all;
    }
