-- A comment goes on over every byte but a closing brace.
use Rattle.std.proofs.Common.{refl, ◌∙◌, arith}
use Rattle.reader.proofs.Skipping.{comment_on, comment_end, comment_out}
use Rattle.reader.proofs.gaps.closed.Goals as goal

pub loop-at-init : goal.loop-at-init
loop-at-init c = λ o. refl

pub loop-at-preserved : goal.loop-at-preserved
loop-at-preserved c = λ o. c.loop-at.invariant o ∙ comment_on c.args.text.now c.loop-at.at (omega arith) o c.if-text-at-eq125.false

pub returns-then-text-at-eq125 : goal.returns-then-text-at-eq125
returns-then-text-at-eq125 c = record {
  within = (omega arith, omega arith);
  closes = λ o. c.loop-at.invariant o ∙ comment_end c.args.text.now c.loop-at.at (omega arith) o c.if-text-at-eq125.true;
}

pub returns : goal.returns
returns c = record { within = tt; closes = λ o. c.loop-at.invariant o ∙ comment_out c.args.text.now c.loop-at.at o (omega arith) }
