-- Each turn takes one token of the attribute.
use Rattle.expression_syntax.proofs.Steps.{inside_step, closed_step}
use Rattle.expression_syntax.proofs.reader.Reader.skip_attribute.Goals as goal

pub returns-then-accept : goal.returns-then-accept
returns-then-accept c = c.loop-token.invariant _ (closed_step _ _ _ _ c.accept.ensures.seen c.if-accept.true c.accept.ensures.moved)

pub loop-token-preserved : goal.loop-token-preserved
loop-token-preserved c =
    λ b h. c.loop-token.invariant b (inside_step _ _ _ _ b _ c.accept.ensures.seen c.if-accept.false c.accept.ensures.moved c.take.ensures.moved h)
