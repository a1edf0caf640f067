-- Each turn goes behind one attribute.
use Rattle.expression_syntax.specs.Attributes.{no_attribute}
use Rattle.expression_syntax.proofs.Steps.{no_attribute_step, attribute_step}
use Rattle.expression_syntax.proofs.reader.Reader.skip_attributes.Goals as goal

pub returns-then-not-accept : goal.returns-then-not-accept
returns-then-not-accept c = c.loop-attribute.invariant _ (no_attribute_step _ _ _ _ c.if-not-accept.true c.accept.ensures.moved)

pub loop-attribute-preserved : goal.loop-attribute-preserved
loop-attribute-preserved c =
    λ b h. c.loop-attribute.invariant b (attribute_step _ _ _ _ b _ c.accept.ensures.seen c.if-not-accept.false c.accept.ensures.moved c.in_ok-skip_attribute.ensures h)

pub returns : goal.returns
returns c = c.loop-attribute.invariant _ no_attribute
