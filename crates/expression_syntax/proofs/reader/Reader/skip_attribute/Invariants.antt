-- What is the rest of an attribute from here on is one from its beginning on.
use Rattle.std.proofs.Common.{ℕ}
use Rattle.expression_syntax.specs.Attributes.{IsAttributeRest}
use Rattle.expression_syntax.proofs.reader.Reader.skip_attribute.Given as goal

abbrev pub invariant-loop-token : goal.invariant-loop-token
invariant-loop-token l = (b : ℕ) → IsAttributeRest l.source l.self.place b → IsAttributeRest l.source l.fn.self.place b
