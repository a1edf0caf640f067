-- What are attributes from here on are attributes from their beginning on.
use Rattle.std.proofs.Common.{ℕ}
use Rattle.expression_syntax.specs.Attributes.{AreAttributes}
use Rattle.expression_syntax.proofs.reader.Reader.skip_attributes.Given as goal

abbrev pub invariant-loop-attribute : goal.invariant-loop-attribute
invariant-loop-attribute l = (b : ℕ) → AreAttributes l.source l.self.place b → AreAttributes l.source l.fn.self.place b
