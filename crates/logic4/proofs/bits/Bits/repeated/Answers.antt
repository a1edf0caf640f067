use Rattle.std.proofs.Common.{◌∙◌, sym, ap, replicate}
use Rattle.logic4.specs.VectorWords.{of_words}
use Rattle.logic4.proofs.Words.{of_words-zeros, of_words-ones}
use Rattle.logic4.proofs.Extended.{of_words-first, of_words-second}
use Rattle.logic4.proofs.bits.Bits.repeated.Goals as goal

pub returns-in-Zero-clause-value : goal.returns-in-Zero-clause-value
returns-in-Zero-clause-value c = of_words-zeros c.args.width ∙ sym (ap (replicate c.args.width) c.in-Zero.is)

pub returns-in-One-clause-value : goal.returns-in-One-clause-value
returns-in-One-clause-value c = of_words-first c.args.width _ c.mask-all.ensures ∙ sym (ap (replicate c.args.width) c.in-One.is)

pub returns-in-X-clause-value : goal.returns-in-X-clause-value
returns-in-X-clause-value c =
    (λ k. of_words c.args.width (c.mask-all.ensures k) (c.mask-all.ensures k)) ∙ of_words-ones c.args.width ∙ sym (ap (replicate c.args.width) c.in-X.is)

pub returns-in-Z-clause-value : goal.returns-in-Z-clause-value
returns-in-Z-clause-value c = of_words-second c.args.width _ c.mask-all.ensures ∙ sym (ap (replicate c.args.width) c.in-Z.is)
