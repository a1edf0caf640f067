-- A word that is none of those, and doesn't begin as the last of them.
use Rattle.std.proofs.Common.{◌∙◌, sym, codes}
use Rattle.arguments.proofs.ObservedWords.{other_word, unobserved}
use Rattle.arguments.proofs.observed.observed_by.Goals as goal

pub returns-clause-none : goal.returns-clause-none
returns-clause-none c = λ none other observes.
    unobserved c.args.text.now (other_word c.args.text.now (codes "lines") (sym c.eq.ensures ∙ c.if-eq.false)) (other_word c.args.text.now (codes "lines-at-times") (sym c.eq-2.ensures ∙ c.if-eq-2.false))
    (other_word c.args.text.now (codes "registers") (sym c.eq-3.ensures ∙ c.if-eq-3.false)) (c.named_by.ensures.none none) other observes
