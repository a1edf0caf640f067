-- The first entries are told.
use Rattle.explain.specs.Sent.{IsToldTo}
use Rattle.explain.proofs.telling.explain_all.Given as goal

abbrev pub invariant-loop-at : goal.invariant-loop-at
invariant-loop-at g l =
    IsToldTo l.telling l.entries l.at l.explainer (g.W.Write.contents l.fn.out) (g.W.Write.contents l.out) l.text.items
