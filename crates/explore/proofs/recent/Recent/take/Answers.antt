-- The last node is the one that was taken.
use Rattle.std.proofs.Common.{List, refl, sym, subst}
use Rattle.std.specs.List.{Any}
use Rattle.std.proofs.lemmas.List.Quantifiers.{Any-push}
use Rattle.explore.specs.Placed.{IsNodeAt}
use Rattle.explore.specs.declared.recent.Placed.{Placed}
use Rattle.explore.proofs.recent.Recent.take.Goals as goal

pub returns-then-at-number-clause-node : goal.returns-then-at-number-clause-node
returns-then-at-number-clause-node g c = subst (λ (l : List (Placed g.row.N.Denot)). Any (IsNodeAt c.args.number c.in-Some.placed.node) l) (sym c.in-Some.ensures.items)
    (Any-push (IsNodeAt c.args.number c.in-Some.placed.node) c.pop_back.new.self.items c.in-Some.placed (c.if-at-number.true, refl))
