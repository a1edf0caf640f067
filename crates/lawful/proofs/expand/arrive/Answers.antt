-- One successor alone.
use Rattle.std.proofs.Common.{[], ◌∷◌, ◌++◌, ap, ◌∙◌, List}
use Rattle.loose.specs.declared.transition.LooseTransition.{LooseTransition}
use Rattle.explore.specs.declared.Successor.{Successor}
use Rattle.lawful.specs.declared.node.LooseNode.{LooseNode}
use Rattle.lawful.proofs.expand.arrive.Goals as goal

pub returns-clause-one : goal.returns-clause-one
returns-clause-one c = (
  c.next_of-next.result,
  c.in_ok-push.ensures.items ∙ ap (λ (l : List (Successor LooseNode LooseTransition)). l ++ c.next_of-next.result ∷ []) c.new-successors.ensures.items,
  ap (λ v. v.items) c.next_of-next.ensures.moves,
  c.next_of-next.ensures.printed,
  c.next_of-next.ensures.ready,
  c.next_of-next.ensures.state,
)
