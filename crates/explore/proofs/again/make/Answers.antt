-- The node stands where some node stood.
use Rattle.std.proofs.Common.{◌≡◌, ◌++◌, ◌-◌, ◌<◌, ◌∙◌, List, [], get_or, refl, sym, ap, subst, Option, Vec, Global, arith}
use Rattle.std.specs.Prelude.{IfSome}
use Rattle.std.specs.VecDeque.{deque_len}
use Rattle.explore.specs.Lineage.{ways}
use Rattle.explore.specs.Placed.{IsPlaced}
use Rattle.explore.proofs.Places.{again_stands, ok_map}
use Rattle.explore.proofs.again.make.Goals as goal

pub returns-in-Some-further : goal.returns-in-Some-further
returns-in-Some-further g c =
    let runs = g.O.Orders.runs c.args.scope.orders.now in
    let all = ways c.args.lineage.now in
    let from = c.in-Some.checkpoint.now in
    let run = get_or all from.number [] in
    let q = c.args.checkpoints.now.nodes in
    let some : 0 < deque_len q = c.in-Some.ensures.variant.0 refl in
    let near : IsPlaced runs all from = subst (IsPlaced runs all) (sym c.in-Some.ensures.lookup) (c.requires.checkpoints (deque_len q - 1) from (omega (arith, some, q.ok.0))) in
    let told : get_or all c.args.number [] ≡ run ++ c.in-Some-further.moves.items = subst (λ (o : Option (Vec g.row.O-Move.Denot Global)). IfSome o (λ moves. get_or all c.args.number [] ≡ run ++ moves.items)) c.in-Some-further.is c.in_ok-further.ensures in
    ok_map _ _ c.again.result
    (λ node made. again_stands runs all c.args.number run c.deref.result.now from.node node
    c.requires.reached.within c.requires.reached.stood (told ∙ ap (λ (l : List g.row.O-Move.Denot). run ++ l) (sym c.deref.ensures.value)) near.stands made) c.again.ensures
