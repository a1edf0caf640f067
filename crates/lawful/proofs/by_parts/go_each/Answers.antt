-- One way more was taken.
use Rattle.std.proofs.Common.{◌≡◌, List, ◌∷◌, ◌++◌, sym, subst}
use Rattle.std.specs.List.{All}
use Rattle.std.specs.Global.{Vec}
use Rattle.std.specs.Vec.Iter.{into_iter_items}
use Rattle.std.proofs.lemmas.List.Elements.{All-push}
use Rattle.loose.specs.declared.transition.LooseTransition.{LooseTransition}
use Rattle.loose.specs.Classes.{class_in}
use Rattle.regions.specs.Machine.{MachineView, state_at}
use Rattle.explore.specs.declared.Successor.{Successor}
use Rattle.lawful.specs.declared.node.LooseNode.{LooseNode}
use Rattle.looseruns.specs.LooseCover.{loose_ways_to}
use Rattle.looseparts.specs.FoundWays.{ways_in}
use Rattle.lawful.specs.ByParts.{IsWayTaken, IsOnInTime}
use Rattle.lawful.proofs.ByParts.{one_more_way}
use Rattle.lawful.proofs.by_parts.go_each.Goals as goal

pub loop-way-preserved : goal.loop-way-preserved
loop-way-preserved c =
    let class = class_in c.args.classes.now in
    let m = c.args.machine.now in
    let way = c.in-Some.way in
    let one = c.in_ok-successor.successor in
    let before = c.loop-way.successors.items in
    let rest = into_iter_items c.next.new.self in
    let all = ways_in c.args.ways.items in
    let taken : IsWayTaken class m.code (state_at m) way.items one = subst (λ (p : MachineView). IsWayTaken class p.code (state_at p) way.items one) c.in_ok-copy.ensures c.in_ok-successor.ensures in
    let same : loose_ways_to before ++ ways_in (way ∷ rest) ≡ all = subst (λ (l : List (Vec LooseTransition)). loose_ways_to before ++ ways_in l ≡ all) c.in-Some.ensures.steps.0 c.loop-way.invariant.ways_are in
    let more = c.in_ok-push.ensures.items in
    record {
      ways_are = subst (λ (l : List (Successor LooseNode LooseTransition)). loose_ways_to l ++ ways_in rest ≡ all) (sym more) (one_more_way (λ (next : Successor LooseNode LooseTransition). next.moves.items) all before one way.items (ways_in rest) taken.0 same);
      on = subst (All (IsOnInTime class m.code (state_at m))) (sym more) (All-push (IsOnInTime class m.code (state_at m)) before one c.loop-way.invariant.on taken.1);
    }
