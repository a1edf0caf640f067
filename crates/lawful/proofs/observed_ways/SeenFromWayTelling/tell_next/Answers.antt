-- What is told of the way stands for its lines.
use Rattle.std.proofs.Common.{◌≡◌, ◌++◌, List, refl, subst}
use Rattle.loose.specs.declared.transition.LooseTransition.{LooseTransition}
use Rattle.looseruns.specs.ObservedMoves.{PassesTimeFirst, seen_first}
use Rattle.lawful.proofs.observed_ways.SeenFromWayTelling.tell_next.Goals as goal

pub returns : goal.returns
returns c =
    let told = c.in_ok-told.told.items in
    record {
      node_is = refl;
      moves_are = refl;
      first = subst PassesTimeFirst c.deref.ensures.value c.in_ok-told.ensures.first;
      told = λ observe s same. subst (λ (l : List LooseTransition). told ≡ seen_first observe s l ++ c.args.next.printed.items) c.deref.ensures.value (c.in_ok-told.ensures.told observe s same);
    }
