-- The same way, and what is seen at its end.
use Rattle.std.proofs.Common.{◌≡◌, ◌≢◌, [], List, refl, subst}
use Rattle.std.specs.List.{All}
use Rattle.model.specs.declared.end.Why.TheVariants.{Finish}
use Rattle.model.specs.declared.end.End.TheVariants.{Stopped}
use Rattle.loose.specs.declared.transition.LooseTransition.{LooseTransition}
use Rattle.looseruns.specs.ObservedMoves.{StaysInTime}
use Rattle.lawful.proofs.observed_ways.SeenFromWayTelling.tell_end.Goals as goal

pub returns : goal.returns
returns c =
    let sight = c.in_ok-sight.sight.items in
    let here = subst (λ (l : List LooseTransition). c.args.ended.end ≢ Stopped Finish → (l ≡ []) × (sight ≡ c.args.self.now.seen.now)) c.deref-2.ensures.value c.in_ok-sight.ensures.here in
    record {
      moves_are = refl;
      printed_is = refl;
      stay = subst (All StaysInTime) c.deref.ensures.value (c.stay_in_time.ensures c.if-not-stay_in_time.false);
      end_is = refl;
      finished = c.in_ok-sight.ensures.finished;
      here = here;
    }
