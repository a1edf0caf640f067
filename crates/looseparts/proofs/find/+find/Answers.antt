-- What was found stands for all.
use Rattle.std.proofs.Common.{◌≡◌, true, [], ◌∷◌, refl, subst}
use Rattle.std.specs.Prelude.{Option, IfSome, slice_index_or}
use Rattle.std.specs.List.{Contains}
use Rattle.design.specs.Compiled.{design_of}
use Rattle.loose.specs.declared.transition.LooseTransition.{LooseTransition}
use Rattle.loose.specs.declared.transition.LooseTransition.TheVariants.{Process}
use Rattle.loose.specs.Classes.{class_in}
use Rattle.regions.specs.Machine.{state_at}
use Rattle.footprints.specs.Moves.{IsWaiting}
use Rattle.looseparts.specs.StandTogether.{concern, IsFollowedFirst}
use Rattle.looseparts.specs.FoundWays.{ways_in}
use Rattle.looseparts.specs.FirstSteps.{IsFirstStep}
use Rattle.looseparts.specs.FoundGroups.{FoundStandsForAll, IsFollowedBy, IsFoundFor, IsPart}
use Rattle.looseparts.specs.declared.found.FoundPart.{FoundPart}
use Rattle.looseparts.specs.declared.found.PartFindings.{PartFindings}
use Rattle.looseparts.proofs.Lists.{all_contained, all_seen}
use Rattle.looseparts.proofs.Waiters.{some_in}
use Rattle.looseparts.proofs.Groups.{followed_at, found_for, if_all, one_followed}
use Rattle.looseparts.proofs.find.+find.Goals as goal

pub follow_each-loop-actor-preserved : goal.follow_each-loop-actor-preserved
follow_each-loop-actor-preserved t c =
    let class = class_in c.args.classes.now in
    let m = c.args.machine.now in
    let group = c.args.group.now in
    let actor = slice_index_or group c.loop-actor.actor-index (Process 0) in
    one_followed class m.code (state_at m) group c.loop-actor.found c.in-Some.next c.add_next.new.found c.in_ok-add_next-in-Some.ensures group c.loop-actor.actor-index actor (Process 0) c.loop-actor-test.true refl c.loop-actor.invariant
    (subst (λ o. IfSome o (IsFollowedBy class m.code (state_at m) group actor)) c.in-Some.is c.in_ok-next.ensures)

pub follow_each-returns : goal.follow_each-returns
follow_each-returns t c =
    let class = class_in c.args.classes.now in
    let m = c.args.machine.now in
    let group = c.args.group.now in
    let found = c.loop-actor.found in
    if_all c.is_closed.result _ _
    (λ closed. found_for class m.code (state_at m) group found c.requires.order
    (all_seen (IsFollowedFirst class (design_of m.code) (state_at m) group (ways_in found.ways.items) (ways_in found.ends.items) found.notes.items) group c.loop-actor.actor-index c.loop-actor-test.false c.loop-actor.invariant)
    (subst (λ z. (a : LooseTransition) → IsWaiting class (state_at m) a → concern z a ≡ true → Contains group a) c.deref.ensures.value closed)
    (some_in group c.is_empty.result c.is_empty.ensures c.if-is_empty.false))
    c.is_closed.ensures

pub follow_one-returns-in_ok-found-in-Some-2 : goal.follow_one-returns-in_ok-found-in-Some-2
follow_one-returns-in_ok-found-in-Some-2 t c =
    let class = class_in c.args.classes.now in
    let m = c.args.machine.now in
    let step = c.in-Some.step in
    let new = step.machine.value in
    let behind = c.in-Some-2.behind in
    let first : IsFirstStep class m c.args.group.now c.args.actor step = subst (λ o. IfSome o (IsFirstStep class m c.args.group.now c.args.actor)) c.in-Some.is c.in_ok-step.ensures in
    followed_at class m new new c.deref.result.now c.args.group.now step.next.items c.deref-2.result.now c.args.actor step.note behind c.in_ok-found-in-Some-2.found first.taken first.code refl c.deref.ensures c.deref-2.ensures.value first.waiting
    (λ going. subst (λ o. IfSome o (IsFoundFor class c.deref.result.now.code (state_at c.deref.result.now) c.deref-2.result.now)) c.in-Some-2.is (c.in_ok-behind.ensures.going going))
    (λ ended. subst (λ (o : Option PartFindings). IfSome o (λ found. ways_in found.ends.items ≡ [] ∷ [])) c.in-Some-2.is (c.in_ok-behind.ensures.finished ended))
    c.in_ok-found-in-Some-2.ensures

pub part_of-loop-merged-preserved : goal.part_of-loop-merged-preserved
part_of-loop-merged-preserved t c =
    let class = class_in c.args.classes.now in
    let m = c.args.machine.now in
    all_contained (IsPart class m.code (state_at m)) c.part_apart.new.parts.items c.loop-merged.parts.items c.part_apart.ensures.parts c.loop-merged.invariant

pub part_of-returns-in-Some-2-clause-parts : goal.part_of-returns-in-Some-2-clause-parts
part_of-returns-in-Some-2-clause-parts t c =
    let class = class_in c.args.classes.now in
    let m = c.args.machine.now in
    all_contained (IsPart class m.code (state_at m)) c.part_apart.new.parts.items c.loop-merged.parts.items c.part_apart.ensures.parts c.loop-merged.invariant

pub part_of-returns-in-Some-2-clause-part : goal.part_of-returns-in-Some-2-clause-part
part_of-returns-in-Some-2-clause-part t c =
    let class = class_in c.args.classes.now in
    let m = c.args.machine.now in
    let is : IsFoundFor class m.code (state_at m) c.deref.result.now c.in-Some.found =
    subst (λ o. IfSome o (IsFoundFor class m.code (state_at m) c.deref.result.now)) c.in-Some.is c.in_ok-found.ensures in
    let part = subst (λ (o : Option FoundPart). IfSome o (λ p. FoundStandsForAll class m.code (state_at m) c.in-Some.found → IsPart class m.code (state_at m) p)) c.in-Some-2.is c.in_ok-part.ensures.part in
    part is.stand
