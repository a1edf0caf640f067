-- Each update's transition is added.
use Rattle.std.proofs.Common.{◌≡◌, Bor, List, map, ap, subst}
use Rattle.std.proofs.lemmas.Iterator.Consumers.{YieldsList-from_deque, YieldsList-end}
use Rattle.loose.specs.declared.transition.LooseTransition.TheVariants.{FirstOf}
use Rattle.regions.specs.declared.queue.Update.{Update}
use Rattle.loose.specs.Classes.{class_in}
use Rattle.loosesteps.specs.Choices.{AreGathered, update_transition}
use Rattle.loosesteps.proofs.Gathering.{gathered_next}
use Rattle.loosesteps.proofs.choices.add_updates.Goals as goal

pub loop-update-preserved : goal.loop-update-preserved
loop-update-preserved c =
    gathered_next (λ (u : Bor Update). u.now) (update_transition (class_in c.args.classes.now)) c.args.choices.now.items c.loop-update.choices.items c.add_once.new.choices.items c.loop-update.yielded c.in-Some.update (FirstOf c.class_of.result)
    (ap FirstOf c.class_of.ensures) c.loop-update.invariant c.in_ok-add_once.ensures

pub returns : goal.returns
returns c =
    let all : map (λ (u : Bor Update). u.now) c.loop-update.yielded ≡ c.args.updates.now.items =
    (YieldsList-end (YieldsList-from_deque c.args.updates.now.items cc) c.loop-update.yielded _ c.loop-update.yielded_by _ _ c.in-None.is c.next.ensures.steps).0 in
    subst (λ (us : List Update). AreGathered c.args.choices.now.items (map (update_transition (class_in c.args.classes.now)) us) c.loop-update.choices.items) all c.loop-update.invariant
