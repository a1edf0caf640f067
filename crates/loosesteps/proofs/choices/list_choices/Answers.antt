-- The transitions of the active events, and the change that is due.
use Rattle.std.proofs.Common.{◌≡◌, ◌≢◌, ◌↔◌, List, [], ◌++◌, map, false, sym, ap, ◌∙◌, subst}
use Rattle.std.specs.List.{AllPairs, Contains}
use Rattle.loose.specs.declared.transition.LooseTransition.{LooseTransition}
use Rattle.regions.specs.Queue.{Core, update_event, evaluation_event}
use Rattle.regions.specs.Machine.{state_at}
use Rattle.loose.specs.Classes.{class_in}
use Rattle.loosesteps.specs.Choices.{AreGathered, update_transition}
use Rattle.loosesteps.specs.LooselyTaken.{MayBeTaken}
use Rattle.loosesteps.proofs.ChoiceLaws.{AreChoices, choices_gathered, choices_permitted, choices_once}
use Rattle.loosesteps.proofs.choices.list_choices.Goals.{In_ok-add_change}
use Rattle.loosesteps.proofs.choices.list_choices.Goals as goal

choices : (c : In_ok-add_change) → AreChoices (class_in c.args.classes.now) c.active.result.0.now.items c.active.result.1.now.items c.add_evaluations.new.choices.items
choices c =
    let class = class_in c.args.classes.now in
    let us = c.active.result.0.now.items in
    let first : AreGathered [] (map (update_transition class) us) c.add_updates.new.choices.items =
    subst (λ (old : List LooseTransition). AreGathered old (map (update_transition class) us) c.add_updates.new.choices.items) c.clear.ensures.items c.in_ok-add_updates.ensures in
    choices_gathered class us c.active.result.1.now.items c.add_updates.new.choices.items c.add_evaluations.new.choices.items first c.in_ok-add_evaluations.ensures

pub returns-clause-permitted : goal.returns-clause-permitted
returns-clause-permitted c =
    let class = class_in c.args.classes.now in
    let us = c.active.result.0.now.items in
    let es = c.active.result.1.now.items in
    let s = state_at c.args.machine.now in
    let all : map update_event us ++ map evaluation_event es ≡ c.args.machine.now.core.active = c.active.ensures ∙ ap (λ (core : Core). core.active) c.state.ensures in
    let going : c.args.machine.now.core.finished ≡ false = sym c.is_finished.ensures ∙ c.if-is_finished.false in
    subst (λ (items : List LooseTransition). (t : LooseTransition) → Contains items t ↔ MayBeTaken class s t) (sym c.in_ok-add_change.ensures)
    (choices_permitted class us es s c.add_evaluations.new.choices.items c.due.result (choices c) all going c.requires c.due.ensures)

pub returns-clause-once : goal.returns-clause-once
returns-clause-once c =
    subst (λ (items : List LooseTransition). AllPairs ◌≢◌ items) (sym c.in_ok-add_change.ensures)
    (choices_once (class_in c.args.classes.now) c.active.result.0.now.items c.active.result.1.now.items c.add_evaluations.new.choices.items c.due.result (choices c))
