-- The place that the search answers.
use Rattle.std.proofs.Common.{ap, ◌∙◌, rules, tests}
use Rattle.std.specs.Prelude.{◌==◌}
use Rattle.std.proofs.lemmas.Iterator.Consumers.{YieldsList-from_deque}
use Rattle.std.proofs.lemmas.Iterator.Search.{position_from_yields_List}
use Rattle.regions.specs.declared.queue.Update.{Update}
use Rattle.regions.specs.Queue.{Core}
use Rattle.loose.specs.Classes.{class_in}
use Rattle.loosesteps.proofs.FirstOfKind.{first_placed, first_within}
use Rattle.loosesteps.proofs.steps.first_of_class.Goals as goal

pub returns-clause-first : goal.returns-clause-first
returns-clause-first c =
    let us = c.active.result.0.now.items in
    first_placed (class_in c.args.classes.now) c.args.class c.position.result us c.active.result.1.now.items c.args.machine.now.core.active
    (position_from_yields_List (λ (u : Update). class_in c.args.classes.now u.register == c.args.class) _ _ _ c.position.ensures.ran (YieldsList-from_deque us c.iter.ensures.rest) (λ x b q k. search (rules, tests)))
    (c.active.ensures ∙ ap (λ (core : Core). core.active) c.state.ensures)

pub returns-clause-place : goal.returns-clause-place
returns-clause-place c =
    let us = c.active.result.0.now.items in
    first_within (class_in c.args.classes.now) c.args.class c.position.result us c.active.result.1.now.items c.args.machine.now.core.active
    (position_from_yields_List (λ (u : Update). class_in c.args.classes.now u.register == c.args.class) _ _ _ c.position.ensures.ran (YieldsList-from_deque us c.iter.ensures.rest) (λ x b q k. search (rules, tests)))
    (c.active.ensures ∙ ap (λ (core : Core). core.active) c.state.ensures)
