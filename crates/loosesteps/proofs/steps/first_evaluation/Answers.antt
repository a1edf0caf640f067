-- The first evaluation of the process that is found.
use Rattle.std.proofs.Common.{◌≡◌, Bor, Option, Some, None, ◌++◌, map, sym, ap, ◌∙◌, rules, tests}
use Rattle.std.specs.Prelude.{◌==◌, find}
use Rattle.std.specs.Option.{option_map}
use Rattle.std.proofs.lemmas.Iterator.Consumers.{YieldsList-from_deque}
use Rattle.std.proofs.lemmas.Iterator.Search.{find_from_yields_List}
use Rattle.regions.specs.declared.queue.Evaluation.{Evaluation}
use Rattle.regions.specs.Queue.{update_event, evaluation_event, Core}
use Rattle.loosesteps.proofs.FirstOfKind.{none_evaluates, found_evaluates}
use Rattle.loosesteps.proofs.steps.first_evaluation.Goals as goal

pub returns-in_err-first : goal.returns-in_err-first
returns-in_err-first c =
    let us = c.active.result.0.now.items in
    let es = c.active.result.1.now.items in
    let found = find_from_yields_List (λ (e : Evaluation). e.process == c.args.process) _ _ c.find.result c.find.ensures.ran (YieldsList-from_deque es c.iter.ensures.rest) (λ x b q k. search (rules, tests)) in
    let none : find (λ (e : Evaluation). e.process == c.args.process) es ≡ None = sym found ∙ ap (λ (o : Option (Bor Evaluation)). option_map (λ (e : Bor Evaluation). e.now) o) c.in_err-first.was in
    let all : map update_event us ++ map evaluation_event es ≡ c.args.machine.now.core.active = c.active.ensures ∙ ap (λ (core : Core). core.active) c.state.ensures in
    rw c.from_residual.ensures (none_evaluates c.args.process us es c.args.machine.now.core.active none all)

pub returns : goal.returns
returns c =
    let us = c.active.result.0.now.items in
    let es = c.active.result.1.now.items in
    let found = find_from_yields_List (λ (e : Evaluation). e.process == c.args.process) _ _ c.find.result c.find.ensures.ran (YieldsList-from_deque es c.iter.ensures.rest) (λ x b q k. search (rules, tests)) in
    let some : find (λ (e : Evaluation). e.process == c.args.process) es ≡ Some c.in_ok-first.first.now = sym found ∙ ap (λ (o : Option (Bor Evaluation)). option_map (λ (e : Bor Evaluation). e.now) o) c.in_ok-first.was in
    let all : map update_event us ++ map evaluation_event es ≡ c.args.machine.now.core.active = c.active.ensures ∙ ap (λ (core : Core). core.active) c.state.ensures in
    found_evaluates c.args.process c.args.machine.now.core.next_event c.in_ok-first.first.now us es c.args.machine.now.core.active c.requires.active some all
