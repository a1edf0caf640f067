-- One word or option more; all of them at the end.
use Rattle.std.proofs.Common.{◌≡◌, ◌∙◌, ap, subst, List, map, take}
use Rattle.std.specs.Prelude.{IsSomeAnd}
use Rattle.std.proofs.lemmas.List.{take_all, take_more}
use Rattle.clap.specs.Words.{new_app}
use Rattle.clap.specs.declared.builder.command.Command.TheViews.{out-Command}
use Rattle.arguments.specs.declared.parameters.Parameter.{Parameter}
use Rattle.arguments.specs.Arguments.{HasRules, parameters_of, rule_for, rules_of}
use Rattle.arguments.specs.CommandWords.{app_by, with_arguments, word_of_task}
use Rattle.arguments.proofs.TaskLemmas.{argument_more, called_app, called_rules, task_app}
use Rattle.arguments.proofs.commands.command.Goals as goal

pub loop-parameter-preserved : goal.loop-parameter-preserved
loop-parameter-preserved c =
    let takes = c.argument.ensures.takes in
    argument_more c.args.task c.parameters-taken.result.now c.loop-parameter.parameter-index _ c.loop-parameter.command c.in_ok-command.command c.argument.result
    (take_more c.parameters-taken.result.now c.loop-parameter.parameter-index _ c.loop-parameter-test.true) takes c.argument.ensures.rule c.in_ok-command.ensures
    c.loop-parameter.invariant.0 c.loop-parameter.invariant.1

pub returns-clause-rules : goal.returns-clause-rules
returns-clause-rules c =
    let all : take c.loop-parameter.parameter-index c.parameters-taken.result.now ≡ parameters_of c.args.task =
    take_all c.loop-parameter.parameter-index c.parameters-taken.result.now c.loop-parameter-test.false ∙ c.parameters-taken.ensures in
    called_rules c.bin_name.result c.loop-parameter.command (rules_of c.args.task) (λ d. IsSomeAnd (out-Command d).bin_name (λ s. s.bytes.items ≡ c.title.result.now)) c.bin_name.ensures
    (subst (λ (ps : List Parameter). HasRules c.loop-parameter.command (map rule_for ps)) all c.loop-parameter.invariant.0)

pub returns-clause-app : goal.returns-clause-app
returns-clause-app c =
    let all : take c.loop-parameter.parameter-index c.parameters-taken.result.now ≡ parameters_of c.args.task =
    take_all c.loop-parameter.parameter-index c.parameters-taken.result.now c.loop-parameter-test.false ∙ c.parameters-taken.ensures in
    called_app c.bin_name.result c.loop-parameter.command (app_by c.args.task) (λ d. IsSomeAnd (out-Command d).bin_name (λ s. s.bytes.items ≡ c.title.result.now)) c.bin_name.ensures
    (c.loop-parameter.invariant.1 ∙ (ap (with_arguments (new_app (word_of_task c.args.task))) all ∙ task_app c.args.task))
