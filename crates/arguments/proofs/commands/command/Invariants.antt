-- The command has the words and options that were taken so far.
use Rattle.std.proofs.Common.{◌≡◌, map, take}
use Rattle.clap.specs.Words.{app_of, new_app}
use Rattle.arguments.specs.Arguments.{HasRules, rule_for}
use Rattle.arguments.specs.CommandWords.{with_arguments, word_of_task}
use Rattle.arguments.proofs.commands.command.Given as goal

abbrev pub invariant-loop-parameter : goal.invariant-loop-parameter
invariant-loop-parameter l = HasRules l.command (map rule_for (take l.parameter-index l.taken))
    × (app_of l.command ≡ with_arguments (new_app (word_of_task l.fn.task)) (take l.parameter-index l.taken))
