-- The program has the commands of the tasks that were taken so far.
use Rattle.std.proofs.Common.{◌≡◌, take}
use Rattle.clap.specs.Words.{app_of}
use Rattle.arguments.specs.CommandWords.{bare_app, with_tasks}
use Rattle.arguments.proofs.commands.program.Given as goal

abbrev pub invariant-loop-task : goal.invariant-loop-task
invariant-loop-task l = app_of l.whole ≡ with_tasks bare_app (take l.task-index l.tasks)
