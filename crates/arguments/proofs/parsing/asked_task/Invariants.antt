-- None of the tasks that were taken so far is asked for.
use Rattle.std.proofs.Common.{take}
use Rattle.arguments.specs.CommandWords.{texts_of}
use Rattle.arguments.proofs.TaskLemmas.{NoneBegins}
use Rattle.arguments.proofs.parsing.asked_task.Given as goal

abbrev pub invariant-loop-task : goal.invariant-loop-task
invariant-loop-task l = NoneBegins (texts_of l.words) (take l.task-index l.tasks)
