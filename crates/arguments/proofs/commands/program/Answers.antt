-- One command more; all of them at the end.
use Rattle.std.proofs.Common.{◌≡◌, ◌∙◌, ap, take}
use Rattle.std.proofs.lemmas.List.{take_all, take_more}
use Rattle.arguments.specs.CommandWords.{bare_app, every_task, with_tasks}
use Rattle.arguments.proofs.TaskLemmas.{all_tasks, task_more}
use Rattle.arguments.proofs.commands.program.Goals as goal

pub loop-task-preserved : goal.loop-task-preserved
loop-task-preserved c =
    task_more c.every-tasks.result.now c.loop-task.task-index _ c.loop-task.whole c.in_ok-whole.whole
    (take_more c.every-tasks.result.now c.loop-task.task-index _ c.loop-task-test.true) c.in_ok-whole.ensures c.loop-task.invariant

pub returns : goal.returns
returns c =
    let all : take c.loop-task.task-index c.every-tasks.result.now ≡ every_task =
    take_all c.loop-task.task-index c.every-tasks.result.now c.loop-task-test.false ∙ c.every-tasks.ensures in
    c.loop-task.invariant ∙ (ap (with_tasks bare_app) all ∙ all_tasks)
