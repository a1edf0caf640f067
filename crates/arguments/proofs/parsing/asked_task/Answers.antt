-- One task more isn't asked for; at the end none is.
use Rattle.std.proofs.Common.{◌≡◌, ◌∙◌, subst, sym, take, rules}
use Rattle.std.proofs.lemmas.List.{take_all, take_more}
use Rattle.arguments.specs.CommandWords.{Begins, every_task, texts_of}
use Rattle.arguments.proofs.TaskLemmas.{NoneBegins, none_more, none_of_every}
use Rattle.arguments.proofs.parsing.asked_task.Goals as goal

pub loop-task-preserved : goal.loop-task-preserved
loop-task-preserved c =
    none_more (texts_of c.args.words.now) c.every-tasks.result.now c.loop-task.task-index _ (take_more c.every-tasks.result.now c.loop-task.task-index _ c.loop-task-test.true)
    (λ asked. c.begins.ensures.no (search rules) (subst (Begins (texts_of c.args.words.now)) (sym c.word.ensures) asked)) c.loop-task.invariant

pub returns-clause-none : goal.returns-clause-none
returns-clause-none c =
    let all : take c.loop-task.task-index c.every-tasks.result.now ≡ every_task =
    take_all c.loop-task.task-index c.every-tasks.result.now c.loop-task-test.false ∙ c.every-tasks.ensures in
    λ e asked. none_of_every (texts_of c.args.words.now) asked (subst (NoneBegins (texts_of c.args.words.now)) all c.loop-task.invariant)
