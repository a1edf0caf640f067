-- What was found in the words says what they ask for, or why they ask for nothing.
use Rattle.clap.specs.Words.{found_of, kind_of, rows_of}
use Rattle.arguments.specs.CommandWords.{Asks, AsksInVain, FailsAs, IsAskedBy, texts_of}
use Rattle.arguments.proofs.GivenLemmas.{if_err, if_ok}
use Rattle.arguments.proofs.TaskLemmas.{task_asks, task_fails, task_in_vain}
use Rattle.arguments.proofs.parsing.parse_task.Goals as goal

pub returns-in-Ok-clause-asked : goal.returns-in-Ok-clause-asked
returns-in-Ok-clause-asked c =
    let words = texts_of c.args.words.now in
    let rows = rows_of (found_of c.in-Ok.matches) in
    if_ok (IsAskedBy c.args.task rows) (Asks words) c.asked_request.result
    (λ r is. task_asks c.args.task words (texts_of c.own_words-own.result.now) rows r c.requires c.own_words-own.ensures c.in-Ok.ensures.found is) c.asked_request.ensures.asked

pub returns-in-Ok-clause-failed : goal.returns-in-Ok-clause-failed
returns-in-Ok-clause-failed c =
    let words = texts_of c.args.words.now in
    let rows = rows_of (found_of c.in-Ok.matches) in
    if_err (λ e. AsksInVain c.args.task rows (kind_of e)) (λ e. FailsAs words (kind_of e)) c.asked_request.result
    (λ e vain. task_in_vain c.args.task words (texts_of c.own_words-own.result.now) rows e c.requires c.own_words-own.ensures c.in-Ok.ensures.found vain) c.asked_request.ensures.failed

pub returns-in-Err-clause-failed : goal.returns-in-Err-clause-failed
returns-in-Err-clause-failed c =
    task_fails c.args.task (texts_of c.args.words.now) (texts_of c.own_words-own.result.now) c.in-Err.error c.requires c.own_words-own.ensures c.in-Err.ensures.failed
