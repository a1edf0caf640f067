-- What is found in the words of a task.
use Rattle.std.proofs.Common.{◌≡◌}
use Rattle.clap.specs.Built.{IsParsedFrom}
use Rattle.clap.specs.Words.{HasMatchesOf, app_of, found_of, rows_of}
use Rattle.arguments.specs.Arguments.{Gives}
use Rattle.arguments.specs.CommandWords.{app_by, rows_by, texts_of}
use Rattle.arguments.proofs.GivenLemmas.{if_ok}
use Rattle.arguments.proofs.TaskLemmas.{task_gives, task_is_free, task_is_simple}
use Rattle.arguments.proofs.WordLemmas.{failed_by, found_by}
use Rattle.arguments.proofs.commands.task_matches.Goals as goal

pub returns : goal.returns
returns c =
    let cmd = c.in_ok-command.field-0 in
    let words = texts_of c.args.words.now in
    let asked = c.args.task in
    record {
      given = if_ok (IsParsedFrom cmd) (λ m. Gives asked (found_of m)) c.try_get_matches_from.result
          (λ m p. task_gives asked cmd m p c.in_ok-command.ensures.rules) c.try_get_matches_from.ensures.parsed;
      found = if_ok (HasMatchesOf (app_of cmd) words) (λ m. rows_of (found_of m) ≡ rows_by asked words) c.try_get_matches_from.result
          (λ m p. found_by (app_by asked) (app_of cmd) words m (task_is_simple asked) c.in_ok-command.ensures.app p) c.try_get_matches_from.ensures.matches;
      failed = failed_by (app_by asked) (app_of cmd) words c.try_get_matches_from.result (task_is_free asked) c.in_ok-command.ensures.app c.try_get_matches_from.ensures.kinds;
    }
