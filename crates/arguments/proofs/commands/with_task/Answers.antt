-- The program with this command more.
use Rattle.clap.specs.Words.{app_of, with_subcommand}
use Rattle.arguments.specs.CommandWords.{app_by}
use Rattle.clap.specs.Built.{AddsSubcommand}
use Rattle.arguments.proofs.GivenLemmas.{if_ok}
use Rattle.arguments.proofs.TaskLemmas.{next_task}
use Rattle.std.proofs.Common.{◌≡◌}
use Rattle.arguments.proofs.commands.with_task.Goals as goal

pub returns : goal.returns
returns c =
    if_ok (λ d. AddsSubcommand c.args.whole c.in_ok-next.next d) (λ d. app_of d ≡ with_subcommand (app_of c.args.whole) (app_by c.args.task).top) c.subcommand.result
    (λ d added. next_task c.args.task c.args.whole d c.in_ok-next.next c.in_ok-next.ensures.rules c.in_ok-next.ensures.app added) c.subcommand.ensures
