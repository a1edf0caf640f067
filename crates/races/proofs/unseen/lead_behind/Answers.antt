-- The entries in front were taken.
use Rattle.std.proofs.Common.{arith}
use Rattle.accesses.proofs.Pairs.{where_yes}
use Rattle.races.proofs.Led.{led_behind}
use Rattle.races.proofs.unseen.lead_behind.Goals as goal

pub returns : goal.returns
returns c =
    where_yes c.lead.result
    (λ led. led_behind c.args.journal.now c.args.count c.args.machine.now c.lead.new.machine c.split_at.result.0.now c.requires c.split_at.ensures.front (omega (arith, c.if-count-journal.false)) led c.lead.ensures.code)
    c.lead.ensures.led
