-- One entry more.
use Rattle.std.proofs.Common.{refl, ◌∙◌}
use Rattle.accesses.proofs.Leading.{led_more}
use Rattle.accesses.proofs.follower.lead.Goals as goal

pub loop-entry-preserved : goal.loop-entry-preserved
loop-entry-preserved c = record {
  led =
      led_more c.args.machine.now c.loop-entry.machine c.take.new.self c.args.entries.now c.loop-entry.entry-index _ _ c.loop-entry.invariant.led
      c.loop-entry.invariant.code c.in-Ok.ensures.taken c.loop-entry-test.true refl;
  code = c.take.ensures.code ∙ c.loop-entry.invariant.code;
}
