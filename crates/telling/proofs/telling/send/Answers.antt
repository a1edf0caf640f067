-- A call took some bytes.
use Rattle.std.proofs.Common.{arith}
use Rattle.std.proofs.lemmas.Grind.{common_steps}
use Rattle.telling.proofs.Sent.{passes_taken}
use Rattle.telling.proofs.telling.send.Goals as goal

pub loop-rest-preserved : goal.loop-rest-preserved
loop-rest-preserved g c = record {
  went = passes_taken _ _ _ _ c.loop-rest.rest.now _ c.in-Ok.count c.loop-rest.invariant.went c.in-Ok.ensures.bytes c.split_at.ensures.back;
  failed = grind (arith, common_steps);
}
