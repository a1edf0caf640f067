-- Each turn passes one space or one comment.
use Rattle.std.proofs.Common.{arith}
use Rattle.locations.specs.Spots.{here}
use Rattle.locations.proofs.Skipped.{skips_more}
use Rattle.locations.proofs.spot.behind_skipped.Goals as goal

pub loop-len-preserved : goal.loop-len-preserved
loop-len-preserved c =
    let i = c.loop-len.invariant in
    record {
      skips = skips_more c.args.text.now c.loop-len.left.now c.split_at.result.1.now c.loop-len.len i.len (omega arith) i.fits c.split_at.ensures.back i.skips;
      len = c.skip_len-len-in-loop-len.ensures.value;
      fits = c.skip_len-len-in-loop-len.ensures.within;
      within = omega (arith, c.split_at.ensures.back_len, i.within);
    }

pub returns-clause-skips : goal.returns-clause-skips
returns-clause-skips c = c.loop-len.invariant.skips c.loop-len.left.now here
