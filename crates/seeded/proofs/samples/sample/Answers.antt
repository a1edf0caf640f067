-- What is kept once a run more was made.
use Rattle.std.proofs.Common.{ℕ, ◌+◌, ◌%◌, ◌^◌, ap, arith}
use Rattle.std.proofs.lemmas.Grind.{common_steps}
use Rattle.runs.specs.declared.run.RunRecord.{RunRecord}
use Rattle.runs.specs.RunRecords.{IsRun}
use Rattle.runs.specs.Compared.{WantsNoMemory}
use Rattle.seeded.proofs.Keeping.{all_from}
use Rattle.seeded.proofs.Sampling.{of_seed, sampled_more}
use Rattle.seeded.proofs.samples.sample.Goals as goal

pub loop-made-preserved : goal.loop-made-preserved
loop-made-preserved g c =
    let before = c.loop-made.invariant in
    let run : RunRecord = c.run_seeded-run.result in
    record {
      runs = all_from (IsRun c.args.design.now c.args.limits) c.loop-made.kept.items c.keep.new.kept.items run before.runs c.run_seeded-run.ensures.run c.keep.ensures.from;
      apart = c.keep.ensures.apart;
      ended = all_from WantsNoMemory c.loop-made.kept.items c.keep.new.kept.items run before.ended (c.wants_memory.ensures c.if-wants_memory.false) c.keep.ensures.from;
      sampled =
          sampled_more c.args.design.now c.args.limits c.args.seeds.first c.loop-made.made c.loop-made.kept.items c.keep.new.kept.items run before.sampled
          c.keep.ensures.from c.keep.ensures.whole c.in-Ok.ensures.told
          (of_seed c.args.design.now c.args.limits _ _ run (ap (λ (n : ℕ). (c.args.seeds.first + n) % 2 ^ 64) c.from-in-loop-made.ensures) c.run_seeded-run.ensures.run c.run_seeded-run.ensures.follows
          (c.wants_memory.ensures c.if-wants_memory.false));
      most = grind (arith, common_steps);
      kept = grind (arith, common_steps);
    }
