-- A batch was filled, and committed.
use Rattle.std.proofs.Common.{◌+◌, arith}
use Rattle.workers.proofs.Batching.{fills_more, serves_fills, within_fills}
use Rattle.workers.proofs.Hands.{keeps_committed}
use Rattle.workers.proofs.worker.RunContext.serve_several.Goals as goal

pub returns-in-Ends-clause-serves : goal.returns-in-Ends-clause-serves
returns-in-Ends-clause-serves g c = let f = c.fill.ensures.fills in serves_fills _ _ f.0 _ f.2

pub returns-in-Ends-clause-within : goal.returns-in-Ends-clause-within
returns-in-Ends-clause-within g c = let f = c.fill.ensures.fills in within_fills _ _ f.0 _ f.1 f.2

pub returns-clause-serves : goal.returns-clause-serves
returns-clause-serves g c = let f = c.fill.ensures.fills in serves_fills _ _ (f.0 + 0) _ (fills_more _ _ _ 0 1 f.0 0 _ 0 _ 0 f.2 c.commit.ensures.fills)

pub returns-clause-within : goal.returns-clause-within
returns-clause-within g c =
    let f = c.fill.ensures.fills in
    let few = f.1 in
    within_fills _ _ (f.0 + 0) _ (omega (arith, few)) (fills_more _ _ _ 0 1 f.0 0 _ 0 _ 0 f.2 c.commit.ensures.fills)

pub returns-clause-keeps : goal.returns-clause-keeps
returns-clause-keeps g c on = keeps_committed g.K.Naming.named _ _ _ _ _ (c.fill.ensures.keeps c.in-GoesOn.is) (c.commit.ensures.keeps on)
