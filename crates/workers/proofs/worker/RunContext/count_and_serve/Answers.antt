use Rattle.std.proofs.Common.{refl}
use Rattle.workers.proofs.Onward.{within_one}
use Rattle.workers.proofs.Hands.{keeps_row}
use Rattle.workers.proofs.worker.RunContext.count_and_serve.Goals as goal

pub returns-clause-keeps : goal.returns-clause-keeps
returns-clause-keeps g c on = keeps_row g.K.Naming.named _ _ _ _ (c.serve.ensures.keeps on) refl

pub returns-clause-within : goal.returns-clause-within
returns-clause-within g c = within_one _ _ c.serve.ensures.goes c.serve.ensures.puts refl
