use Rattle.std.proofs.Common.{rules}
use Rattle.commitgate.proofs.Readings.{read_by}
use Rattle.commitgate.proofs.read_phase.evaluate.Goals as goal

pub returns-clause-gave : goal.returns-clause-gave
returns-clause-gave g c = read_by g.K.Naming.named.code c.fill_turn-turn.new.reader.1.fresh _ c.fill_turn-turn.new.log c.fill_turn-turn.result (search rules) c.fill_turn-turn.ensures.gave
