use Rattle.eventpool.proofs.Cards.{one_row}
use Rattle.tests_concurrent.proofs.deques.steal_at.Goals as goal

pub returns-then-w-len : goal.returns-then-w-len
returns-then-w-len g c = one_row c.args.rows.now.items c.args.w c.index_mut.result.now c.steal_in.new.row c.index_mut.ensures.value c.steal_in.ensures
