use Rattle.eventpool.specs.Ends.{thief_card}
use Rattle.eventpool.proofs.Cards.{one_card}
use Rattle.tests_concurrent.proofs.deques.steal_in.Goals as goal

pub returns-then-i-len : goal.returns-then-i-len
returns-then-i-len g c = one_card thief_card c.args.row.now.items c.args.i c.index_mut.result.now c.steal.new.self c.index_mut.ensures.value c.steal.ensures.end
