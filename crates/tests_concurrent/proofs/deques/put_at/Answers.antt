use Rattle.eventpool.specs.Ends.{owner_card}
use Rattle.eventpool.proofs.Cards.{one_card}
use Rattle.tests_concurrent.proofs.deques.put_at.Goals as goal

pub returns-then-d-len : goal.returns-then-d-len
returns-then-d-len g c = one_card owner_card c.args.owners.now.items c.args.d c.index_mut.result.now c.put.new.self c.index_mut.ensures.value c.put.ensures.end
