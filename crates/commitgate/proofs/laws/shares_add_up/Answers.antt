use Rattle.commitgate.proofs.Counting.{book_adds_up}
use Rattle.commitgate.proofs.laws.shares_add_up.Goals as goal

pub returns : goal.returns
returns c = book_adds_up
