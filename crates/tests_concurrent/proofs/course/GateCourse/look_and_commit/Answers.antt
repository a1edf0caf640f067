-- A look at the journal leaves what the seat has seen of the registers.
use Rattle.std.proofs.Common.{List, sym, subst}
use Rattle.logic4.specs.Vector.{Vector}
use Rattle.turn.specs.Reads.{GaveAll}
use Rattle.runstate.specs.Histories.{IsRead}
use Rattle.tests_concurrent.proofs.course.GateCourse.look_and_commit.Goals as goal

pub commit-requires-clause-gave : goal.commit-requires-clause-gave
commit-requires-clause-gave g c =
    subst (λ (f : List (List Vector)). GaveAll (IsRead g.K.Naming.named.code f) c.args.log.now.reads) (sym c.entries-count.ensures.fresh) c.requires.gave
