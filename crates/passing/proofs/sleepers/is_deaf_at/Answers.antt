-- The event control is there.
use Rattle.std.proofs.Common.{[], List, subst, arith}
use Rattle.model.specs.Design.{Trigger}
use Rattle.heldways.specs.Passing.{AreDeaf}
use Rattle.passing.specs.Moves.{passes_by}
use Rattle.passing.proofs.sleepers.is_deaf_at.Goals as goal

pub returns-in-Some : goal.returns-in-Some
returns-in-Some c = λ on.
    subst (λ (ts : List Trigger). AreDeaf (passes_by c.args.moves.now) ts) (c.in-Some.ensures.lookup.4 (omega arith) []) (c.is_deaf.ensures on)
