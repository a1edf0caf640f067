-- The second journal, put together again.
use Rattle.accesses.proofs.Swapped.{swapped}
use Rattle.accesses.proofs.split.swapped_of.Goals as goal

pub returns-in-len2-up : goal.returns-in-len2-up
returns-in-len2-up c =
    swapped c.args.exchanged.now c.args.split.before.now c.in-Some.parted.middle.now c.in-Some.parted.behind.now _ c.args.split.one c.in-Some.ensures
    c.in-len2-up.len_at_least (c.is_same.ensures.0 c.if-is_same.true)
