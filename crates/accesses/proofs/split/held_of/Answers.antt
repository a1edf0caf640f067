-- Both journals, put together again.
use Rattle.accesses.proofs.Swapped.{held}
use Rattle.accesses.proofs.split.held_of.Goals as goal

pub returns-in-len1-up-behind : goal.returns-in-len1-up-behind
returns-in-len1-up-behind c =
    held c.args.journal.now c.args.exchanged.now c.split_at.result.0.now c.split_at.result.1.now c.in-Some.parted.middle.now c.in-Some.parted.behind.now _ _
    c.split_at.ensures.front c.split_at.ensures.back c.in-len1.len_at_least c.in-len1.len_below c.in-Some.ensures c.in-len1-up.len_at_least
    c.in-len1-up-behind.len_at_least (c.is_same.ensures.0 c.if-is_same.true)
