-- What the machines see of both entries in both journals.
use Rattle.design.specs.Compiled.{design_of}
use Rattle.accesses.specs.ExchangedEntries.{IsSeenPair}
use Rattle.accesses.proofs.Pairs.{both_orders, where_yes}
use Rattle.accesses.proofs.confirm.ExchangeClaim.is_confirmed.Goals as goal

pub returns-in-Some-swapped_of : goal.returns-in-Some-swapped_of
returns-in-Some-swapped_of c =
    let s = c.in-Some.split in
    let seen : IsSeenPair (design_of c.args.self.design.now) c.args.self.journal.now s.before.now s.segment.now s.one s.other c.args.self.pair =
    rw c.in-Some.is at c.in_ok-split.ensures in
    where_yes c.sees_exchanged.result
    (both_orders (design_of c.args.self.design.now) c.args.self.journal.now c.args.self.exchanged.now c.in-Some.split.before.now c.in-Some.split.segment.now
    c.in-Some-swapped_of.swapped.needed.now c.in-Some.split.one c.in-Some.split.other c.in-Some-swapped_of.swapped.other c.args.self.pair seen.0
    seen.1 c.in-Some-swapped_of.ensures) c.sees_exchanged.ensures
