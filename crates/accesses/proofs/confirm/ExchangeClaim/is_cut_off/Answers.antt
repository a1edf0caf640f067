-- What the machines see of both entries in the first journal, and where the second one ends.
use Rattle.design.specs.Compiled.{design_of}
use Rattle.accesses.specs.ExchangedEntries.{IsSeenPair}
use Rattle.accesses.proofs.Pairs.{finished_before, where_yes}
use Rattle.accesses.proofs.confirm.ExchangeClaim.is_cut_off.Goals as goal

pub returns-in-Some-cut_of : goal.returns-in-Some-cut_of
returns-in-Some-cut_of c =
    let s = c.in-Some.split in
    let seen : IsSeenPair (design_of c.args.self.design.now) c.args.self.journal.now s.before.now s.segment.now s.one s.other c.args.self.pair =
    rw c.in-Some.is at c.in_ok-split.ensures in
    where_yes c.sees_exchanged.result
    (finished_before (design_of c.args.self.design.now) c.args.self.journal.now c.args.self.exchanged.now c.in-Some.split.before.now c.in-Some.split.segment.now
    c.in-Some-cut_of.cut.needed.now c.in-Some.split.one c.in-Some.split.other c.in-Some-cut_of.cut.other c.args.self.pair
    (c.finishes.ensures c.if-not-finishes.false) seen.0 seen.1 c.in-Some-cut_of.ensures) c.sees_exchanged.ensures
