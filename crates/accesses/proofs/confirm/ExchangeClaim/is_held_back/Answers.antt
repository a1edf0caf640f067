-- What a machine sees of both entries where the first journal ends, and of the first one in the second journal.
use Rattle.design.specs.Compiled.{design_of}
use Rattle.accesses.proofs.Pairs.{finished_after, where_yes}
use Rattle.accesses.proofs.confirm.ExchangeClaim.is_held_back.Goals as goal

pub returns-in-Some : goal.returns-in-Some
returns-in-Some c =
    where_yes c.sees_held.result
    (finished_after (design_of c.args.self.design.now) c.args.self.journal.now c.args.self.exchanged.now c.in-Some.held.before.now c.in-Some.held.segment.now
    c.in-Some.held.one c.in-Some.held.other c.args.self.pair (c.finishes.ensures c.if-not-finishes.false) c.in-Some.ensures)
    c.sees_held.ensures
