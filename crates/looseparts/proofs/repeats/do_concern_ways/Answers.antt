-- One way more.
use Rattle.std.proofs.Common.{◌≡◌, true, subst}
use Rattle.std.specs.List.{All}
use Rattle.looseparts.specs.StandTogether.{concern}
use Rattle.looseparts.specs.declared.gone_way.GoneWay.{GoneWay}
use Rattle.looseparts.proofs.Lists.{one_more, all_seen}
use Rattle.looseparts.proofs.repeats.do_concern_ways.Goals as goal

pub loop-gone-preserved : goal.loop-gone-preserved
loop-gone-preserved c =
    one_more (λ (gone : GoneWay). All (λ a. concern c.args.notes.now a ≡ true) gone.way.items) c.args.kept.now c.loop-gone.gone-index c.gone-item.result c.loop-gone-test.true c.gone-item.is c.loop-gone.invariant
    (subst (All (λ a. concern c.args.notes.now a ≡ true)) c.deref.ensures.value (c.do_concern_all.ensures c.if-not-do_concern_all.false))

pub returns : goal.returns
returns c = λ done. all_seen (λ (gone : GoneWay). All (λ a. concern c.args.notes.now a ≡ true) gone.way.items) c.args.kept.now c.loop-gone.gone-index c.loop-gone-test.false c.loop-gone.invariant
