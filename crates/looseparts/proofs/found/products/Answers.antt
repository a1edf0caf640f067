-- One way more.
use Rattle.std.proofs.Common.{◌++◌, map, sym, ap, subst, ◌∙◌}
use Rattle.std.proofs.lemmas.List.{take_all}
use Rattle.looseparts.specs.FoundWays.{ways_in}
use Rattle.looseparts.specs.PartLaws.{HaveEachBehind}
use Rattle.looseparts.proofs.Waiters.{each_behind_more}
use Rattle.looseparts.proofs.found.products.Goals as goal

pub loop-one-preserved : goal.loop-one-preserved
loop-one-preserved c =
    each_behind_more c.args.ones.now c.loop-one.one-index c.one-item.result c.one-item.result (ways_in c.args.others.now) (ways_in c.loop-one.ways.items) (ways_in c.add_each_behind.new.ways.items) c.loop-one-test.true (sym c.one-item.is) c.loop-one.invariant
    (c.in_ok-add_each_behind.ensures ∙ ap (λ z. ways_in c.loop-one.ways.items ++ map (λ other. z ++ other) (ways_in c.args.others.now)) c.deref.ensures.value)

pub returns : goal.returns
returns c = subst (λ z. HaveEachBehind (ways_in z) (ways_in c.args.others.now) (ways_in c.loop-one.ways.items)) (take_all c.loop-one.one-index c.args.ones.now c.loop-one-test.false) c.loop-one.invariant
