use Rattle.std.proofs.Common.{◌∙◌, rules}
use Rattle.eventpool.specs.Ends.{thief_card}
use Rattle.eventpool.proofs.Cards.{one_card}
use Rattle.workers.proofs.Rows.{row_same}
use Rattle.workers.proofs.Weighing.{stole_more, stole_kept}
use Rattle.workers.proofs.deques.steal.Goals as goal

pub returns-in-Some-clause-ends : goal.returns-in-Some-clause-ends
returns-in-Some-clause-ends g c =
    one_card thief_card c.loop-i.row.items c.loop-i.i c.index_mut.result.now c.steal_one.new.thief c.index_mut.ensures.value c.steal_one.ensures.end ∙ c.loop-i.invariant.ends

pub returns-in-Some-clause-got : goal.returns-in-Some-clause-got
returns-in-Some-clause-got g c =
    stole_more _ c.loop-i.row.items c.loop-i.i c.index_mut.result.now c.steal_one.new.thief _ (search rules) c.index_mut.ensures.value c.in-Some.ensures.got c.loop-i.invariant.none

pub loop-i-preserved : goal.loop-i-preserved
loop-i-preserved g c = record {
  ends = one_card thief_card c.loop-i.row.items c.loop-i.i c.index_mut.result.now c.steal_one.new.thief c.index_mut.ensures.value c.steal_one.ensures.end ∙ c.loop-i.invariant.ends;
  count = row_same c.loop-i.row.items c.loop-i.i c.index_mut.result.now c.steal_one.new.thief c.index_mut.ensures.value c.in_default.ensures.none ∙ c.loop-i.invariant.count;
  none = stole_kept _ c.loop-i.row.items c.loop-i.i c.index_mut.result.now c.steal_one.new.thief c.index_mut.ensures.value c.in_default.ensures.same c.loop-i.invariant.none;
}
