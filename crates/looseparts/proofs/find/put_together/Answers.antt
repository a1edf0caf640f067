-- One part more.
use Rattle.looseparts.proofs.Groups.{nobody_stands, together_more}
use Rattle.looseparts.proofs.find.put_together.Goals as goal

pub loop-part-init : goal.loop-part-init
loop-part-init c = λ class code s order each. nobody_stands class code s c.in_ok-all.all c.in_ok-all.ensures.ways c.in_ok-all.ensures.ends c.in_ok-all.ensures.notes order

pub loop-part-preserved : goal.loop-part-preserved
loop-part-preserved c = together_more c.loop-part.yielded c.in-Some.part c.loop-part.all c.add_part.new.self c.loop-part.invariant (c.in_ok-add_part.ensures c.if-not-branch.false)
