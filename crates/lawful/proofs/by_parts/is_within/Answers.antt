-- One transition more takes an event.
use Rattle.std.proofs.Common.{arith}
use Rattle.std.proofs.lemmas.List.Elements.{All-more}
use Rattle.loose.specs.declared.transition.LooseTransition.TheVariants.{Process}
use Rattle.looseruns.specs.LooseMoves.{IsTimelyMove}
use Rattle.looseparts.proofs.Lists.{all_seen}
use Rattle.lawful.proofs.by_parts.is_within.Goals as goal

pub loop-transition-preserved : goal.loop-transition-preserved
loop-transition-preserved c =
    All-more (IsTimelyMove c.args.limits) c.args.way.now c.loop-transition.transition-index (Process 0) (omega arith) c.loop-transition.invariant (c.takes_event.ensures c.if-not-takes_event.false c.args.limits)

pub returns-clause-timely : goal.returns-clause-timely
returns-clause-timely c = λ done. all_seen (IsTimelyMove c.args.limits) c.args.way.now c.loop-transition.transition-index (omega arith) c.loop-transition.invariant
