-- No time passes at one transition more.
use Rattle.std.proofs.Common.{arith}
use Rattle.std.proofs.lemmas.List.Elements.{All-more}
use Rattle.loose.specs.declared.transition.LooseTransition.TheVariants.{Process}
use Rattle.looseruns.specs.ObservedMoves.{StaysInTime}
use Rattle.looseparts.proofs.Lists.{all_seen}
use Rattle.lawful.proofs.observed_ways.stay_in_time.Goals as goal

pub loop-transition-preserved : goal.loop-transition-preserved
loop-transition-preserved c =
    All-more StaysInTime c.args.moves.now c.loop-transition.transition-index (Process 0) (omega arith) c.loop-transition.invariant (c.passes_time.ensures.stays c.if-passes_time.false)

pub returns : goal.returns
returns c = λ done. all_seen StaysInTime c.args.moves.now c.loop-transition.transition-index (omega arith) c.loop-transition.invariant
