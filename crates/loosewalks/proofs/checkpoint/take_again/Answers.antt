-- One transition more.
use Rattle.std.proofs.Common.{◌∙◌, List, take, get_or, refl, sym, subst, arith}
use Rattle.std.proofs.lemmas.List.{take_more}
use Rattle.loose.specs.declared.transition.LooseTransition.{LooseTransition}
use Rattle.loose.specs.declared.transition.LooseTransition.TheVariants.{Process}
use Rattle.loose.specs.Classes.{class_in}
use Rattle.loosewalks.specs.Checkpoints.{HasTakenAgain}
use Rattle.loosewalks.proofs.TakenAgain.{again_none, again_more}
use Rattle.loosewalks.proofs.checkpoint.take_again.Goals as goal

pub loop-transition-init : goal.loop-transition-init
loop-transition-init c = record { order = c.requires; again = again_none (class_in c.args.classes.now) c.args.machine.now c.requires; code = refl }

pub loop-transition-preserved : goal.loop-transition-preserved
loop-transition-preserved c =
    let moves = c.args.moves.now in
    let at = c.loop-transition.transition-index in
    let class = class_in c.args.classes.now in
    record {
      order = c.take_loosely.ensures.order;
      again = subst (λ (l : List LooseTransition). HasTakenAgain class c.args.machine.now l c.take_loosely.new.machine) (sym (take_more moves at (Process 0) (omega arith)))
          (again_more class c.args.machine.now c.loop-transition.machine c.take_loosely.new.machine (take at moves) (get_or moves at (Process 0)) c.requires c.loop-transition.invariant.order c.take_loosely.ensures.order c.loop-transition.invariant.again c.take_loosely.ensures.code c.in-Ok.ensures.entries c.in-Ok.ensures.taken);
      code = c.take_loosely.ensures.code ∙ c.loop-transition.invariant.code;
    }
