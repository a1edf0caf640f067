-- One transition more.
use Rattle.std.proofs.Common.{List, [], ◌∷◌, ◌++◌, ◌∙◌, ap, take, get_or, sym, subst, arith}
use Rattle.std.proofs.lemmas.List.{take_all, take_more}
use Rattle.loose.specs.declared.transition.LooseTransition.{LooseTransition}
use Rattle.loose.specs.declared.transition.LooseTransition.TheVariants.{Process}
use Rattle.loose.specs.Classes.{class_in}
use Rattle.observers.specs.Observers.{observer_of}
use Rattle.observers.proofs.SeeingAlike.{observers_see_alike}
use Rattle.lawful.specs.ArrangedNodes.{HasSeenEach}
use Rattle.lawful.proofs.SeenAgain.{seen_more, seen_none, seen_told}
use Rattle.lawful.proofs.seen_again.take_all_seen.Goals as goal

pub loop-transition-init : goal.loop-transition-init
loop-transition-init c =
    let m = c.args.machine.now in
    record {
      order = c.requires.order;
      seen = seen_none (class_in c.args.seeing.classes.now) (observer_of c.args.seeing.observing.now) m (c.args.text.now.items ++ m.lines) c.requires.order (ap (λ l. l ++ m.lines) c.requires.untold ∙ c.requires.silent);
    }

pub loop-transition-preserved : goal.loop-transition-preserved
loop-transition-preserved c =
    let moves = c.args.moves.now in
    let at = c.loop-transition.transition-index in
    let class = class_in c.args.seeing.classes.now in
    let observe = observer_of c.args.seeing.observing.now in
    let m = c.take_seen.new.machine in
    let told = c.take_seen.new.text.items ++ m.lines in
    record {
      order = c.take_seen.ensures.order;
      seen = subst (λ (l : List LooseTransition). HasSeenEach class observe c.args.machine.now l m told) (sym (take_more moves at (Process 0) (omega arith)))
          (seen_more class observe c.args.machine.now c.loop-transition.machine m (take at moves) (get_or moves at (Process 0)) c.loop-transition.text.items c.take_seen.new.text.items (observers_see_alike c.args.seeing.observing.now).0 c.requires.order c.loop-transition.invariant.seen c.in_ok-take_seen.ensures.taken);
    }

pub returns-clause-seen : goal.returns-clause-seen
returns-clause-seen c =
    let class = class_in c.args.seeing.classes.now in
    let observe = observer_of c.args.seeing.observing.now in
    let m = c.loop-transition.machine in
    let seen : HasSeenEach class observe c.args.machine.now c.args.moves.now m (c.loop-transition.text.items ++ m.lines) =
    subst (λ (l : List LooseTransition). HasSeenEach class observe c.args.machine.now l m (c.loop-transition.text.items ++ m.lines)) (take_all c.loop-transition.transition-index c.args.moves.now (omega arith)) c.loop-transition.invariant.seen in
    seen_told class observe c.args.machine.now m c.tell_lines.new.machine c.args.moves.now (c.loop-transition.text.items ++ m.lines) c.tell_lines.new.text.items c.tell_lines.ensures.same c.in_ok-tell_lines.ensures.told seen
