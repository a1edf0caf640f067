-- Each evaluation's turn is added.
use Rattle.std.proofs.Common.{◌≡◌, Bor, List, map, refl, subst}
use Rattle.std.proofs.lemmas.Iterator.Consumers.{YieldsList-from_deque, YieldsList-end}
use Rattle.loose.specs.declared.transition.LooseTransition.TheVariants.{Process}
use Rattle.regions.specs.declared.queue.Evaluation.{Evaluation}
use Rattle.loosesteps.specs.Choices.{AreGathered, evaluation_transition}
use Rattle.loosesteps.proofs.Gathering.{gathered_next}
use Rattle.loosesteps.proofs.choices.add_evaluations.Goals as goal

pub loop-evaluation-preserved : goal.loop-evaluation-preserved
loop-evaluation-preserved c =
    gathered_next (λ (e : Bor Evaluation). e.now) evaluation_transition c.args.choices.now.items c.loop-evaluation.choices.items c.add_once.new.choices.items c.loop-evaluation.yielded c.in-Some.evaluation (Process c.in-Some.evaluation.now.process)
    refl c.loop-evaluation.invariant c.in_ok-add_once.ensures

pub returns : goal.returns
returns c =
    let all : map (λ (e : Bor Evaluation). e.now) c.loop-evaluation.yielded ≡ c.args.evaluations.now.items =
    (YieldsList-end (YieldsList-from_deque c.args.evaluations.now.items cc) c.loop-evaluation.yielded _ c.loop-evaluation.yielded_by _ _ c.in-None.is c.next.ensures.steps).0 in
    subst (λ (es : List Evaluation). AreGathered c.args.choices.now.items (map evaluation_transition es) c.loop-evaluation.choices.items) all c.loop-evaluation.invariant
