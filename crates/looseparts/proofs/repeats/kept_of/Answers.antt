-- One way more was gone.
use Rattle.std.proofs.Common.{◌≡◌, [], List, sym, subst, ◌∙◌}
use Rattle.std.specs.Prelude.{Option, IfSome}
use Rattle.std.proofs.lemmas.List.{take_all}
use Rattle.std.specs.Global.{Vec}
use Rattle.loose.specs.declared.transition.LooseTransition.{LooseTransition}
use Rattle.loose.specs.Classes.{class_in}
use Rattle.looseparts.specs.FoundWays.{ways_in}
use Rattle.looseparts.specs.GoneWays.{AreWaysKept, ComesTo}
use Rattle.looseparts.specs.declared.gone_way.GoneWay.{GoneWay}
use Rattle.looseparts.proofs.GoneAgain.{none_kept, kept_more}
use Rattle.looseparts.proofs.repeats.kept_of.Goals as goal

pub loop-way-init : goal.loop-way-init
loop-way-init c =
    let m = record c.args.machine.now { lines = [] } in
    subst (λ l. AreWaysKept (class_in c.args.classes.now) m c.args.over [] l) (sym c.new-kept.ensures.items) (none_kept (class_in c.args.classes.now) m c.args.over)

pub loop-way-preserved : goal.loop-way-preserved
loop-way-preserved c =
    let class = class_in c.args.classes.now in
    let m = record c.args.machine.now { lines = [] } in
    let way = c.way-item.result in
    let gone = c.in-Some.gone in
    let same = subst (λ (o : Option GoneWay). IfSome o (λ gone. gone.way.items ≡ c.deref.result.now)) c.in-Some.is c.in_ok-gone.ensures.way in
    let comes = subst (λ (o : Option GoneWay). IfSome o (λ gone. ComesTo class m c.deref.result.now c.args.over gone.lines.items gone.key.items)) c.in-Some.is c.in_ok-gone.ensures.comes in
    kept_more class m c.args.over c.args.ways.now c.loop-way.way-index way way c.loop-way.kept.items c.keep_once.new.kept.items gone c.loop-way-test.true (sym c.way-item.is)
    (same ∙ c.deref.ensures.value) (subst (λ (l : List LooseTransition). ComesTo class m l c.args.over gone.lines.items gone.key.items) c.deref.ensures.value comes) c.in_ok-keep_once-in-Some.ensures c.loop-way.invariant

pub returns : goal.returns
returns c =
    subst (λ (l : List (Vec LooseTransition)). AreWaysKept (class_in c.args.classes.now) (record c.args.machine.now { lines = [] }) c.args.over (ways_in l) c.loop-way.kept.items) (take_all c.loop-way.way-index c.args.ways.now c.loop-way-test.false) c.loop-way.invariant
