-- Those that are kept stand for all.
use Rattle.std.proofs.Common.{◌≡◌, true, List, [], subst, ap, ◌∙◌}
use Rattle.std.specs.Prelude.{IfSome}
use Rattle.std.specs.List.{All}
use Rattle.std.specs.Global.{Vec}
use Rattle.loose.specs.declared.transition.LooseTransition.{LooseTransition}
use Rattle.loose.specs.Classes.{class_in}
use Rattle.looseparts.specs.StandTogether.{concern}
use Rattle.looseparts.specs.FoundWays.{ways_in}
use Rattle.looseparts.specs.GoneWays.{AreWaysKept, ways_of}
use Rattle.looseparts.specs.declared.gone_way.GoneWay.{GoneWay}
use Rattle.looseparts.proofs.GoneAgain.{as_well, as_well_same}
use Rattle.looseparts.proofs.repeats.leave_out.Goals as goal

pub returns-then-len-lt2 : goal.returns-then-len-lt2
returns-then-len-lt2 c = as_well_same (class_in c.args.classes.now) c.args.machine.now c.args.notes.now c.args.over (ways_in c.args.ways.now.items)

pub returns-in-None : goal.returns-in-None
returns-in-None c = as_well_same (class_in c.args.classes.now) c.args.machine.now c.args.notes.now c.args.over (ways_in c.args.ways.now.items)

pub returns-then-not-do_concern_ways : goal.returns-then-not-do_concern_ways
returns-then-not-do_concern_ways c = as_well_same (class_in c.args.classes.now) c.args.machine.now c.args.notes.now c.args.over (ways_in c.args.ways.now.items)

pub returns : goal.returns
returns c =
    let class = class_in c.args.classes.now in
    let m = c.args.machine.now in
    let old = c.args.ways.now.items in
    let kept = c.in-Some.kept.items in
    let are : AreWaysKept class (record m { lines = [] }) c.args.over (ways_in c.deref.result.now) kept =
    subst (λ o. IfSome o (λ k. AreWaysKept class (record m { lines = [] }) c.args.over (ways_in c.deref.result.now) k.items)) c.in-Some.is c.in_ok-kept.ensures in
    let concerned : All (λ gone. All (λ a. concern c.args.notes.now a ≡ true) gone.way.items) kept =
    subst (λ (l : List GoneWay). All (λ gone. All (λ a. concern c.args.notes.now a ≡ true) gone.way.items) l) c.deref-2.ensures.value (c.do_concern_ways.ensures c.if-not-do_concern_ways.false) in
    as_well class m c.args.notes.now c.args.over (ways_in old) (ways_in c.in_ok-ways.field-0.items) kept (c.in_ok-ways.ensures ∙ ap ways_of c.deref-3.ensures.value)
    (subst (λ (l : List (Vec LooseTransition)). AreWaysKept class (record m { lines = [] }) c.args.over (ways_in l) kept) c.deref.ensures.value are) concerned
