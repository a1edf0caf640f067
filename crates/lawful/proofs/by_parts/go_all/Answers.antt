-- The last way is taken by the machine itself.
use Rattle.std.proofs.Common.{◌≡◌, length, subst, arith}
use Rattle.loose.specs.Classes.{class_in}
use Rattle.regions.specs.Machine.{MachineView, state_at}
use Rattle.looseparts.specs.FoundWays.{ways_in}
use Rattle.lawful.specs.ByParts.{AreWaysTaken}
use Rattle.lawful.proofs.ByParts.{last_way, no_ways_taken}
use Rattle.lawful.proofs.by_parts.go_all.Goals as goal

pub returns-in-Some : goal.returns-in-Some
returns-in-Some c =
    let class = class_in c.args.classes.now in
    let m = c.args.machine.value in
    let others = c.pop.new.self.items in
    let xs = c.in_ok-successors-in-Some.successors.items in
    let before : AreWaysTaken class m.code (state_at m) (ways_in others) xs =
    subst (λ (p : MachineView). AreWaysTaken class p.code (state_at p) (ways_in others) xs) c.deref.ensures c.in_ok-successors-in-Some.ensures in
    last_way class m.code (state_at m) c.args.ways.items others c.in-Some.last xs c.push.new.self.items c.in_ok-successor-in-Some.successor c.in-Some.ensures.items c.in_ok-push-in-Some.ensures.items before c.in_ok-successor-in-Some.ensures

pub returns : goal.returns
returns c =
    let m = c.args.machine.value in
    let none : length c.args.ways.items ≡ 0 = omega (arith, c.in-None.ensures.cases.0) in
    no_ways_taken (class_in c.args.classes.now) m.code (state_at m) c.args.ways.items c.new.result.items none c.new.ensures.items
