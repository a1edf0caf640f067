-- The turn that was evaluated leaves every value.
use Rattle.std.proofs.Common.{◌≡◌, subst, List}
use Rattle.logic4.specs.Vector.{Vector}
use Rattle.orders.specs.Apart.{all_given}
use Rattle.settling.proofs.Standings.{left_by}
use Rattle.settling.proofs.member.is_consistent.Goals as goal

pub returns-in-Ok : goal.returns-in-Ok
returns-in-Ok c = λ on p at.
    let m = c.args.machine.now in
    left_by m.code c.design.result.now m.core m.values c.store.result.now p c.args.place.now c.time.result c.turn_on.new.log c.writes.result.now c.stands.ensures c.design.ensures c.time.ensures c.store.ensures c.in-Ok.ensures at c.writes.ensures
    (subst (λ (a : List Vector). all_given a c.writes.result.now ≡ a) c.store-in-Ok.ensures (c.leaves_values.ensures on))
