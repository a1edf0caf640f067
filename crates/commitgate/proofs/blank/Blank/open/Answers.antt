-- What a gate without a name keeps is what the lock keeps at the start.
use Rattle.std.proofs.Common.{◌∙◌, subst}
use Rattle.commitgate.specs.Named.{Named}
use Rattle.commitgate.specs.Blanks.{IsBlank}
use Rattle.std.specs.Vec.{vec_capacity}
use Rattle.commitgate.proofs.Openings.{stands_first}
use Rattle.commitgate.proofs.blank.Blank.open.Goals as goal

pub first_tickets-requires-clause-states : goal.first_tickets-requires-clause-states
first_tickets-requires-clause-states g c =
    let p = c.self.inside.run_state in
    let named = c.self.view_is ∙ c.requires in
    let b = subst (λ (n : Named). IsBlank n (vec_capacity c.self.inside.committed) c.self.inside.committed.items c.self.inside.seats.items p) named c.self.invariant in
    b.guarded.states

pub new-state-requires : goal.new-state-requires
new-state-requires g c =
    let p = c.self.inside.run_state in
    let named = c.self.view_is ∙ c.requires in
    let b = subst (λ (n : Named). IsBlank n (vec_capacity c.self.inside.committed) c.self.inside.committed.items c.self.inside.seats.items p) named c.self.invariant in
    stands_first g.K.Naming.named (vec_capacity c.self.inside.committed) c.self.inside.committed.items c.self.inside.seats.items p c.seat_all.new.whole
    b c.seat_all.ensures.marks c.seat_all.ensures.whole
