-- What is told of each way.
use Rattle.std.proofs.Common.{subst, sym}
use Rattle.std.specs.Prelude.{IfOk, IfSome}
use Rattle.loosewalks.specs.Attempts.{IsFit}
use Rattle.loosewalks.proofs.way_through.members_for.Goals as goal

pub returns-else-not-have_logic : goal.returns-else-not-have_logic
returns-else-not-have_logic c = subst (λ way. IfOk c.phase_of.result (λ found. IfSome found (λ members. IsFit way c.args.machine.now c.args.scope.network.now members.items))) (sym c.in-Phase.is) c.phase_of.ensures

pub returns-in-Certified : goal.returns-in-Certified
returns-in-Certified c = subst (λ way. IsFit way c.args.machine.now c.args.scope.network.now c.new.result.items) (sym c.in-Certified.is) tt

pub returns-in-HeldSettled : goal.returns-in-HeldSettled
returns-in-HeldSettled c = subst (λ way. IfOk c.settled_members.result (λ found. IfSome found (λ members. IsFit way c.args.machine.now c.args.scope.network.now members.items))) (sym c.in-HeldSettled.is) c.settled_members.ensures

pub returns-in-Held : goal.returns-in-Held
returns-in-Held c = subst (λ way. IfOk c.more_members.result (λ found. IfSome found (λ members. IsFit way c.args.machine.now c.args.scope.network.now members.items))) (sym c.in-Held.is) c.more_members.ensures

pub returns-in-HeldRest : goal.returns-in-HeldRest
returns-in-HeldRest c = subst (λ way. IfOk c.held_among.result (λ found. IfSome found (λ members. IsFit way c.args.machine.now c.args.scope.network.now members.items))) (sym c.in-HeldRest.is) c.held_among.ensures.may

pub returns-in-HeldAsleep : goal.returns-in-HeldAsleep
returns-in-HeldAsleep c = subst (λ way. IfOk c.more_members-in-HeldAsleep.result (λ found. IfSome found (λ members. IsFit way c.args.machine.now c.args.scope.network.now members.items))) (sym c.in-HeldAsleep.is) c.more_members-in-HeldAsleep.ensures
