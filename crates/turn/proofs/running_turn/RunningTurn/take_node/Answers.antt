-- What each node does.
use Rattle.std.proofs.Common.{ℕ, List, ◌≡◌, ◌+◌, ◌∙◌, refl, ap, sym, subst}
use Rattle.std.proofs.lemmas.Result.{on_ok_weaker}
use Rattle.turn.specs.declared.machine.Step.{Step}
use Rattle.turn.specs.declared.machine.Step.TheVariants.{Goes}
use Rattle.turn.specs.declared.memory.Seen.{Seen}
use Rattle.turn.specs.Reads.{GaveAll}
use Rattle.turn.specs.RunningTurn.{Status, turn_status_of, delaying}
use Rattle.turn.specs.TurnSteps.{Assigns, AssignsLater, Branches, Displays, PrintsText}
use Rattle.turn.proofs.GoingOn.{goes_where, goes_reading}
use Rattle.turn.proofs.running_turn.RunningTurn.take_node.Goals as goal

pub returns-in_ok-compute-in-AssignAfter-clause-takes : goal.returns-in_ok-compute-in-AssignAfter-clause-takes
returns-in_ok-compute-in-AssignAfter-clause-takes g c =
    let m = turn_status_of c.compute.new.self in
    let v = c.compute.new.self.stack.top in
    rw c.in-AssignAfter.is (cc (c.wait_until.ensures), (v, (m, (c.in_ok-compute-in-AssignAfter.ensures.value, c.hold.ensures))))

pub returns-in-Assign-clause-takes : goal.returns-in-Assign-clause-takes
returns-in-Assign-clause-takes g c =
    rw c.in-Assign.is
    (goes_where c.assign.result c.goes.result (λ (r : Step). (r ≡ Goes) × Assigns c.args.ops.now c.in-Assign.value c.in-Assign.register c.in-Assign.next (turn_status_of c.args.self.now) (turn_status_of c.assign.new.self)) c.goes.ensures
    (on_ok_weaker c.assign.result (λ h. (refl, h)) c.assign.ensures.takes))

pub returns-in-Assign-clause-reads : goal.returns-in-Assign-clause-reads
returns-in-Assign-clause-reads g c = goes_reading _ _ c.assign.result c.goes.result _ _ _ _ c.goes.ensures c.assign.ensures.reads

pub returns-in-Branch-clause-takes : goal.returns-in-Branch-clause-takes
returns-in-Branch-clause-takes g c =
    rw c.in-Branch.is
    (goes_where c.branch-self.result c.goes-in-Branch.result (λ (r : Step). (r ≡ Goes) × Branches c.args.ops.now c.in-Branch.condition c.in-Branch.taken c.in-Branch.missed (turn_status_of c.args.self.now) (turn_status_of c.branch-self.new.self)) c.goes-in-Branch.ensures
    (on_ok_weaker c.branch-self.result (λ h. (refl, h)) c.branch-self.ensures.takes))

pub returns-in-Branch-clause-reads : goal.returns-in-Branch-clause-reads
returns-in-Branch-clause-reads g c = goes_reading _ _ c.branch-self.result c.goes-in-Branch.result _ _ _ _ c.goes-in-Branch.ensures c.branch-self.ensures.reads

pub returns-in-Display-clause-takes : goal.returns-in-Display-clause-takes
returns-in-Display-clause-takes g c =
    rw (c.in-Print.is, c.in-Display.is)
    (goes_where c.display.result c.goes-in-Display.result (λ (r : Step). (r ≡ Goes) × Displays c.args.ops.now c.args.shown.now c.in-Print.pieces c.in-Print.next (turn_status_of c.args.self.now) (turn_status_of c.display.new.self)) c.goes-in-Display.ensures
    (on_ok_weaker c.display.result (λ h. (refl, h)) c.display.ensures.takes))

pub returns-in-Display-clause-reads : goal.returns-in-Display-clause-reads
returns-in-Display-clause-reads g c = goes_reading _ _ c.display.result c.goes-in-Display.result _ _ _ _ c.goes-in-Display.ensures c.display.ensures.reads

pub returns-in-Write-clause-takes : goal.returns-in-Write-clause-takes
returns-in-Write-clause-takes g c =
    rw (c.in-Print.is, c.in-Write.is)
    (goes_where c.print_text.result c.goes-in-Write.result (λ (r : Step). (r ≡ Goes) × PrintsText c.args.ops.now c.args.shown.now c.in-Print.pieces c.in-Print.next (turn_status_of c.args.self.now) (turn_status_of c.print_text.new.self)) c.goes-in-Write.ensures
    (on_ok_weaker c.print_text.result (λ h. (refl, h)) c.print_text.ensures.takes))

pub returns-in-Write-clause-reads : goal.returns-in-Write-clause-reads
returns-in-Write-clause-reads g c = goes_reading _ _ c.print_text.result c.goes-in-Write.result _ _ _ _ c.goes-in-Write.ensures c.print_text.ensures.reads

pub returns-in_ok-compute-in-AssignLater-clause-takes : goal.returns-in_ok-compute-in-AssignLater-clause-takes
returns-in_ok-compute-in-AssignLater-clause-takes g c =
    let m = turn_status_of c.compute-in-AssignLater.new.self in
    let v = c.compute-in-AssignLater.new.self.stack.top in
    let due = ap (λ (n : ℕ). delaying m (record { reg = c.in-AssignLater.register; value = v; due = c.args.now + n }) c.in-AssignLater.next) c.from.ensures in
    rw c.in-AssignLater.is
    (goes_where c.assign_later.result c.goes-in-AssignLater.result
    (λ (r : Step). (r ≡ Goes) × AssignsLater c.args.ops.now c.in-AssignLater.value c.in-AssignLater.register (c.args.now + c.in-AssignLater.delay) c.in-AssignLater.next (turn_status_of c.args.self.now) (turn_status_of c.assign_later.new.self))
    c.goes-in-AssignLater.ensures (on_ok_weaker c.assign_later.result (λ h. (refl, (v, (m, (c.in_ok-compute-in-AssignLater.ensures.value, h ∙ due))))) c.assign_later.ensures))

pub returns-in-Now-clause-reads : goal.returns-in-Now-clause-reads
returns-in-Now-clause-reads g c =
    let given = g.R.RegReader.gave c.args.reader.now in
    record {
      gave = goes_where c.write.result c.goes-in-Now.result (λ (_ : Step). GaveAll given c.args.self.now.memory.reads.entries → GaveAll given c.write.new.self.memory.reads.entries) c.goes-in-Now.ensures
          (on_ok_weaker c.write.result (λ h had. subst (λ (rs : List (ℕ × Seen)). GaveAll given rs) (sym (ap (λ (s : Status). s.reads) h)) had) c.write.ensures);
      keeps = λ r s h. h;
      lasting = refl;
    }

pub returns-in_ok-compute-in-AssignLater-clause-reads : goal.returns-in_ok-compute-in-AssignLater-clause-reads
returns-in_ok-compute-in-AssignLater-clause-reads g c =
    let before = g.R.RegReader.gave c.args.reader.now in
    let after = g.R.RegReader.gave c.compute-in-AssignLater.new.reader in
    let computed = c.in_ok-compute-in-AssignLater.ensures.reads in
    record {
      gave = goes_where c.assign_later.result c.goes-in-AssignLater.result (λ (_ : Step). GaveAll before c.args.self.now.memory.reads.entries → GaveAll after c.assign_later.new.self.memory.reads.entries) c.goes-in-AssignLater.ensures
          (on_ok_weaker c.assign_later.result (λ h had. subst (λ (rs : List (ℕ × Seen)). GaveAll after rs) (sym (ap (λ (s : Status). s.reads) h)) (computed.gave had)) c.assign_later.ensures);
      keeps = computed.keeps;
      lasting = computed.lasting;
    }
