-- Where a process goes on that stands behind its wait.
use Rattle.std.proofs.Common.{◌≡◌, Some}
use Rattle.std.specs.Prelude.{slice_get}
use Rattle.design.specs.DesignInvariant.{controls_of}
use Rattle.regions.specs.declared.queue.Continuation.{Continuation}
use Rattle.combinational.specs.declared.block.Logic.{Logic}
use Rattle.settling.proofs.Places.{continued_at}
use Rattle.settling.proofs.Standings.{place_is}
use Rattle.settling.proofs.Tested.{processes_told}
use Rattle.settling.proofs.member.place_behind.Goals as goal

pub returns : goal.returns
returns c =
    let m = c.args.machine.now in
    let p = c.args.process in
    let network = c.args.network.now in
    let x : Continuation = c.in_ok-continuation.field-0.now in
    let logic : Logic = c.in_ok-own.own.now in
    let ps = c.processes.result.now in
    let found : slice_get network.logics.items p ≡ Some (Some logic) = c.in_ok-own.ensures.found in
    let told = processes_told m.code m.core c.state.result.now m.values ps c.stands.ensures c.processes.ensures c.state.ensures in
    place_is m.code m.core m.values network p logic x c.stands.ensures found
    (continued_at m.core (controls_of m.code) ps p x told c.in_ok-continuation.ensures.lookup.3.0 c.in_ok-continuation.ensures.lookup.1) (c.is_behind.ensures c.if-not-is_behind.false)
