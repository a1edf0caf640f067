-- How a run stands is put by the number of the entries that may be next.
use Rattle.std.proofs.Common.{◌≡◌, length, arith}
use Rattle.regions.specs.Machine.{state_at}
use Rattle.explain.proofs.Sending.{puts_end_if}
use Rattle.explain.proofs.ending.push_end.Goals as goal

pub returns : goal.returns
returns c =
    let next : c.len.result ≡ length c.in_ok-next.next.items = omega (arith, c.len.ensures, c.in_ok-next.next.ok.0) in
    puts_end_if c.push_state.result (state_at c.args.machine.now) c.args.machine.now.core.entries c.in_ok-next.next.items c.len.result c.args.text.now.items c.push_state.new.text.items
    (record { permitted = c.in_ok-next.ensures.permitted; order = c.in_ok-next.ensures.order }) next c.push_state.ensures
