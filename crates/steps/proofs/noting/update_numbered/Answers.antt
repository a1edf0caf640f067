-- The update with the number, and the others.
use Rattle.std.proofs.Common.{rules, ◌<◌, length, sym, ◌∙◌}
use Rattle.steps.proofs.Logged.{update_here, update_past}
use Rattle.steps.proofs.noting.update_numbered.Goals as goal

pub returns-then-update-number : goal.returns-then-update-number
returns-then-update-number c =
    let lt : c.loop-i.i < length c.args.updates.now.items = search rules in
    sym c.loop-i.invariant ∙ update_here c.args.updates.now.items c.loop-i.i c.args.number c.index-update.result.now lt c.index-update.ensures c.if-update-number.true

pub loop-i-preserved : goal.loop-i-preserved
loop-i-preserved c =
    let lt : c.loop-i.i < length c.args.updates.now.items = search rules in
    update_past c.args.updates.now.items c.loop-i.i c.args.number c.index-update.result.now lt c.index-update.ensures c.if-update-number.false ∙ c.loop-i.invariant
