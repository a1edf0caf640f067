-- One write that changes its register.
use Rattle.std.proofs.Common.{sym, ◌∙◌}
use Rattle.steps.proofs.Writes.{changed_one}
use Rattle.steps.proofs.cells.change.Goals as goal

pub returns-clause-written : goal.returns-clause-written
returns-clause-written c =
    changed_one c.args.cells.now.items c.args.changes.now.items c.push.new.self.items c.args.register c.args.value c.index.result.now c.saturating_add.result c.requires c.index.ensures
    (sym c.eq.ensures ∙ c.if-eq.false) c.saturating_add.ensures c.in_ok-push.ensures.items
