-- The line of the entry behind those in common was put.
use Rattle.std.proofs.Common.{arith}
use Rattle.differences.proofs.Told.{side_put}
use Rattle.differences.proofs.comparison.push_side.Goals as goal

pub returns-in-Ok-push_entry_line-clause-put : goal.returns-in-Ok-push_entry_line-clause-put
returns-in-Ok-push_entry_line-clause-put c =
    side_put c.args.names.now c.args.entries.now c.args.count c.args.label.now c.args.text.now.items c.extend_from_slice.new.self.items c.push_entry_line.new.text.items (omega arith)
    c.in-Ok.ensures.items c.in-Ok-push_entry_line.ensures.put
