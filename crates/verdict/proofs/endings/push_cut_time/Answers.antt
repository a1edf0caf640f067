use Rattle.std.proofs.Common.{codes, decimal}
use Rattle.verdict.proofs.Pieces.{joined_if_ok}
use Rattle.verdict.proofs.endings.push_cut_time.Goals as goal

pub returns : goal.returns
returns c =
    joined_if_ok c.push_number.result c.push_number.new.text.items c.args.text.now.items (codes " at time ") c.extend_from_slice.new.self.items
    (decimal c.args.time) c.push_number.ensures c.in_ok-extend_from_slice.ensures.items
