use Rattle.std.proofs.Common.{codes}
use Rattle.verdict.specs.Verdicts.{many_text}
use Rattle.verdict.proofs.Pieces.{joined_if_ok}
use Rattle.verdict.proofs.phrases.push_limit.Goals as goal

pub returns : goal.returns
returns c =
    joined_if_ok c.push_amount.result c.push_amount.new.text.items c.args.text.now.items (codes "a limit was met (") c.extend_from_slice.new.self.items
    (many_text c.args.most c.args.one.now c.args.many.now) c.push_amount.ensures c.in_ok-extend_from_slice.ensures.items
