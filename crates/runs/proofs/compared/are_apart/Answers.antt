-- Two runs that came to their ends.
use Rattle.runs.proofs.Parting.{whole_apart}
use Rattle.runs.proofs.compared.are_apart.Goals as goal

pub returns-then-is_whole-2 : goal.returns-then-is_whole-2
returns-then-is_whole-2 c =
    whole_apart c.args.one.now c.args.other.now c.is_same.result (c.is_whole.ensures.0 c.if-is_whole.true)
    (c.is_whole-then-is_whole.ensures.0 c.if-is_whole-2.true) c.is_same.ensures
