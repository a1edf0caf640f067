-- Texts in whose journals the same is printed at each time.
use Rattle.std.proofs.Common.{arith}
use Rattle.naming.proofs.TextLaws.{differs_if_alike}
use Rattle.naming.proofs.alone.differ_in_order.Goals as goal

pub returns-in-Some : goal.returns-in-Some
returns-in-Some c =
    differs_if_alike c.are_alike.result c.args.design.now c.args.shown.now c.as_slice-in-Some.result.now c.index-shown-0.result.end (omega (arith, c.if-shown-lt2.false)) c.are_alike.ensures
