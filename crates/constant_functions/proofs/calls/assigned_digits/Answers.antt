use Rattle.std.proofs.Common.{ap, length, ◌∙◌}
use Rattle.constant_functions.proofs.Widths.{assigned_width}
use Rattle.constant_functions.proofs.calls.assigned_digits.Goals as goal

pub returns : goal.returns
returns g c =
    ap length c.digits_of.ensures ∙ assigned_width _ c.args.shape c.in_ok-value.value c.in_ok-value.ensures
