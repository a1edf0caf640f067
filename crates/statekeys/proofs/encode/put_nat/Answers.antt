-- One digit alone.
use Rattle.std.proofs.Common.{◌++◌, ap, sym, ◌∙◌}
use Rattle.statekeys.proofs.Numbers.{nat_code-low}
use Rattle.statekeys.proofs.encode.put_nat.Goals as goal

pub returns-then-number-lt128 : goal.returns-then-number-lt128
returns-then-number-lt128 c =
    c.in_ok-push.ensures.items ∙ ap (λ bs. c.args.bytes.now.items ++ bs) (sym (nat_code-low c.args.number c.if-number-lt128.true))
