use Rattle.std.proofs.Common.{◌++◌, ◌/◌, ap, sym, ◌∙◌}
use Rattle.statekeys.specs.KeyCodes.{nat_code}
use Rattle.statekeys.proofs.Numbers.{nat_code-low, nat_code_more}
use Rattle.statekeys.proofs.encode.put_digits.Goals as goal

pub loop-left-preserved : goal.loop-left-preserved
loop-left-preserved c =
    ap (λ bs. bs ++ nat_code (c.loop-left.left / 128)) c.in_ok-push.ensures.items
    ∙ nat_code_more _ c.loop-left.left c.loop-left-test.true ∙ c.loop-left.invariant

pub returns : goal.returns
returns c =
    c.in_ok-push-2.ensures.items ∙ ap (λ bs. c.loop-left.bytes.items ++ bs) (sym (nat_code-low c.loop-left.left c.loop-left-test.false))
    ∙ c.loop-left.invariant
