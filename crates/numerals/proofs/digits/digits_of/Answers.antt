-- Each turn takes the last byte of what is left.
use Rattle.numerals.specs.Numbers.{digits_of_byte}
use Rattle.numerals.proofs.Turns.{digits_turn, digits_stop}
use Rattle.numerals.proofs.digits.digits_of.Goals as goal

pub loop-left-preserved : goal.loop-left-preserved
loop-left-preserved c =
    digits_turn (digits_of_byte c.args.bits) _ c.loop-left.left.now _ c.loop-left.found.items _ _ c.in-len1-up.len_at_least c.if-not-branch.false c.in_ok-add_digits.ensures c.loop-left.invariant

pub returns-then-not-branch : goal.returns-then-not-branch
returns-then-not-branch c =
    digits_stop (digits_of_byte c.args.bits) _ c.loop-left.left.now _ c.loop-left.found.items _ _ c.in-len1-up.len_at_least c.if-not-branch.true c.in_ok-add_digits.ensures c.loop-left.invariant
