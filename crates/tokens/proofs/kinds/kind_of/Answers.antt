-- Which group a first byte leaves.
use Rattle.std.proofs.Common.{sym, ◌∙◌}
use Rattle.tokens.proofs.Firsts.{empty_is, no_word, digit_is, quote_is}
use Rattle.tokens.proofs.kinds.kind_of.Goals as goal
use Rattle.tokens.proofs.kinds.kind_of.Goals.{then-is_digit-via-then-is_digit, then-is_digit-via-else-is_digit+then-first-eq34}

pub returns-in_default : goal.returns-in_default
returns-in_default c = empty_is c.args.text.now c.in_default.len_below

pub returns-then-is_digit : goal.returns-then-is_digit
returns-then-is_digit c = c.kind_by_first.ensures ∙ sym (elim c.then-is_digit.branch [
  | then-is_digit-via-then-is_digit w ↦ digit_is c.args.text.now (sym c.is_letter.ensures ∙ c.if-is_letter.false) c.if-first-eq36.false (sym c.is_digit.ensures ∙ w.if-is_digit.true)
  | then-is_digit-via-else-is_digit+then-first-eq34 w ↦ quote_is c.args.text.now w.if-first-eq34.true
])

pub returns : goal.returns
returns c = c.sign_kind.ensures ∙ sym (no_word c.args.text.now (sym c.is_letter.ensures ∙ c.if-is_letter.false) c.if-first-eq36.false)
