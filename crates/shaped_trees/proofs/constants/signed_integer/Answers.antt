use Rattle.std.proofs.Common.{◌≡◌, ◌-◌, ◌^◌, true, length, sym, ap, ◌∙◌, rules, arith}
use Rattle.logic4.specs.Signed.{is_negative}
use Rattle.logic4.specs.VectorWords.{first_word, second_word}
use Rattle.shaped_trees.proofs.Integers.{unknown_integer, negative_integer}
use Rattle.shaped_trees.proofs.constants.signed_integer.Goals as goal

pub returns-then-unknown-ne0 : goal.returns-then-unknown-ne0
returns-then-unknown-ne0 c =
    let second : c.words-number.result.1 ≡ second_word c.args.digits = ap (λ p. p.1) c.words-number.ensures.value in
    unknown_integer c.args.digits c.words-number.ensures.words true (λ e. c.if-unknown-ne0.true (second ∙ e))

pub returns : goal.returns
returns c =
    let v = c.args.digits in
    let first : c.words-number.result.0 ≡ first_word v = ap (λ p. p.0) c.words-number.ensures.value in
    let second : c.words-number.result.1 ≡ second_word v = ap (λ p. p.1) c.words-number.ensures.value in
    let sign : is_negative v ≡ true = first_of (cc, search rules, grind arith) in
    let beyond : c.greatest_of.result - c.words-number.result.0 ≡ 2 ^ length v - 1 - first_word v =
    (λ i. c.greatest_of.ensures i - first i) ∙ ap (λ w. 2 ^ w - 1 - first_word v) c.width.ensures.value in
    c.negative.ensures ∙ negative_integer v c.words-number.ensures.words (sym second ∙ c.if-unknown-ne0.false) sign (c.greatest_of.result - c.words-number.result.0) beyond
