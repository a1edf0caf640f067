use Rattle.std.proofs.Common.{◌≡◌, false, pos, sym, ap, ◌∙◌}
use Rattle.logic4.specs.VectorWords.{first_word, second_word}
use Rattle.shaped_trees.specs.Integers.{short}
use Rattle.shaped_trees.proofs.Integers.{unknown_integer, plain_integer}
use Rattle.shaped_trees.proofs.constants.unsigned_integer.Goals as goal

pub returns-then-unknown-ne0 : goal.returns-then-unknown-ne0
returns-then-unknown-ne0 c =
    let second : c.words-number.result.1 ≡ second_word c.args.digits = ap (λ p. p.1) c.words-number.ensures.value in
    unknown_integer c.args.digits c.words-number.ensures.words false (λ e. c.if-unknown-ne0.true (second ∙ e))

pub returns : goal.returns
returns c =
    let first : c.words-number.result.0 ≡ first_word c.args.digits = ap (λ p. p.0) c.words-number.ensures.value in
    let second : c.words-number.result.1 ≡ second_word c.args.digits = ap (λ p. p.1) c.words-number.ensures.value in
    c.positive.ensures ∙ ap (λ k. short (pos k)) first ∙ plain_integer c.args.digits c.words-number.ensures.words (sym second ∙ c.if-unknown-ne0.false)
