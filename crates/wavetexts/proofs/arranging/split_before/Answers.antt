use Rattle.std.proofs.Common.{◌∙◌, sym}
use Rattle.wavetexts.proofs.Arranged.{placed_behind, placed_here, placed_last}
use Rattle.wavetexts.proofs.arranging.split_before.Goals as goal

pub returns-then-comes_before-clause-some : goal.returns-then-comes_before-clause-some
returns-then-comes_before-clause-some c =
    placed_behind c.args.line.now c.args.text.now c.in-Some.first.now c.in-Some.more.now c.in-Some.ensures.some (sym c.comes_before.ensures ∙ c.if-comes_before.true)

pub returns-else-comes_before-clause-none : goal.returns-else-comes_before-clause-none
returns-else-comes_before-clause-none c =
    placed_here c.args.line.now c.args.text.now c.in-Some.first.now c.in-Some.more.now c.in-Some.ensures.some (sym c.comes_before.ensures ∙ c.if-comes_before.false)

pub returns-in-None-clause-none : goal.returns-in-None-clause-none
returns-in-None-clause-none c = placed_last c.args.line.now c.args.text.now c.in-None.ensures.none
