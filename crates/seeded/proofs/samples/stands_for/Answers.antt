-- A run that came to its end, and isn't like a kept one.
use Rattle.std.proofs.Common.{◌≡◌, true, false, sym, ◌∙◌}
use Rattle.seeded.proofs.GivingWay.{unlike_other}
use Rattle.seeded.proofs.samples.stands_for.Goals as goal

pub returns-then-is_whole-clause-other : goal.returns-then-is_whole-clause-other
returns-then-is_whole-clause-other c = λ no.
    unlike_other c.args.one.now c.args.run.now (c.is_whole.ensures.0 c.if-is_whole.true)
    (λ like. let clash : false ≡ true = sym no ∙ c.is_same.ensures.1 like in cc)
