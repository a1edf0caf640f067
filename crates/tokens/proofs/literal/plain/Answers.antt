use Rattle.std.proofs.Common.{rules}
use Rattle.tokens.proofs.Decimals.{short_decimal}
use Rattle.tokens.proofs.literal.plain.Goals as goal

pub overflow_cast-result : goal.overflow_cast-result
overflow_cast-result c =
    record { fits = short_decimal c.args.text.now c.decimal_of.result c.in-Some.n c.requires c.decimal_of.ensures (search rules) }
