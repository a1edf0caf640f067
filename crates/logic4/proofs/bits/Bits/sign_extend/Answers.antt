use Rattle.std.proofs.Common.{◌∙◌, arith}
use Rattle.logic4.proofs.Extended.{by_sign, by_sign_cut}
use Rattle.logic4.proofs.bits.Bits.sign_extend.Goals as goal

pub returns-then-width-own-clause-value : goal.returns-then-width-own-clause-value
returns-then-width-own-clause-value c =
    c.resize.ensures.value ∙ by_sign_cut c.args.width c.args.self (omega (arith, c.width-own.ensures.value, c.if-width-own.true))

pub returns-clause-value : goal.returns-clause-value
returns-clause-value c =
    c.concat.ensures.value
    ∙ by_sign c.args.self c.repeated.result c.args.width c.width-own.result c.digit-sign.result c.width-own.ensures.value (omega (arith, c.if-width-own.false)) c.digit-sign.ensures c.repeated.ensures.value
