use Rattle.std.proofs.Common.{◌∙◌, sym, ap}
use Rattle.logic4.specs.Extensions.{extend_vector}
use Rattle.logic4.proofs.Extended.{by_zeros}
use Rattle.logic4.proofs.bits.Bits.extend.Goals as goal

pub returns-in-Zeros-clause-value : goal.returns-in-Zeros-clause-value
returns-in-Zeros-clause-value c =
    c.resize.ensures.value ∙ by_zeros c.args.width c.args.self ∙ sym (ap (λ by. extend_vector by c.args.width c.args.self) c.in-Zeros.is)
