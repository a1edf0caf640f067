-- One of the registers, where it differs.
use Rattle.std.proofs.Common.{◌<◌, length, get_or, arith}
use Rattle.settling.proofs.Listed.{there_at}
use Rattle.settling.proofs.between.any_differs.Goals as goal

pub returns-then-differs : goal.returns-then-differs
returns-then-differs c = λ on.
    let registers = c.args.registers.now in
    let i = c.loop-register.register-index in
    let within : i < length registers = omega arith in
    (get_or registers i 0, there_at registers i 0 within, c.differs.ensures c.if-differs.true)
