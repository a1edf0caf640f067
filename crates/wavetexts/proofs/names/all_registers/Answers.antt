use Rattle.std.proofs.Common.{length, arith}
use Rattle.wavetexts.specs.Names.{registers_from}
use Rattle.wavetexts.proofs.Named.{from_on}
use Rattle.wavetexts.proofs.names.all_registers.Goals as goal

pub loop-register-preserved : goal.loop-register-preserved
loop-register-preserved c =
    from_on c.loop-register.register (length c.args.design.now.widths) c.loop-register.registers.items c.push.new.self.items (registers_from 0 (length c.args.design.now.widths))
    (omega (arith, c.loop-register-test.true, c.registers-register-end.ensures.value)) c.in_ok-push.ensures.items c.loop-register.invariant
