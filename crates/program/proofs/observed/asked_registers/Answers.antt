-- The registers that a list of names means are those that are asked for.
use Rattle.std.proofs.Common.{subst, sym}
use Rattle.arguments.specs.declared.observed.Observed.{Observed}
use Rattle.program.specs.Observed.{AreRegistersOf, HasNoRegister}
use Rattle.program.proofs.Waved.{named_asked}
use Rattle.program.proofs.observed.asked_registers.Goals as goal

pub returns-in-Named : goal.returns-in-Named
returns-in-Named c =
    let code = c.args.design.now in
    named_asked code c.args.observed c.in-Named.names.now c.registers_named.result (λ registers h. subst (λ (o : Observed). AreRegistersOf code o registers) (sym c.in-Named.is) h)
    (λ name h. subst (λ (o : Observed). HasNoRegister code o name) (sym c.in-Named.is) h) c.registers_named.ensures
