-- There are as many values, and as many givers, as registers.
use Rattle.std.proofs.Common.{◌∙◌, arith, sym}
use Rattle.differences.proofs.following.compare_at.Goals as goal

pub push_differing-requires-clause-first_givers : goal.push_differing-requires-clause-first_givers
push_differing-requires-clause-first_givers c =
    let many = c.in-Ok.ensures.followed.registers in
    grind (arith, many)

pub push_differing-requires-clause-second_givers : goal.push_differing-requires-clause-second_givers
push_differing-requires-clause-second_givers c =
    let many = c.in-Ok-pass.ensures.followed.registers in
    grind (arith, many)

pub returns-clause-one_registers : goal.returns-clause-one_registers
returns-clause-one_registers c = c.given.ensures.count ∙ sym c.in-Ok.ensures.followed.registers

pub returns-clause-other_registers : goal.returns-clause-other_registers
returns-clause-other_registers c = c.given-2.ensures.count ∙ sym c.in-Ok-pass.ensures.followed.registers
