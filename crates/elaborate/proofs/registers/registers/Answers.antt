use Rattle.std.proofs.Common.{◌≡◌, ◌++◌, map, string_bytes, sym, ap, ◌∙◌, rules}
use Rattle.elaborate.specs.Registers.{of_range}
use Rattle.elaborate.proofs.Turns.{one_declaration, found_behind, fault_in}
use Rattle.elaborate.proofs.registers.registers.Goals as goal

pub loop-declaration-preserved : goal.loop-declaration-preserved
loop-declaration-preserved c =
    let d = c.declaration-item.result in
    let grown : c.in_ok-names.names ≡ c.loop-declaration.names ++ of_range d.range (map string_bytes d.names.items) = c.in_ok-names.ensures.registers ∙ ap (λ names. c.loop-declaration.names ++ of_range d.range (map string_bytes names)) c.as_slice.ensures.value in
    let none = c.in_ok-names.ensures.allowed in
    record {
      registers = sym (one_declaration c.args.limits c.loop-declaration.names c.args.declarations.now d c.loop-declaration.declaration-index c.loop-declaration-test.true c.declaration-item.is c.in_ok-names.names grown) ∙ c.loop-declaration.invariant.registers;
      found = c.loop-declaration.invariant.found ∙ found_behind c.args.limits c.loop-declaration.names c.args.declarations.now d c.loop-declaration.declaration-index c.loop-declaration-test.true c.declaration-item.is c.in_ok-names.names grown (rw c.as_slice.ensures.value at none);
    }

pub returns-in_err-names-clause-fault : goal.returns-in_err-names-clause-fault
returns-in_err-names-clause-fault c =
    let d = c.declaration-item.result in
    let told = rw c.as_slice.ensures.value at c.in_err-names.ensures.fault in
    let is = rw (← c.loop-declaration.invariant.found) at (fault_in c.args.limits c.loop-declaration.names c.args.declarations.now d c.loop-declaration.declaration-index c.loop-declaration-test.true c.declaration-item.is c.in_err-names.field-0.0 told) in
    search rules
