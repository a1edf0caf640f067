-- The name of a register, and nothing behind the last one.
use Rattle.std.proofs.Common.{◌≡◌, ◌≤◌, ◌∙◌, [], length, sym, arith}
use Rattle.std.proofs.lemmas.Option.{get_or_from_slice_get}
use Rattle.std.proofs.lemmas.List.{get_or_past}
use Rattle.waves.proofs.scoped.name_of.Goals as goal

pub returns-then-register-registers : goal.returns-then-register-registers
returns-then-register-registers c =
    c.as_bytes.ensures.value ∙ sym (get_or_from_slice_get c.args.design.now.names c.args.register c.name.result.now [] (sym c.name.ensures))

pub returns-else-register-registers : goal.returns-else-register-registers
returns-else-register-registers c =
    let named : length c.args.design.now.names ≡ length c.args.design.now.widths = c.registers-registers.ensures.compiled.named in
    let behind : length c.args.design.now.names ≤ c.args.register = omega (arith, named, c.registers-registers.ensures.value, c.if-register-registers.false) in
    sym (get_or_past c.args.design.now.names c.args.register [] behind)
