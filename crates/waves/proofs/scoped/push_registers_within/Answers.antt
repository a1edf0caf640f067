-- One register more.
use Rattle.std.proofs.Common.{◌≡◌, ◌∙◌, ◌+◌, ◌<◌, ◌++◌, [], ℕ, List, length, get_or, drop, map, option_map, sym, ap, arith}
use Rattle.waves.specs.ScopedDump.{plain_scope, register_within, registers_within}
use Rattle.waves.proofs.Pieces.{moved}
use Rattle.waves.proofs.ScopedLaws.{within_next}
use Rattle.waves.proofs.scoped.push_registers_within.Goals as goal

pub loop-register-preserved : goal.loop-register-preserved
loop-register-preserved c =
    let r = c.loop-register.register in
    let all = c.args.all.now in
    let scopes = map plain_scope all.scopes.now in
    let around = option_map (λ path. path.now) c.args.around in
    let names = all.design.now.names in
    let widths = all.design.now.widths in
    let text = c.loop-register.text.items in
    let named : length names ≡ length widths = c.registers-register-end.ensures.compiled.named in
    let inside' : r < length widths = omega (arith, c.loop-register-test.true, c.registers-register-end.ensures.value) in
    let inside : r < length names = omega (arith, named, inside') in
    moved (c.args.text.now.items ++ registers_within scopes around 0 names widths) c.push_register_within.new.text.items text (register_within scopes around r (get_or names r []) (get_or widths r 0))
    (registers_within scopes around (r + 1) (drop (r + 1) names) (drop (r + 1) widths)) c.in_ok-push_register_within.ensures
    (ap (λ (t : List ℕ). text ++ t) (sym (within_next scopes around r names widths inside inside')) ∙ c.loop-register.invariant)
