-- One register more.
use Rattle.std.proofs.Common.{◌≡◌, ◌∙◌, ◌+◌, ◌<◌, ◌++◌, [], ℕ, List, length, get_or, drop, sym, ap, arith}
use Rattle.waves.specs.ScopedDump.{unknown_shown, unknown_shown_text}
use Rattle.waves.proofs.Pieces.{moved}
use Rattle.waves.proofs.ScopedLaws.{unknown_next}
use Rattle.waves.proofs.scoped.push_unknown.Goals as goal

pub loop-register-preserved : goal.loop-register-preserved
loop-register-preserved c =
    let r = c.loop-register.register in
    let names = c.args.design.now.names in
    let widths = c.args.design.now.widths in
    let text = c.loop-register.text.items in
    let named : length names ≡ length widths = c.registers-register-end.ensures.compiled.named in
    let inside' : r < length widths = omega (arith, c.loop-register-test.true, c.registers-register-end.ensures.value) in
    let inside : r < length names = omega (arith, named, inside') in
    moved (c.args.text.now.items ++ unknown_shown_text 0 names widths) c.push_unknown_register.new.text.items text (unknown_shown r (get_or names r []) (get_or widths r 0))
    (unknown_shown_text (r + 1) (drop (r + 1) names) (drop (r + 1) widths)) c.in_ok-push_unknown_register.ensures
    (ap (λ (t : List ℕ). text ++ t) (sym (unknown_next r names widths inside inside')) ∙ c.loop-register.invariant)
