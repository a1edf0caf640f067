-- One register more.
use Rattle.std.proofs.Common.{◌≡◌, ◌+◌, ◌<◌, ℕ, List, [], ◌++◌, Some, length, get_or, drop, sym, ◌∙◌, ap, arith}
use Rattle.std.specs.Prelude.{slice_get}
use Rattle.std.proofs.lemmas.Option.{slice_get-get_or}
use Rattle.model.specs.Syntax.{Text}
use Rattle.waves.specs.Dump.{register_line, registers_text}
use Rattle.waves.proofs.DumpLaws.{registers_next}
use Rattle.waves.proofs.Pieces.{moved}
use Rattle.waves.proofs.dump.push_registers.Goals as goal

-- the name of a register
name_is : (names : List Text) (r : ℕ) (name : Text) → r < length names → Some name ≡ slice_get names r → name ≡ get_or names r []
name_is names r name inside h =
    let both : Some name ≡ Some (get_or names r []) = h ∙ slice_get-get_or names r [] inside in
    cc

pub loop-register-preserved : goal.loop-register-preserved
loop-register-preserved c =
    let r = c.loop-register.register in
    let names = c.args.design.now.names in
    let widths = c.args.design.now.widths in
    let text = c.loop-register.text.items in
    let named : length names ≡ length widths = c.registers-register-end.ensures.compiled.named in
    let inside' : r < length widths = omega (arith, c.loop-register-test.true, c.registers-register-end.ensures.value) in
    let inside : r < length names = omega (arith, named, inside') in
    let name : c.name.result.now ≡ get_or names r [] = name_is names r c.name.result.now inside c.name.ensures in
    let width : c.width.result ≡ get_or widths r 0 = c.width.ensures.value in
    let put : c.push_register.new.text.items ≡ text ++ register_line r (get_or names r []) (get_or widths r 0) =
    c.in_ok-push_register.ensures ∙ (ap (λ (n : Text). text ++ register_line r n c.width.result) name ∙ ap (λ (n : ℕ). text ++ register_line r (get_or names r []) n) width) in
    moved (c.args.text.now.items ++ registers_text 0 names widths) c.push_register.new.text.items text (register_line r (get_or names r []) (get_or widths r 0)) (registers_text (r + 1) (drop (r + 1) names) (drop (r + 1) widths)) put
    (ap (λ (t : List ℕ). text ++ t) (sym (registers_next r names widths inside inside')) ∙ c.loop-register.invariant)
