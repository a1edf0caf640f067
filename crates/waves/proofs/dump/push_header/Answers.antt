-- The pieces of the header, one after another.
use Rattle.std.proofs.Common.{◌≡◌, ◌++◌, ◌∙◌, ap, ℕ, List, codes}
use Rattle.waves.specs.Dump.{registers_text, unknown_values_text}
use Rattle.waves.proofs.Pieces.{joined, joined_last}
use Rattle.waves.proofs.dump.push_header.Goals as goal

pub returns : goal.returns
returns c =
    let old = c.args.text.now.items in
    let scope = c.args.scope.now in
    let registers = registers_text 0 c.args.design.now.names c.args.design.now.widths in
    let unknown = unknown_values_text 0 c.args.design.now.widths in
    let first : List ℕ = codes "$timescale 1 ns $end\n$scope module " in
    let second : List ℕ = codes " $end\n" in
    let third : List ℕ = codes "$upscope $end\n$enddefinitions $end\n#0\n$dumpvars\n" in
    let last : List ℕ = codes "$end\n" in
    let named : c.extend_from_slice-2.new.self.items ≡ c.extend_from_slice.new.self.items ++ scope =
    c.in_ok-extend_from_slice-2.ensures.items ∙ ap (λ (t : List ℕ). c.extend_from_slice.new.self.items ++ t) c.as_bytes.ensures.value in
    let two = joined c.extend_from_slice-2.new.self.items old first c.extend_from_slice.new.self.items scope named c.in_ok-extend_from_slice.ensures.items in
    let three = joined c.extend_from_slice-3.new.self.items old (first ++ scope) c.extend_from_slice-2.new.self.items second c.in_ok-extend_from_slice-3.ensures.items two in
    let four = joined c.push_registers.new.text.items old (first ++ scope ++ second) c.extend_from_slice-3.new.self.items registers c.in_ok-push_registers.ensures three in
    let five = joined c.extend_from_slice-4.new.self.items old (first ++ scope ++ second ++ registers) c.push_registers.new.text.items third c.in_ok-extend_from_slice-4.ensures.items four in
    let six = joined c.push_unknown.new.text.items old (first ++ scope ++ second ++ registers ++ third) c.extend_from_slice-4.new.self.items unknown c.in_ok-push_unknown.ensures five in
    joined_last c.extend_from_slice-5.result c.extend_from_slice-5.new.self.items old (first ++ scope ++ second ++ registers ++ third ++ unknown) c.push_unknown.new.text.items last c.extend_from_slice-5.ensures.items six
