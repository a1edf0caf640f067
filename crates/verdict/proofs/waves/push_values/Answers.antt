use Rattle.std.proofs.Common.{◌≡◌, ◌++◌, ℕ, List, codes, refl}
use Rattle.verdict.specs.WaveLines.{same_lines_text, these_registers}
use Rattle.verdict.proofs.Pieces.{joined, joined_last}
use Rattle.verdict.proofs.waves.push_values.Goals as goal

pub returns : goal.returns
returns c =
    let old = c.args.text.now.items in
    let registers = these_registers c.args.all c.args.registers in
    let lines = same_lines_text c.args.lines in
    let both : List ℕ = codes " (and " in
    let ended : List ℕ = codes ")\n" in
    let two = joined c.extend_from_slice.new.self.items old registers c.push_these_registers.new.text.items both c.in_ok-extend_from_slice.ensures.items c.in_ok-push_these_registers.ensures in
    let three = joined c.push_same_lines.new.text.items old (registers ++ both) c.extend_from_slice.new.self.items lines c.in_ok-push_same_lines.ensures two in
    joined_last c.extend_from_slice-2.result c.extend_from_slice-2.new.self.items old (registers ++ both ++ lines) c.push_same_lines.new.text.items
    ended ended c.extend_from_slice-2.ensures.items three refl
