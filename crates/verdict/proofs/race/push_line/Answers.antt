use Rattle.std.proofs.Common.{◌++◌, ℕ, List, codes, decimal}
use Rattle.verdict.specs.RaceLines.{quoted_line}
use Rattle.verdict.proofs.Pieces.{joined, joined_if_ok}
use Rattle.verdict.proofs.race.push_line.Goals as goal

pub returns : goal.returns
returns c =
    let old = c.args.text.now.items in
    let begun : List ℕ = codes ": printed line " in
    let number : List ℕ = decimal c.args.number in
    let two = joined c.push_number.new.text.items old begun c.extend_from_slice.new.self.items number c.in_ok-push_number.ensures c.in_ok-extend_from_slice.ensures.items in
    joined_if_ok c.push_quoted.result c.push_quoted.new.text.items old (begun ++ number) c.push_number.new.text.items (quoted_line c.args.line.now) c.push_quoted.ensures two
