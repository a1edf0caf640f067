use Rattle.std.proofs.Common.{◌++◌, ℕ, List, Some, codes, decimal, option_map}
use Rattle.verdict.specs.RaceLines.{quoted_line, saved_journal_text}
use Rattle.verdict.proofs.Pieces.{joined_if_ok}
use Rattle.verdict.proofs.waves.push_side.Goals as goal

pub returns : goal.returns
returns c =
    let number = decimal c.args.number in
    let journal = saved_journal_text (option_map (λ path. path.now) c.args.prefix) (Some c.args.number) in
    let begun : List ℕ = codes "  in wave " in
    let it : List ℕ = codes " it" in
    joined_if_ok c.push_quoted.result c.push_quoted.new.text.items c.args.text.now.items (begun ++ number ++ journal ++ it) c.push_parts.new.text.items (quoted_line c.args.line.now)
    c.push_quoted.ensures c.in_ok-push_parts.ensures
