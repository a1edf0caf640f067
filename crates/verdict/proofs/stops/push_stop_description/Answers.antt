use Rattle.std.proofs.Common.{◌++◌, ℕ, List, Some, codes, decimal, option_map}
use Rattle.verdict.specs.RaceLines.{saved_journal_text}
use Rattle.verdict.specs.StopLines.{stop_cause_text}
use Rattle.verdict.proofs.Pieces.{joined_if_ok}
use Rattle.verdict.proofs.stops.push_stop_description.Goals as goal

pub returns : goal.returns
returns c =
    let word = c.args.word.now in
    let number = decimal c.args.stop.number in
    let journal = saved_journal_text (option_map (λ path. path.now) c.args.prefix) (Some c.args.stop.number) in
    let stops : List ℕ = codes " stops short: entry " in
    let entry = decimal c.args.stop.entry in
    joined_if_ok c.push_stop_cause.result c.push_stop_cause.new.text.items c.args.text.now.items (word ++ number ++ journal ++ stops ++ entry) c.push_parts.new.text.items
    (stop_cause_text c.args.stop.cause) c.push_stop_cause.ensures c.in_ok-push_parts.ensures
