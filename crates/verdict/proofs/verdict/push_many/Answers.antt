use Rattle.std.proofs.Common.{◌≡◌, ◌++◌, ◌∙◌, ap, ℕ, Bool, List, codes, option_map, subst}
use Rattle.verdict.specs.StopLines.{has_stops, stops_text}
use Rattle.verdict.specs.EndingLines.{endings_text}
use Rattle.verdict.specs.Verdicts.{up_to, one_of_them, run_that_ends, endless_text}
use Rattle.verdict.proofs.Pieces.{joined, joined_if_ok}
use Rattle.verdict.proofs.verdict.push_many.Goals as goal

pub returns : goal.returns
returns c =
    let old = c.args.text.now.items in
    let verdict = c.args.verdict.now in
    let until = up_to verdict.until in
    let prefix = option_map (λ path. path.now) verdict.prefix in
    let stops = stops_text c.args.word.now prefix verdict.stops.now in
    let ends = run_that_ends (has_stops verdict.stops.now) in
    let endings = endings_text verdict.endings (has_stops verdict.stops.now) verdict.until in
    let begun : List ℕ = codes ": every lawful run" in
    let two = subst (λ (l : List ℕ). c.push_parts.new.text.items ≡ old ++ (begun ++ until ++ l ++ c.one_of_them.result.now)) (c.run_that_ends.ensures ∙ ap run_that_ends c.has_stops-some.ensures) c.in_ok-push_parts.ensures in
    let four = subst (λ (l : List ℕ). c.push_parts.new.text.items ≡ old ++ (begun ++ until ++ ends ++ l)) c.one_of_them.ensures two in
    let ended = subst (λ (b : Bool). c.push_endings.new.text.items ≡ c.push_parts.new.text.items ++ endings_text verdict.endings b verdict.until) c.has_stops-some.ensures c.in_ok-push_endings.ensures in
    let five = joined c.push_endings.new.text.items old (begun ++ until ++ ends ++ one_of_them verdict.ends) c.push_parts.new.text.items endings ended four in
    let six = joined c.push_stops.new.text.items old (begun ++ until ++ ends ++ one_of_them verdict.ends ++ endings) c.push_endings.new.text.items stops c.in_ok-push_stops.ensures five in
    joined_if_ok c.push_endless.result c.push_endless.new.text.items old (begun ++ until ++ ends ++ one_of_them verdict.ends ++ endings ++ stops) c.push_stops.new.text.items
    (endless_text c.args.endless prefix) c.push_endless.ensures six
