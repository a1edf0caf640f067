use Rattle.std.proofs.Common.{◌≡◌, ◌++◌, ◌∙◌, ap, ℕ, Bool, List, codes, option_map, refl, subst}
use Rattle.verdict.specs.StopLines.{has_stops, stops_text}
use Rattle.verdict.specs.EndingLines.{endings_text}
use Rattle.verdict.specs.Verdicts.{every_or_none, run_prints, up_to, these_lines, lines_in, states_text, endless_text}
use Rattle.verdict.proofs.Pieces.{joined, joined_last}
use Rattle.verdict.proofs.verdict.push_one.Goals as goal

pub returns : goal.returns
returns c =
    let old = c.args.text.now.items in
    let verdict = c.args.verdict.now in
    let until = up_to verdict.until in
    let only = verdict.first.now in
    let lines = these_lines (lines_in only) in
    let states = states_text c.args.states in
    let prefix = option_map (λ path. path.now) verdict.prefix in
    let stops = stops_text (codes "text ") prefix verdict.stops.now in
    let endless = endless_text c.args.endless prefix in
    let endings = endings_text verdict.endings (has_stops verdict.stops.now) verdict.until in
    let begun = every_or_none (has_stops verdict.stops.now) in
    let prints = run_prints (has_stops verdict.stops.now) in
    let one = subst (λ (l : List ℕ). c.push_parts.new.text.items ≡ old ++ (l ++ until ++ c.run_prints.result.now)) (c.every_or_none.ensures ∙ ap every_or_none c.has_stops-some.ensures) c.in_ok-push_parts.ensures in
    let three = subst (λ (l : List ℕ). c.push_parts.new.text.items ≡ old ++ (begun ++ until ++ l)) (c.run_prints.ensures ∙ ap run_prints c.has_stops-some.ensures) one in
    let four = joined c.push_these_lines.new.text.items old (begun ++ until ++ prints) c.push_parts.new.text.items lines c.in_ok-push_these_lines.ensures three in
    let five = joined c.push_states.new.text.items old (begun ++ until ++ prints ++ lines) c.push_these_lines.new.text.items states c.in_ok-push_states.ensures four in
    let ended = subst (λ (b : Bool). c.push_endings.new.text.items ≡ c.push_states.new.text.items ++ endings_text verdict.endings b verdict.until) c.has_stops-some.ensures c.in_ok-push_endings.ensures in
    let six = joined c.push_endings.new.text.items old (begun ++ until ++ prints ++ lines ++ states) c.push_states.new.text.items endings ended five in
    let seven = joined c.push_stops.new.text.items old (begun ++ until ++ prints ++ lines ++ states ++ endings) c.push_endings.new.text.items stops c.in_ok-push_stops.ensures six in
    let eight = joined c.push_endless.new.text.items old (begun ++ until ++ prints ++ lines ++ states ++ endings ++ stops) c.push_stops.new.text.items endless c.in_ok-push_endless.ensures seven in
    joined_last c.extend_from_slice.result c.extend_from_slice.new.self.items old (begun ++ until ++ prints ++ lines ++ states ++ endings ++ stops ++ endless) c.push_endless.new.text.items
    only only c.extend_from_slice.ensures.items eight refl
