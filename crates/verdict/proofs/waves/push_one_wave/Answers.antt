use Rattle.std.proofs.Common.{◌≡◌, ◌++◌, ◌∙◌, ap, ℕ, Bool, List, codes, option_map, subst}
use Rattle.verdict.specs.StopLines.{has_stops, stops_text}
use Rattle.verdict.specs.EndingLines.{endings_text}
use Rattle.verdict.specs.Verdicts.{up_to, states_text, endless_text}
use Rattle.verdict.specs.WaveLines.{in_every_or_none, run_has, same_text}
use Rattle.verdict.proofs.Pieces.{joined, joined_if_ok}
use Rattle.verdict.proofs.waves.push_one_wave.Goals as goal

pub returns : goal.returns
returns c =
    let old = c.args.text.now.items in
    let verdict = c.args.verdict.now in
    let until = up_to verdict.until in
    let same = same_text verdict.all verdict.registers verdict.lines in
    let states = states_text c.args.states in
    let prefix = option_map (λ path. path.now) verdict.prefix in
    let stops = stops_text (codes "wave ") prefix verdict.stops.now in
    let endless = endless_text c.args.endless prefix in
    let endings = endings_text verdict.endings (has_stops verdict.stops.now) verdict.until in
    let begun = in_every_or_none (has_stops verdict.stops.now) in
    let ends = run_has (has_stops verdict.stops.now) in
    let one = subst (λ (l : List ℕ). c.push_parts.new.text.items ≡ old ++ (l ++ until ++ c.run_has.result.now)) (c.in_every_or_none.ensures ∙ ap in_every_or_none c.has_stops-some.ensures) c.in_ok-push_parts.ensures in
    let three = subst (λ (l : List ℕ). c.push_parts.new.text.items ≡ old ++ (begun ++ until ++ l)) (c.run_has.ensures ∙ ap run_has c.has_stops-some.ensures) one in
    let four = joined c.push_same.new.text.items old (begun ++ until ++ ends) c.push_parts.new.text.items same c.in_ok-push_same.ensures three in
    let five = joined c.push_states.new.text.items old (begun ++ until ++ ends ++ same) c.push_same.new.text.items states c.in_ok-push_states.ensures four in
    let ended = subst (λ (b : Bool). c.push_endings.new.text.items ≡ c.push_states.new.text.items ++ endings_text verdict.endings b verdict.until) c.has_stops-some.ensures c.in_ok-push_endings.ensures in
    let six = joined c.push_endings.new.text.items old (begun ++ until ++ ends ++ same ++ states) c.push_states.new.text.items endings ended five in
    let seven = joined c.push_stops.new.text.items old (begun ++ until ++ ends ++ same ++ states ++ endings) c.push_endings.new.text.items stops c.in_ok-push_stops.ensures six in
    joined_if_ok c.push_endless.result c.push_endless.new.text.items old (begun ++ until ++ ends ++ same ++ states ++ endings ++ stops) c.push_stops.new.text.items endless
    c.push_endless.ensures seven
