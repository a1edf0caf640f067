use Rattle.std.proofs.Common.{◌≡◌, ◌++◌, ℕ, List, subst}
use Rattle.verdict.specs.Verdicts.{next_step_text, open_text, stop_phrase}
use Rattle.verdict.proofs.Pieces.{joined, joined_if_ok}
use Rattle.verdict.proofs.verdict.push_so_far.Goals as goal

pub returns : goal.returns
returns c =
    let old = c.args.text.now.items in
    let begun : List ℕ = open_text c.args.count in
    let why : List ℕ = stop_phrase c.args.stop in
    let one = subst (λ (l : List ℕ). c.extend_from_slice.new.self.items ≡ old ++ l) c.open_text.ensures c.in_ok-extend_from_slice.ensures.items in
    let two = joined c.push_stop_phrase.new.text.items old begun c.extend_from_slice.new.self.items why c.in_ok-push_stop_phrase.ensures one in
    joined_if_ok c.push_next_step.result c.push_next_step.new.text.items old (begun ++ why) c.push_stop_phrase.new.text.items (next_step_text c.args.count c.args.stop)
    c.push_next_step.ensures two
