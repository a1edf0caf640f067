use Rattle.std.proofs.Common.{◌≡◌, ◌++◌, ℕ, List, codes, refl}
use Rattle.verdict.specs.Verdicts.{random_orders_text}
use Rattle.verdict.proofs.Pieces.{joined, joined_last}
use Rattle.verdict.proofs.verdict.push_asked.Goals as goal

pub returns : goal.returns
returns c =
    let old = c.args.text.now.items in
    let orders = random_orders_text c.args.made in
    let begun : List ℕ = codes " in " in
    let ended : List ℕ = codes " and those tried to name races: others may be possible\n" in
    let two = joined c.push_orders.new.text.items old begun c.extend_from_slice.new.self.items orders c.in_ok-push_orders.ensures c.in_ok-extend_from_slice.ensures.items in
    joined_last c.extend_from_slice-2.result c.extend_from_slice-2.new.self.items old (begun ++ orders) c.push_orders.new.text.items
    ended ended c.extend_from_slice-2.ensures.items two refl
