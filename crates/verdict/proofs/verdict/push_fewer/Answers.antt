use Rattle.std.proofs.Common.{◌≡◌, ◌++◌, ℕ, List, codes, decimal}
use Rattle.verdict.specs.Verdicts.{random_orders_text, stop_text}
use Rattle.verdict.proofs.Pieces.{joined, joined_if_ok}
use Rattle.verdict.proofs.verdict.push_fewer.Goals as goal

pub returns : goal.returns
returns c =
    let old = c.args.text.now.items in
    let made = decimal c.args.made in
    let asked = random_orders_text c.args.asked in
    let begun : List ℕ = codes " in " in
    let of_all : List ℕ = codes " of " in
    let beside : List ℕ = codes " and those tried to name races: " in
    let two = joined c.push_number.new.text.items old begun c.extend_from_slice.new.self.items made c.in_ok-push_number.ensures c.in_ok-extend_from_slice.ensures.items in
    let three = joined c.extend_from_slice-2.new.self.items old (begun ++ made) c.push_number.new.text.items of_all c.in_ok-extend_from_slice-2.ensures.items two in
    let four = joined c.push_orders.new.text.items old (begun ++ made ++ of_all) c.extend_from_slice-2.new.self.items asked c.in_ok-push_orders.ensures three in
    let five = joined c.extend_from_slice-3.new.self.items old (begun ++ made ++ of_all ++ asked) c.push_orders.new.text.items beside c.in_ok-extend_from_slice-3.ensures.items four in
    joined_if_ok c.push_stop.result c.push_stop.new.text.items old (begun ++ made ++ of_all ++ asked ++ beside) c.extend_from_slice-3.new.self.items (stop_text c.args.stop)
    c.push_stop.ensures five
