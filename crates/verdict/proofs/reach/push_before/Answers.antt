use Rattle.std.proofs.Common.{◌≡◌, ◌++◌, ℕ, List, codes, decimal, refl}
use Rattle.verdict.proofs.Pieces.{joined, joined_last}
use Rattle.verdict.proofs.reach.push_before.Goals as goal

pub returns : goal.returns
returns c =
    let old = c.args.text.now.items in
    let number = decimal c.args.time in
    let begun : List ℕ = codes "before time " in
    let ended : List ℕ = codes " all orders were followed\n" in
    let two = joined c.push_number.new.text.items old begun c.extend_from_slice.new.self.items number c.in_ok-push_number.ensures c.in_ok-extend_from_slice.ensures.items in
    joined_last c.extend_from_slice-2.result c.extend_from_slice-2.new.self.items old (begun ++ number) c.push_number.new.text.items
    ended ended c.extend_from_slice-2.ensures.items two refl
