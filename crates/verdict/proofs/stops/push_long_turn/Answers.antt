use Rattle.std.proofs.Common.{◌≡◌, ◌++◌, ℕ, List, codes, decimal, refl}
use Rattle.verdict.proofs.Pieces.{joined, joined_last}
use Rattle.verdict.proofs.stops.push_long_turn.Goals as goal

pub returns : goal.returns
returns c =
    let old = c.args.text.now.items in
    let process = decimal c.args.process in
    let begun : List ℕ = codes " would be a turn of process " in
    let ended : List ℕ = codes ", which is too long\n" in
    let two = joined c.push_number.new.text.items old begun c.extend_from_slice.new.self.items process c.in_ok-push_number.ensures c.in_ok-extend_from_slice.ensures.items in
    joined_last c.extend_from_slice-2.result c.extend_from_slice-2.new.self.items old (begun ++ process) c.push_number.new.text.items
    ended ended c.extend_from_slice-2.ensures.items two refl
