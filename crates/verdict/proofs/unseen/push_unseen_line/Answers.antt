use Rattle.std.proofs.Common.{◌≡◌, ◌∙◌, ◌++◌, ap, ℕ, List, codes, decimal, refl}
use Rattle.verdict.specs.UnseenLines.{differ_at_text}
use Rattle.verdict.proofs.Pieces.{joined, joined_last}
use Rattle.verdict.proofs.unseen.push_unseen_line.Goals as goal

pub returns : goal.returns
returns c =
    let old = c.args.text.now.items in
    let race = c.args.race.now in
    let names = c.args.names.now in
    let word : List ℕ = differ_at_text c.args.count in
    let time : List ℕ = decimal c.args.time in
    let begun : List ℕ = codes "a race that no line shows: " in
    let ended : List ℕ = codes ": not compared (--observe registers)\n" in
    let differ = c.in_ok-extend_from_slice-4.ensures.items ∙ ap (λ (l : List ℕ). c.extend_from_slice-3.new.self.items ++ l) c.differ_at.ensures in
    let one = joined c.extend_from_slice-2.new.self.items old begun c.extend_from_slice.new.self.items race c.in_ok-extend_from_slice-2.ensures.items c.in_ok-extend_from_slice.ensures.items in
    let two = joined c.extend_from_slice-3.new.self.items old (begun ++ race) c.extend_from_slice-2.new.self.items names c.in_ok-extend_from_slice-3.ensures.items one in
    let three = joined c.extend_from_slice-4.new.self.items old (begun ++ race ++ names) c.extend_from_slice-3.new.self.items word differ two in
    let four = joined c.push_number.new.text.items old (begun ++ race ++ names ++ word) c.extend_from_slice-4.new.self.items time c.in_ok-push_number.ensures three in
    joined_last c.extend_from_slice-5.result c.extend_from_slice-5.new.self.items old (begun ++ race ++ names ++ word ++ time) c.push_number.new.text.items
    ended ended c.extend_from_slice-5.ensures.items four refl
