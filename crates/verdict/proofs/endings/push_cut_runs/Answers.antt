use Rattle.std.proofs.Common.{◌≡◌, ◌++◌, ℕ, List, codes, refl, subst}
use Rattle.verdict.specs.EndingLines.{cut_at_text, cut_head}
use Rattle.verdict.proofs.Pieces.{joined, joined_last}
use Rattle.verdict.proofs.endings.push_cut_runs.Goals as goal

pub returns : goal.returns
returns c =
    let old = c.args.text.now.items in
    let begun : List ℕ = cut_head c.args.others in
    let at : List ℕ = cut_at_text c.args.until in
    let ended : List ℕ = codes ")\n" in
    let one = subst (λ (l : List ℕ). c.extend_from_slice.new.self.items ≡ old ++ l) c.cut_head.ensures c.in_ok-extend_from_slice.ensures.items in
    let two = joined c.push_cut_at.new.text.items old begun c.extend_from_slice.new.self.items at c.in_ok-push_cut_at.ensures one in
    joined_last c.extend_from_slice-2.result c.extend_from_slice-2.new.self.items old (begun ++ at) c.push_cut_at.new.text.items
    ended ended c.extend_from_slice-2.ensures.items two refl
