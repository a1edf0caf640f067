use Rattle.std.proofs.Common.{ℕ, ◌^◌, ◌*◌, sym, ◌∙◌, subst}
use Rattle.statement_parts.specs.Scales.{IsRounded}
use Rattle.statement_parts.proofs.Tens.{rounded_exactly, rounded_off, scaled_by}
use Rattle.statement_parts.proofs.scales.scaled_decimal.Goals as goal
use Rattle.statement_parts.proofs.scales.scaled_decimal.Goals.{then-number-finer+in_ok-whole, else-number-finer}

pub returns : goal.returns
returns c =
    let n = c.args.number in
    let up : ℕ = c.saturating_sub-finer.result in
    let whole : ℕ = c.if-number-finer.whole in
    let rounded : IsRounded (n.digits * 10 ^ up) (10 ^ n.behind) whole =
    elim c.if-number-finer.branch [
      | then-number-finer+in_ok-whole w ↦ rounded_exactly n.digits up n.behind whole w.if-number-finer.true (w.whole-is ∙ w.in_ok-whole.ensures)
      | else-number-finer w ↦ subst (λ (x : ℕ). IsRounded (n.digits * 10 ^ up) (10 ^ n.behind) x) (sym w.whole-is) (rounded_off n.digits up n.behind w.rounded-whole.result w.if-number-finer.false w.rounded-whole.ensures)
    ] in
    scaled_by c.in_tens-2.result n c.args.scale up whole c.saturating_sub-finer.ensures rounded c.in_tens-2.ensures
