use Rattle.std.proofs.Common.{◌++◌, [], ℕ, List, get_or, ap, sym, ◌∙◌, reverse}
use Rattle.explore.specs.Pieces.{pieces}
use Rattle.explore.specs.Lineage.{ways}
use Rattle.explore.proofs.Steps.{gone-none}
use Rattle.explore.proofs.lineage.Lineage.way.Goals as goal

pub returns : goal.returns
returns g c =
    let all = ways c.args.self.now in
    let whole = c.loop-k.invariant.rest ∙ (ap (λ (n : ℕ). get_or all n [] ++ reverse c.loop-k.back.items) c.loop-k-test.false ∙ ap (λ (l : List g.row.M.Denot). l ++ reverse c.loop-k.back.items) (gone-none (pieces c.args.self.now.steps))) in
    c.reverse.ensures.items ∙ sym whole
