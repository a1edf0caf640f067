use Rattle.std.proofs.Common.{◌++◌, [], ℕ, List, get_or, ap, sym, ◌∙◌, reverse}
use Rattle.explore.specs.Lineage.{ways}
use Rattle.explore.proofs.lineage.Lineage.way_from.Goals as goal

pub returns : goal.returns
returns g c =
    let all = ways c.args.self.now in
    c.loop-k.invariant.rest ∙ (ap (λ (n : ℕ). get_or all n [] ++ reverse c.loop-k.back.items) c.if-k-from.false ∙ ap (λ (l : List g.row.M.Denot). get_or all c.args.from [] ++ l) (sym c.reverse.ensures.items))
