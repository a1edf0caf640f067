-- A group more.
use Rattle.std.proofs.Common.{◌++◌, ℕ, List, Some, ap, ◌∙◌}
use Rattle.explore.proofs.TextEdges.{groups-extends, group_found}
use Rattle.explore.proofs.line_groups.LineGroups.push.Goals as goal

pub returns-clause-grows : goal.returns-clause-grows
returns-clause-grows c = groups-extends c.args.self.now.groups.keys c.insert_full.new.self.keys c.extend_from_slice.new.self _ c.in_ok-number.ensures.keys

pub returns-clause-number : goal.returns-clause-number
returns-clause-number c =
    let h = c.in_ok-number.ensures.stored in
    group_found c.insert_full.new.self.keys c.in_ok-number.number h.0 c.extend_from_slice.new.self.items h.1 h.2
    ∙ ap (λ (l : List ℕ). Some l) (c.in_ok-extend_from_slice.ensures.items ∙ ap (λ (l : List ℕ). l ++ c.args.group.now) c.new-bytes.ensures.items)
