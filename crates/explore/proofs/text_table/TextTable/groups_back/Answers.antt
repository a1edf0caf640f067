use Rattle.std.proofs.Common.{◌++◌, [], ◌<◌, ℕ, List, length, get_or, ap, subst, sym, ◌∙◌, arith, reverse}
use Rattle.std.proofs.lemmas.List.Elements.{All-push}
use Rattle.std.specs.List.{All}
use Rattle.explore.specs.NumberedTexts.{joined_groups, line_groups, texts}
use Rattle.explore.proofs.TextEdges.{edge_back, told-none}
use Rattle.explore.proofs.text_table.TextTable.groups_back.Goals as goal

pub loop-k-preserved : goal.loop-k-preserved
loop-k-preserved c =
    let groups = line_groups c.args.self.now.groups in
    let all = texts c.args.self.now in
    let edge = c.last_edge-edge.result in
    let within : c.loop-k.k < length all = c.loop-k.invariant.within in
    record {
      within = omega (arith, c.last_edge-edge.ensures.before, within);
      there = subst (λ (l : List ℕ). All (λ group. group < length groups) l) (sym c.in_ok-push.ensures.items) (All-push (λ group. group < length groups) c.loop-k.back.items edge.group c.loop-k.invariant.there c.last_edge-edge.ensures.group);
      rest = edge_back groups (get_or all c.args.number []) (get_or all c.loop-k.k []) (get_or all edge.before []) c.loop-k.back.items c.push.new.self.items edge.group c.loop-k.invariant.rest c.last_edge-edge.ensures.text c.in_ok-push.ensures.items;
    }

pub returns-clause-text : goal.returns-clause-text
returns-clause-text c =
    let groups = line_groups c.args.self.now.groups in
    let all = texts c.args.self.now in
    let passed = joined_groups groups (reverse c.loop-k.back.items) in
    c.loop-k.invariant.rest ∙ (ap (λ n. get_or all n [] ++ passed) c.loop-k-test.false ∙ ap (λ l. l ++ passed) (told-none groups c.args.self.now.edges.keys))
