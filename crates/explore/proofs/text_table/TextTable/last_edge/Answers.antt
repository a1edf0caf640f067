use Rattle.std.proofs.Common.{◌≡◌, ◌-◌, ◌+◌, ◌≤◌, arith, get_or, [], ap, ◌∙◌}
use Rattle.explore.specs.NumberedTexts.{line_groups, texts}
use Rattle.explore.proofs.TextEdges.{length-told, told-edge}
use Rattle.explore.proofs.text_table.TextTable.last_edge.Goals as goal

pub index-requires : goal.index-requires
index-requires c = omega (arith, length-told (line_groups c.args.self.now.groups) c.args.self.now.edges.keys, c.requires.within, c.requires.some)

pub returns : goal.returns
returns c =
    let groups = line_groups c.args.self.now.groups in
    let edges = c.args.self.now.edges.keys in
    let edge = c.index.result.now in
    let low : edge.before ≤ c.args.number - 1 = c.requires.ok.after (c.args.number - 1) edge c.index.ensures in
    let back : c.args.number ≡ (c.args.number - 1) + 1 = omega (arith, c.requires.some) in
    record {
      before = omega (arith, low, c.requires.some);
      group = c.requires.ok.grouped (c.args.number - 1) edge c.index.ensures;
      text = ap (λ n. get_or (texts c.args.self.now) n []) back ∙ told-edge groups edges (c.args.number - 1) edge c.requires.ok c.index.ensures;
    }
