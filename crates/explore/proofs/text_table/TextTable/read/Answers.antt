use Rattle.std.proofs.Common.{◌≡◌, ◌++◌, [], ◌<◌, length, get_or, Some, ap, sym, ◌∙◌, arith}
use Rattle.std.proofs.lemmas.List.Elements.{All-pop}
use Rattle.explore.specs.NumberedTexts.{line_groups, texts}
use Rattle.explore.proofs.TextEdges.{group_read, none_left}
use Rattle.explore.proofs.text_table.TextTable.read.Goals as goal

pub group-requires : goal.group-requires
group-requires c =
    let groups = line_groups c.args.self.now.groups in
    (All-pop (λ group. group < length groups) c.loop-group.back.items c.pop.new.self.items (Some c.in-Some.group) c.in-Some.ensures.items c.loop-group.invariant.there).1

pub loop-group-preserved : goal.loop-group-preserved
loop-group-preserved c =
    let groups = line_groups c.args.self.now.groups in
    let all = texts c.args.self.now in
    record {
      there = (All-pop (λ group. group < length groups) c.loop-group.back.items c.pop.new.self.items (Some c.in-Some.group) c.in-Some.ensures.items c.loop-group.invariant.there).0;
      rest = group_read groups (get_or all c.args.number []) c.loop-group.text.items c.extend_from_slice.new.self.items c.loop-group.back.items c.pop.new.self.items c.in-Some.group c.group.result.now c.loop-group.invariant.rest c.in-Some.ensures.items c.group.ensures c.in_ok-extend_from_slice.ensures.items;
    }

pub returns : goal.returns
returns c =
    let groups = line_groups c.args.self.now.groups in
    let none : length c.loop-group.back.items ≡ 0 = omega (arith, c.in_default.ensures.cases.0) in
    c.in_ok-extend_from_slice-2.ensures.items ∙ ap (λ l. l ++ c.args.printed.now) (sym (c.loop-group.invariant.rest ∙ none_left groups c.loop-group.text.items c.loop-group.back.items none))
