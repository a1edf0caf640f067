use Rattle.std.proofs.Common.{◌++◌, refl}
use Rattle.verdict.specs.Verdicts.{grouped}
use Rattle.verdict.proofs.Pieces.{joined, joined_last}
use Rattle.verdict.proofs.phrases.push_between.Goals as goal

pub returns : goal.returns
returns c =
    let old = c.args.text.now.items in
    let number = grouped c.args.number in
    let before = c.args.before.now in
    let behind = c.args.behind.now in
    let two = joined c.push_grouped.new.text.items old before c.extend_from_slice.new.self.items number c.in_ok-push_grouped.ensures c.in_ok-extend_from_slice.ensures.items in
    joined_last c.extend_from_slice-2.result c.extend_from_slice-2.new.self.items old (before ++ number) c.push_grouped.new.text.items
    behind behind c.extend_from_slice-2.ensures.items two refl
