use Rattle.std.proofs.Common.{◌≡◌, ◌∙◌, ◌-◌, suc, map, ap, arith, ℤ, pos, ◌+ℤ◌, w64, to_z, of_z}
use Rattle.std.proofs.lemmas.Int.{ints, to_z-of_z}
use Rattle.model.specs.SourceTrees.{source_expression_of}
use Rattle.sizing.proofs.Follows.{on_ok}
use Rattle.sizing.specs.Digits.{digit_tree, digit_trees}
use Rattle.sizing.proofs.Selections.{digits_whole}
use Rattle.sizing.proofs.selects.digits_from.Goals as goal

pub returns : goal.returns
returns c =
    let o = c.args.object.now in
    let place = c.args.place in
    let top = c.get-top.result - 1 in
    let there : ℤ = to_z w64 (of_z w64 (to_z w64 (of_z w64 place) +ℤ to_z w64 (of_z w64 c.from.result))) in
    let same : there ≡ place +ℤ pos top = omega (arith, ints, c.requires.place.low, c.requires.place.high, c.from.ensures) in
    let wide : c.args.width ≡ suc top = omega (arith, c.get-top.ensures.value, c.get-top.ensures.some) in
    let first = c.in_ok-first.ensures ∙ ap (digit_tree o) same in
    let others = c.in_ok-others.ensures ∙ ap (λ p. digit_trees o p top) (to_z-of_z w64 place c.ranges.place) in
    on_ok c.concat_of.result _ _ c.concat_of.ensures
    (λ made e.
    digits_whole o place top c.args.width (source_expression_of c.in_ok-first.first) (source_expression_of made) (map source_expression_of c.in_ok-others.others.items)
    wide first others e)
