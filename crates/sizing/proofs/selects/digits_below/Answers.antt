use Rattle.std.proofs.Common.{◌≡◌, ◌∙◌, ◌++◌, ◌-◌, ◌∷◌, [], suc, map, ap, arith, append-nil, sym, ℤ, pos, ◌+ℤ◌, w64, to_z, of_z}
use Rattle.std.proofs.lemmas.List.{map-append}
use Rattle.std.proofs.lemmas.Int.{ints, to_z-of_z}
use Rattle.model.specs.SourceTrees.{source_expression_of}
use Rattle.sizing.specs.Digits.{digit_tree, digit_trees}
use Rattle.sizing.proofs.Selections.{digit_more}
use Rattle.sizing.proofs.selects.digits_below.Goals as goal

pub loop-k-preserved : goal.loop-k-preserved
loop-k-preserved c =
    let o = c.args.object.now in
    let place : ℤ = to_z w64 (of_z w64 c.args.place) in
    let j = c.loop-k.k - 1 in
    let made = c.loop-k.made.items in
    let digit = c.in_ok-digit_at.field-0 in
    let there : ℤ = to_z w64 (of_z w64 (to_z w64 (of_z w64 c.args.place) +ℤ to_z w64 (of_z w64 c.from.result))) in
    let same : there ≡ place +ℤ pos j = omega (arith, ints, c.requires.place.low, c.requires.place.high, c.from.ensures) in
    let next : c.loop-k.k ≡ suc j = omega arith in
    ap (λ u. u ++ digit_trees o place j) (ap (map source_expression_of) c.in_ok-push.ensures.items ∙ map-append source_expression_of made (digit ∷ []))
    ∙ digit_more o place j c.loop-k.k (map source_expression_of made) (digit_trees o place c.args.count) (source_expression_of digit) next
    (c.in_ok-digit_at.ensures ∙ ap (digit_tree o) same) c.loop-k.invariant

pub returns : goal.returns
returns c =
    let o = c.args.object.now in
    let place : ℤ = to_z w64 (of_z w64 c.args.place) in
    let made = map source_expression_of c.loop-k.made.items in
    let none : c.loop-k.k ≡ 0 = omega arith in
    sym (append-nil made) ∙ ap (λ k. made ++ digit_trees o place k) (sym none) ∙ c.loop-k.invariant
    ∙ ap (λ p. digit_trees o p c.args.count) (to_z-of_z w64 c.args.place c.ranges.place)
