use Rattle.std.proofs.Common.{◌≡◌, ◌+◌, ◌∙◌, ◌∷◌, [], map, ap, arith}
use Rattle.std.proofs.lemmas.List.{map-append}
use Rattle.model.specs.SourceTrees.{source_expression_of}
use Rattle.sizing.specs.Parts.{copies_of}
use Rattle.sizing.proofs.Joining.{one_copy}
use Rattle.sizing.proofs.concatenations.several.Goals as goal

pub loop-count-preserved : goal.loop-count-preserved
loop-count-preserved c =
    let made = c.loop-count.made.items in
    let again = c.in_ok-copied.field-0 in
    ap (map source_expression_of) c.in_ok-push.ensures.items ∙ map-append source_expression_of made (again ∷ [])
    ∙ one_copy c.loop-count.count (c.loop-count.count + 1) (source_expression_of c.args.tree.now) (source_expression_of again) (map source_expression_of made)
    c.loop-count.invariant c.in_ok-copied.ensures (omega arith)

pub returns : goal.returns
returns c =
    let all : c.loop-count.count ≡ c.args.times = omega arith in
    c.loop-count.invariant ∙ ap (λ k. copies_of k (source_expression_of c.args.tree.now)) all
