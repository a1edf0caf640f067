use Rattle.std.proofs.Common.{◌-◌, ◌∙◌, map, sym, ap}
use Rattle.model.specs.SourceTrees.{source_expression_of}
use Rattle.sizing.specs.Parts.{copies_of}
use Rattle.sizing.proofs.Follows.{on_ok}
use Rattle.sizing.proofs.Joining.{repeated_digit, repeated_several}
use Rattle.sizing.proofs.concatenations.repeated.Goals as goal

pub returns-then-get-eq1 : goal.returns-then-get-eq1
returns-then-get-eq1 c =
    on_ok c.extend_of.result _ _ c.extend_of.ensures
    (λ made e. repeated_digit c.args.own c.args.times (source_expression_of c.args.tree) (source_expression_of made) (sym c.get.ensures.value ∙ c.if-get-eq1.true) e)

pub returns : goal.returns
returns c =
    let tree = source_expression_of c.args.tree in
    on_ok c.concat_of.result _ _ c.concat_of.ensures
    (λ made e.
    repeated_several c.args.own c.args.times tree (source_expression_of made) (map source_expression_of c.in_ok-others.others.items)
    (λ h. c.if-get-eq1.false (c.get.ensures.value ∙ h)) e (c.in_ok-others.ensures ∙ ap (λ k. copies_of (k - 1) tree) c.get-2.ensures.value))
