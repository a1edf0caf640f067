use Rattle.std.proofs.Common.{◌≡◌, length, option_map, ◌∙◌, arith}
use Rattle.model.specs.SourceTrees.{source_expression_of}
use Rattle.statement_forms.proofs.Taking.{label_taken, labels_taken}
use Rattle.statement_forms.proofs.choices.any_fits_of.Goals as goal

pub loop-label-preserved : goal.loop-label-preserved
loop-label-preserved c =
    label_taken c.args.hidden.now c.loop-label.left.items c.pop.new.self.items c.in-Some.label (option_map source_expression_of c.loop-label.found) (option_map source_expression_of c.in_ok-more.more) c.in-Some.ensures.items c.in_ok-more.ensures ∙ c.loop-label.invariant

pub returns : goal.returns
returns c =
    let none : length c.loop-label.left.items ≡ 0 = omega (arith, c.in_default.ensures.cases.0) in
    labels_taken c.args.hidden.now c.loop-label.left.items (option_map source_expression_of c.loop-label.found) none ∙ c.loop-label.invariant
