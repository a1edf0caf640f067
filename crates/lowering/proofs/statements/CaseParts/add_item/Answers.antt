use Rattle.std.proofs.Common.{Some, None, option_map, sym, ap, ◌∙◌}
use Rattle.model.specs.SourceTrees.{source_expression_of, source_statement_of}
use Rattle.design_scopes.specs.Places.{means, names_in_scope}
use Rattle.statement_forms.specs.Views.{core_expressions}
use Rattle.statement_parts.specs.Statements.{plain_item_of}
use Rattle.statement_parts.specs.Places.{surroundings}
use Rattle.lowering.specs.Cases.{case_made}
use Rattle.lowering.proofs.Parts.{item_labels, item_takes, item_ok}
use Rattle.lowering.proofs.statements.CaseParts.add_item.Goals as goal

pub labels_at-requires : goal.labels_at-requires
labels_at-requires c =
    let design = c.args.around.design.now in
    item_takes (means c.place-place.result) (names_in_scope design.tree.scopes.items design.objects.items c.args.around.scope) c.args.shape.now c.args.item.now c.as_slice.result.now c.place-place.ensures c.as_slice.ensures.value c.requires

pub returns-in-Some : goal.returns-in-Some
returns-in-Some c =
    let design = c.args.around.design.now in
    let trees = core_expressions c.in_ok-trees.trees in
    item_ok (surroundings design) c.args.around.scope c.args.shape.now c.args.hidden.now (plain_item_of c.args.item.now).labels trees (Some (source_expression_of c.in-Some.condition)) (source_statement_of c.args.body.value) (case_made c.args.self.now) (case_made c.add_branch.new.self) c.add_branch.result
    (item_labels (means c.place-place.result) (names_in_scope design.tree.scopes.items design.objects.items c.args.around.scope) c.args.shape.now c.args.item.now c.as_slice.result.now trees c.place-place.ensures c.as_slice.ensures.value c.in_ok-trees.ensures)
    (sym c.in_ok-found.ensures ∙ ap (option_map source_expression_of) c.in-Some.is) c.add_branch.ensures

pub returns-in-None : goal.returns-in-None
returns-in-None c =
    let design = c.args.around.design.now in
    let trees = core_expressions c.in_ok-trees.trees in
    item_ok (surroundings design) c.args.around.scope c.args.shape.now c.args.hidden.now (plain_item_of c.args.item.now).labels trees None (source_statement_of c.args.body.value) (case_made c.args.self.now) (case_made c.add_default.new.self) c.add_default.result
    (item_labels (means c.place-place.result) (names_in_scope design.tree.scopes.items design.objects.items c.args.around.scope) c.args.shape.now c.args.item.now c.as_slice.result.now trees c.place-place.ensures c.as_slice.ensures.value c.in_ok-trees.ensures)
    (sym c.in_ok-found.ensures ∙ ap (option_map source_expression_of) c.in-None.is) c.add_default.ensures
