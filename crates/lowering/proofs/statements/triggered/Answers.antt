use Rattle.std.proofs.Common.{◌∙◌, ap}
use Rattle.std.specs.Prelude.{string_bytes}
use Rattle.model.specs.SourceTrees.{source_statement_of}
use Rattle.syntax_tree.specs.Expressions.{plain_expression_of}
use Rattle.statement_forms.specs.Forms.{happens}
use Rattle.statement_parts.specs.Places.{surroundings}
use Rattle.lowering.proofs.Parts.{event_known}
use Rattle.lowering.proofs.Steps.{event_happens}
use Rattle.lowering.proofs.statements.triggered.Goals as goal

pub returns : goal.returns
returns c =
    let d = surroundings c.args.around.design.now in
    let e = plain_expression_of c.args.event.now in
    let name = c.in-Some.name in
    event_happens d c.args.around.scope c.args.token e (string_bytes name) (source_statement_of c.in_ok-made.made) (event_known d c.args.around.scope e c.in_ok-found.found name c.in-Some.is c.in_ok-found.ensures) (c.in_ok-made.ensures ∙ ap happens c.as_str.ensures.value)
