use Rattle.std.proofs.Common.{◌∙◌, map, ap}
use Rattle.statement_parts.specs.Parts.{whole_change}
use Rattle.statement_parts.specs.Statements.{plain_of}
use Rattle.statement_parts.specs.Places.{surroundings}
use Rattle.statement_parts.specs.Reads.{names_read}
use Rattle.lowering.proofs.Fronts.{some_if_not_empty}
use Rattle.lowering.proofs.Parts.{some_names}
use Rattle.lowering.proofs.statements.implicit_changes.Goals as goal

pub returns : goal.returns
returns c =
    let read = names_read (surroundings c.args.around.design.now) c.args.around.scope (plain_of c.args.s.now) in
    (some_names c.in_ok-names.names.items read c.in_ok-names.ensures (some_if_not_empty c.in_ok-names.names c.is_empty.result c.is_empty.ensures c.if-is_empty.false), c.in_ok-made.ensures ∙ ap (map whole_change) c.in_ok-names.ensures)
