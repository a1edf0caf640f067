-- What is found is the shape of the items so far.
use Rattle.std.proofs.Common.{◌≡◌, drop}
use Rattle.design_scopes.specs.Places.{means}
use Rattle.syntax_tree.specs.Expressions.{plain_expression_of}
use Rattle.statement_parts.specs.Statements.{plain_items_of}
use Rattle.lowering.specs.Lowering.{items_shape, case_shape}
use Rattle.lowering.proofs.choices.case_shape.Given as goal

abbrev pub invariant-loop-item : goal.invariant-loop-item
invariant-loop-item l = items_shape (means l.place) l.found (plain_items_of (drop l.item-index l.items)) ≡ case_shape (means l.place) (plain_expression_of l.selector) (plain_items_of l.items)
