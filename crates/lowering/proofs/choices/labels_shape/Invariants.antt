-- What is found is the shape of the labels so far.
use Rattle.std.proofs.Common.{◌≡◌, map, drop}
use Rattle.design_scopes.specs.Places.{means}
use Rattle.syntax_tree.specs.Expressions.{plain_expression_of}
use Rattle.lowering.specs.Lowering.{labels_shape}
use Rattle.lowering.proofs.choices.labels_shape.Given as goal

abbrev pub invariant-loop-label : goal.invariant-loop-label
invariant-loop-label l = labels_shape (means l.place) l.found (map plain_expression_of (drop l.label-index l.labels)) ≡ labels_shape (means l.place) l.fn.shape (map plain_expression_of l.labels)
