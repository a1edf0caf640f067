-- The labels so far are lowered.
use Rattle.std.proofs.Common.{map, take}
use Rattle.design_scopes.specs.Places.{means}
use Rattle.syntax_tree.specs.Expressions.{plain_expression_of}
use Rattle.statement_forms.specs.Views.{core_expressions}
use Rattle.lowering.specs.Lowering.{AreLowered}
use Rattle.lowering.proofs.choices.labels_at.Given as goal

abbrev pub invariant-loop-label : goal.invariant-loop-label
invariant-loop-label l = AreLowered (means l.place) l.shape (map plain_expression_of (take l.label-index l.labels)) (core_expressions l.made)
