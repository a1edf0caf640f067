-- What is found stands for the labels that were taken from the end.
use Rattle.std.proofs.Common.{◌≡◌, None, option_map, vec_len}
use Rattle.model.specs.SourceTrees.{source_expression_of}
use Rattle.statement_forms.specs.Views.{core_expressions}
use Rattle.statement_forms.specs.Forms.{any_fits}
use Rattle.statement_forms.proofs.choices.any_fits_of.Given as goal

abbrev pub invariant-loop-label : goal.invariant-loop-label
invariant-loop-label l = any_fits l.hidden (core_expressions l.left) (option_map source_expression_of l.found) ≡ any_fits l.hidden (core_expressions l.initial.left) None

abbrev pub decreases-loop-label : goal.decreases-loop-label
decreases-loop-label l = vec_len l.left
