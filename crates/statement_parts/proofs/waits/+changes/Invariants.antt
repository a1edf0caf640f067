-- What is still to be added are the changes of the parts that are left.
use Rattle.std.proofs.Common.{◌≡◌, ◌++◌, map, drop}
use Rattle.model.specs.SourceTrees.{source_expression_of, source_expressions}
use Rattle.model.specs.Syntax.{all_registers_of}
use Rattle.statement_forms.specs.Views.{core_triggers}
use Rattle.statement_parts.specs.Parts.{whole_change}
use Rattle.statement_parts.proofs.waits.+changes.Given as goal

abbrev pub invariant-add_all_changes-loop-part : goal.invariant-add_all_changes-loop-part
invariant-add_all_changes-loop-part l =
    core_triggers l.found ++ map whole_change (all_registers_of (source_expressions (map source_expression_of (drop l.part-index l.parts))))
    ≡ core_triggers l.initial.found ++ map whole_change (all_registers_of (source_expressions (map source_expression_of l.parts)))
