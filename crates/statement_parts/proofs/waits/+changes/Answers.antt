-- The changes of one part more.
use Rattle.std.proofs.Common.{map, arith}
use Rattle.std.proofs.lemmas.List.{map-append}
use Rattle.model.specs.SourceTrees.{source_expression_of, source_expressions}
use Rattle.model.specs.Syntax.{registers_of, all_registers_of}
use Rattle.statement_forms.specs.Views.{core_triggers}
use Rattle.statement_parts.specs.Parts.{whole_change}
use Rattle.statement_parts.proofs.Gathering.{next_added}
use Rattle.statement_parts.proofs.waits.+changes.Goals as goal

pub add_all_changes-loop-part-preserved : goal.add_all_changes-loop-part-preserved
add_all_changes-loop-part-preserved t c =
    next_added (λ ps. map whole_change (all_registers_of (source_expressions (map source_expression_of ps)))) (λ p. map whole_change (registers_of (source_expression_of p))) c.args.parts.now c.loop-part.part-index c.part-item.result
    (core_triggers c.loop-part.found) (core_triggers c.add_changes.new.found) _
    (λ p ps. map-append whole_change (registers_of (source_expression_of p)) (all_registers_of (source_expressions (map source_expression_of ps))))
    (omega arith) c.part-item.is c.in_ok-add_changes.ensures c.loop-part.invariant
