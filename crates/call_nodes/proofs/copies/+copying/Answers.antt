use Rattle.call_nodes.proofs.Copied.{index_copied, part_copied, call_copied, concatenation_copied, replication_copied, unary_copied, binary_copied, conditional_copied}
use Rattle.call_nodes.proofs.copies.+copying.Goals as goal

pub copied_expression-returns-in_ok-index-in-Index : goal.copied_expression-returns-in_ok-index-in-Index
copied_expression-returns-in_ok-index-in-Index t c = index_copied _ _ _ _ _ _ _ _ c.in-Index.is c.deref-in-Index.ensures c.deref-in-Index-2.ensures c.in_ok-base-in-Index.ensures c.in_ok-index-in-Index.ensures

pub copied_expression-returns-in_ok-second-in-Part : goal.copied_expression-returns-in_ok-second-in-Part
copied_expression-returns-in_ok-second-in-Part t c = part_copied _ _ _ _ _ _ _ _ _ _ _ _ c.in-Part.is c.deref-in-Part.ensures c.deref-in-Part-2.ensures c.deref-in-Part-3.ensures c.in_ok-base-in-Part.ensures c.in_ok-first-in-Part.ensures c.in_ok-second-in-Part.ensures

pub copied_expression-returns-in_ok-arguments-in-Call : goal.copied_expression-returns-in_ok-arguments-in-Call
copied_expression-returns-in_ok-arguments-in-Call t c = call_copied _ _ _ _ _ _ _ _ c.in-Call.is c.deref-in-Call.ensures c.as_slice-in-Call.ensures.value c.in_ok-function-in-Call.ensures c.in_ok-arguments-in-Call.ensures

pub copied_expression-returns-in_ok-parts-in-Concatenation : goal.copied_expression-returns-in_ok-parts-in-Concatenation
copied_expression-returns-in_ok-parts-in-Concatenation t c = concatenation_copied _ _ _ _ _ c.in-Concatenation.is c.as_slice-in-Concatenation.ensures.value c.in_ok-parts-in-Concatenation.ensures

pub copied_expression-returns-in_ok-parts-in-Replication : goal.copied_expression-returns-in_ok-parts-in-Replication
copied_expression-returns-in_ok-parts-in-Replication t c = replication_copied _ _ _ _ _ _ _ _ c.in-Replication.is c.deref-in-Replication.ensures c.as_slice-in-Replication.ensures.value c.in_ok-count-in-Replication.ensures c.in_ok-parts-in-Replication.ensures

pub copied_expression-returns-in_ok-operand-in-Unary : goal.copied_expression-returns-in_ok-operand-in-Unary
copied_expression-returns-in_ok-operand-in-Unary t c = unary_copied _ _ _ _ _ _ c.in-Unary.is c.deref-in-Unary.ensures c.in_ok-operand-in-Unary.ensures

pub copied_expression-returns-in_ok-right-in-Binary : goal.copied_expression-returns-in_ok-right-in-Binary
copied_expression-returns-in_ok-right-in-Binary t c = binary_copied _ _ _ _ _ _ _ _ _ c.in-Binary.is c.deref-in-Binary.ensures c.deref-in-Binary-2.ensures c.in_ok-left-in-Binary.ensures c.in_ok-right-in-Binary.ensures

pub copied_expression-returns-in_ok-second-in-Conditional : goal.copied_expression-returns-in_ok-second-in-Conditional
copied_expression-returns-in_ok-second-in-Conditional t c = conditional_copied _ _ _ _ _ _ _ _ _ _ _ c.in-Conditional.is c.deref-in-Conditional.ensures c.deref-in-Conditional-2.ensures c.deref-in-Conditional-3.ensures c.in_ok-condition-in-Conditional.ensures c.in_ok-first-in-Conditional.ensures c.in_ok-second-in-Conditional.ensures
