-- What each form of an expression is taken for is what it means.
use Rattle.std.proofs.Common.{not, ◌+◌, ◌++◌, ◌∷◌, [], List, None, Some, take, sym, ap, subst, ◌∙◌}
use Rattle.std.proofs.lemmas.List.{take_all}
use Rattle.model.specs.SourceTrees.{source_expression_of}
use Rattle.syntax_tree.specs.declared.expressions.VerilogExpression as program
use Rattle.syntax_tree.specs.Expressions.{plain_expression_of}
use Rattle.ranges.specs.Ranges.{near}
use Rattle.shaped_trees.specs.declared.shape.Shape.{Shape}
use Rattle.sizing.specs.Meanings.{Meaning, meaning}
use Rattle.sizing.specs.Parts.{Joins}
use Rattle.sizing.specs.Results.{IsWorth}
use Rattle.sizing.proofs.Loops.{meant, one_more}
use Rattle.sizing.proofs.Naming.{object_named, object_called, near_met}
use Rattle.sizing.proofs.Sources.{typed_as, number_means, text_means, index_means, part_means, concatenation_means, replication_means, unary_means, binary_means, conditional_means, system_means, name_typed, member_typed, call_typed, name_object, member_object_of, call_object, name_scope, member_scope_of, index_scope_of, no_index, parts_told, no_parts, integer_is}
use Rattle.sizing.proofs.Worth.{constant_is}
use Rattle.sizing.proofs.reading.+reading.Goals as goal

-- ---- operands

pub typed_at-returns-in_ok-number-in-Number : goal.typed_at-returns-in_ok-number-in-Number
typed_at-returns-in_ok-number-in-Number g t c =
    let n = g.E.Environment.means c.args.environment.now in
    typed_as n _ _ _ _ (number_means n c.args.e.now _ _ _ _ _ c.deref.result.now c.in-Number.is c.deref.ensures) (c.in_ok-number-in-Number.ensures n)

pub typed_at-returns-in_ok-text-in-Text : goal.typed_at-returns-in_ok-text-in-Text
typed_at-returns-in_ok-text-in-Text g t c =
    let n = g.E.Environment.means c.args.environment.now in
    typed_as n _ _ _ _ (text_means n c.args.e.now _ _ c.as_slice.result.now c.in-Text.is c.as_slice.ensures.value) (c.in_ok-text-in-Text.ensures n)

pub typed_at-returns-in_ok-whole_object-in-Name : goal.typed_at-returns-in_ok-whole_object-in-Name
typed_at-returns-in_ok-whole_object-in-Name g t c =
    let n = g.E.Environment.means c.args.environment.now in
    name_typed n c.in_ok-found-in-Name.found.now _ _ c.in_ok-found-in-Name.ensures.named (c.in_ok-whole_object-in-Name.ensures n) c.args.e.now _ _ c.in-Name.is c.in_ok-found-in-Name.ensures.object

pub typed_at-returns-in_ok-whole_object-in-Member : goal.typed_at-returns-in_ok-whole_object-in-Member
typed_at-returns-in_ok-whole_object-in-Member g t c =
    let n = g.E.Environment.means c.args.environment.now in
    member_typed n c.in_ok-found-in-Member.found.now _ _ c.in_ok-found-in-Member.ensures.named (c.in_ok-whole_object-in-Member.ensures n) c.args.e.now _ _ _ c.in-Member.is
    c.in_ok-found-in-Member.ensures.object

pub typed_at-returns-in_ok-whole_object-in-Call : goal.typed_at-returns-in_ok-whole_object-in-Call
typed_at-returns-in_ok-whole_object-in-Call g t c =
    let n = g.E.Environment.means c.args.environment.now in
    call_typed n c.in_ok-found-in-Call.found.now _ _ c.in_ok-found-in-Call.ensures.named (c.in_ok-whole_object-in-Call.ensures n) c.args.e.now _ _ _ c.in-Call.is
    c.in_ok-found-in-Call.ensures.object

-- ---- selects

pub typed_at-bit-requires : goal.typed_at-bit-requires
typed_at-bit-requires g t c = near_met c.in_ok-index-in-Index.index c.near.result c.near.ensures

pub typed_at-returns-in_ok-bit-in-Index : goal.typed_at-returns-in_ok-bit-in-Index
typed_at-returns-in_ok-bit-in-Index g t c =
    let n = g.E.Environment.means c.args.environment.now in
    let base : program.VerilogExpression = c.deref-in-Index.result.now in
    let number : program.VerilogExpression = c.deref-in-Index-2.result.now in
    typed_as n _ _ _ _ (index_means n c.args.e.now _ _ _ base number c.in-Index.is c.deref-in-Index.ensures c.deref-in-Index-2.ensures)
    (c.in_ok-bit-in-Index.ensures n (meaning n (plain_expression_of base)) (meaning n (plain_expression_of number)) c.in_ok-object-in-Index.ensures.named c.in_ok-object-in-Index.ensures.object
    (c.near.ensures ∙ ap near c.in_ok-index-in-Index.ensures))

pub typed_at-part-requires : goal.typed_at-part-requires
typed_at-part-requires g t c = record {
  first = near_met c.in_ok-first-in-Part.first c.near-in-Part.result c.near-in-Part.ensures;
  second = near_met c.in_ok-second-in-Part.second c.near-in-Part-2.result c.near-in-Part-2.ensures;
}

pub typed_at-returns-in_ok-part-in-Part : goal.typed_at-returns-in_ok-part-in-Part
typed_at-returns-in_ok-part-in-Part g t c =
    let n = g.E.Environment.means c.args.environment.now in
    let base : program.VerilogExpression = c.deref-in-Part.result.now in
    let low : program.VerilogExpression = c.deref-in-Part-2.result.now in
    let high : program.VerilogExpression = c.deref-in-Part-3.result.now in
    typed_as n _ _ _ _ (part_means n c.args.e.now _ c.in-Part.form _ _ _ base low high c.in-Part.is c.deref-in-Part.ensures c.deref-in-Part-2.ensures c.deref-in-Part-3.ensures)
    (c.in_ok-part-in-Part.ensures n (meaning n (plain_expression_of base)) (meaning n (plain_expression_of low)) (meaning n (plain_expression_of high)) c.in_ok-object-in-Part.ensures.named
    c.in_ok-object-in-Part.ensures.object (c.near-in-Part.ensures ∙ ap near c.in_ok-first-in-Part.ensures) (c.near-in-Part-2.ensures ∙ ap near c.in_ok-second-in-Part.ensures))

-- ---- operations

pub operation_at-returns-in_ok-unary-in-Unary : goal.operation_at-returns-in_ok-unary-in-Unary
operation_at-returns-in_ok-unary-in-Unary g t c =
    let n = g.E.Environment.means c.args.environment.now in
    let x : program.VerilogExpression = c.deref.result.now in
    typed_as n _ _ _ _ (unary_means n c.args.e.now _ c.in-Unary.operator _ x c.in-Unary.is c.deref.ensures)
    (c.in_ok-unary-in-Unary.ensures n (meaning n (plain_expression_of x)) c.in_ok-operand-in-Unary.ensures)

pub operation_at-returns-in_ok-binary-in-Binary : goal.operation_at-returns-in_ok-binary-in-Binary
operation_at-returns-in_ok-binary-in-Binary g t c =
    let n = g.E.Environment.means c.args.environment.now in
    let x : program.VerilogExpression = c.deref-in-Binary.result.now in
    let y : program.VerilogExpression = c.deref-in-Binary-2.result.now in
    typed_as n _ _ _ _ (binary_means n c.args.e.now _ c.in-Binary.operator _ _ x y c.in-Binary.is c.deref-in-Binary.ensures c.deref-in-Binary-2.ensures)
    (c.in_ok-binary-in-Binary.ensures n (meaning n (plain_expression_of x)) (meaning n (plain_expression_of y)) c.in_ok-left-in-Binary.ensures c.in_ok-right-in-Binary.ensures)

pub operation_at-returns-in_ok-conditional-in-Conditional : goal.operation_at-returns-in_ok-conditional-in-Conditional
operation_at-returns-in_ok-conditional-in-Conditional g t c =
    let n = g.E.Environment.means c.args.environment.now in
    let test : program.VerilogExpression = c.deref-in-Conditional.result.now in
    let x : program.VerilogExpression = c.deref-in-Conditional-2.result.now in
    let y : program.VerilogExpression = c.deref-in-Conditional-3.result.now in
    typed_as n _ _ _ _ (conditional_means n c.args.e.now _ _ _ _ test x y c.in-Conditional.is c.deref-in-Conditional.ensures c.deref-in-Conditional-2.ensures c.deref-in-Conditional-3.ensures)
    (c.in_ok-conditional-in-Conditional.ensures n (meaning n (plain_expression_of test)) (meaning n (plain_expression_of x)) (meaning n (plain_expression_of y)) c.in_ok-condition-in-Conditional.ensures c.in_ok-first-in-Conditional.ensures
    c.in_ok-second-in-Conditional.ensures)

pub operation_at-returns-in_ok-concatenation-in-Concatenation : goal.operation_at-returns-in_ok-concatenation-in-Concatenation
operation_at-returns-in_ok-concatenation-in-Concatenation g t c =
    let n = g.E.Environment.means c.args.environment.now in
    let xs : List program.VerilogExpression = c.as_slice.result.now in
    typed_as n _ _ _ _ (concatenation_means n c.args.e.now _ _ xs c.in-Concatenation.is c.as_slice.ensures.value)
    (c.in_ok-concatenation-in-Concatenation.ensures n (meant n xs) c.in_ok-parts-in-Concatenation.ensures)

pub operation_at-returns-in_ok-replication-in-Replication : goal.operation_at-returns-in_ok-replication-in-Replication
operation_at-returns-in_ok-replication-in-Replication g t c =
    let n = g.E.Environment.means c.args.environment.now in
    let x : program.VerilogExpression = c.deref-in-Replication.result.now in
    let xs : List program.VerilogExpression = c.as_slice-in-Replication.result.now in
    typed_as n _ _ _ _ (replication_means n c.args.e.now _ _ _ x xs c.in-Replication.is c.deref-in-Replication.ensures c.as_slice-in-Replication.ensures.value)
    (c.in_ok-replication-in-Replication.ensures n (meaning n (plain_expression_of x)) (meant n xs) c.in_ok-count-in-Replication.ensures c.in_ok-parts-in-Replication.ensures)

pub operation_at-returns-in_ok-converted-in-SystemCall : goal.operation_at-returns-in_ok-converted-in-SystemCall
operation_at-returns-in_ok-converted-in-SystemCall g t c =
    let n = g.E.Environment.means c.args.environment.now in
    let x : program.VerilogExpression = c.in-Some-only.operand.now in
    typed_as n _ _ _ _
    (system_means n c.args.e.now _ _ _ c.as_slice-in-SystemCall.result.now c.conversion.result c.in-Some.signed c.as_slice-in-SystemCall-2.result.now x c.in-SystemCall.is c.as_slice-in-SystemCall.ensures.value
    c.in-Some.is c.conversion.ensures c.as_slice-in-SystemCall-2.ensures.value c.in-Some-only.ensures)
    (c.in_ok-converted-in-SystemCall.ensures n (meaning n (plain_expression_of x)) c.in_ok-operand-in-SystemCall.ensures)

-- ---- parts of concatenations

pub parts_at-returns : goal.parts_at-returns
parts_at-returns g t c =
    let n = g.E.Environment.means c.args.environment.now in
    let x : program.VerilogExpression = c.in-Some.first.now in
    parts_told n c.args.parts.now x c.in-Some.others.now c.in_ok-all.all c.in-Some.ensures.cases.0
    (c.in_ok-all.ensures (meaning n (plain_expression_of x) ∷ []) (c.in_ok-made.ensures n (meaning n (plain_expression_of x)) c.in_ok-first.ensures))

pub parts_behind-loop-part-init : goal.parts_behind-loop-part-init
parts_behind-loop-part-init g t c = λ ms j. no_parts (g.E.Environment.means c.args.environment.now) ms c.args.others.now c.args.before j

pub parts_behind-loop-part-preserved : goal.parts_behind-loop-part-preserved
parts_behind-loop-part-preserved g t c = λ ms j.
    let n = g.E.Environment.means c.args.environment.now in
    let x : program.VerilogExpression = c.part-item.result in
    let before : List Meaning = ms ++ meant n (take c.loop-part.part-index c.args.others.now) in
    subst (λ (ks : List Meaning). Joins n ks c.add.new.self)
    (one_more n ms c.args.others.now c.loop-part.part-index x c.loop-part-test.true c.part-item.is)
    (c.in_ok-add.ensures n before (meaning n (plain_expression_of x)) (c.loop-part.invariant ms j) c.in_ok-next.ensures)

pub parts_behind-returns : goal.parts_behind-returns
parts_behind-returns g t c = λ ms j.
    let n = g.E.Environment.means c.args.environment.now in
    subst (λ (xs : List program.VerilogExpression). Joins n (ms ++ meant n xs) c.loop-part.made) (take_all c.loop-part.part-index c.args.others.now c.loop-part-test.false)
    (c.loop-part.invariant ms j)

-- ---- constants

pub constant_at-returns-in-Some : goal.constant_at-returns-in-Some
constant_at-returns-in-Some g t c =
    let n = g.E.Environment.means c.args.environment.now in
    let m = meaning n (plain_expression_of c.args.e.now) in
    let found = c.in_ok-found.found in
    let digits = c.in-Some.digits in
    let worth = rw c.in-Some.is at c.in_ok-digits.ensures in
    constant_is n m found.shape (source_expression_of found.tree) (record { digits = digits; signed = c.shape-shape.result.signed }) c.in_ok-found.ensures
    (subst (λ (s : Shape). IsWorth m s digits) c.shape-shape.ensures (worth n m c.in_ok-found.ensures)) (ap (λ (s : Shape). s.signed) c.shape-shape.ensures)

pub integer_at-returns : goal.integer_at-returns
integer_at-returns g t c =
    integer_is (meaning (g.E.Environment.means c.args.environment.now) (plain_expression_of c.args.e.now)) c.in_ok-constant.constant c.integer.result c.integer.ensures c.in_ok-constant.ensures

-- ---- names

pub object_at-returns-in_ok-found-in-Name-clause-named : goal.object_at-returns-in_ok-found-in-Name-clause-named
object_at-returns-in_ok-found-in-Name-clause-named g t c =
    object_named (g.E.Environment.means c.args.environment.now) c.in_ok-found-in-Name.field-0.now None c.as_slice.result.now (sym c.object.ensures ∙ c.in_ok-found-in-Name.ensures)

pub object_at-returns-in_ok-found-in-Name-clause-object : goal.object_at-returns-in_ok-found-in-Name-clause-object
object_at-returns-in_ok-found-in-Name-clause-object g t c =
    name_object (g.E.Environment.means c.args.environment.now) c.args.e.now _ _ c.as_slice.result.now c.in_ok-found-in-Name.field-0.now c.in-Name.is c.as_slice.ensures.value
    (sym c.object.ensures ∙ c.in_ok-found-in-Name.ensures)

pub object_at-returns-in_ok-found-in-Member-clause-named : goal.object_at-returns-in_ok-found-in-Member-clause-named
object_at-returns-in_ok-found-in-Member-clause-named g t c =
    object_named (g.E.Environment.means c.args.environment.now) c.in_ok-found-in-Member.field-0.now (Some c.in_ok-scope-in-Member.scope) c.as_slice-in-Member.result.now
    (sym c.object-in-Member.ensures ∙ c.in_ok-found-in-Member.ensures)

pub object_at-returns-in_ok-found-in-Member-clause-object : goal.object_at-returns-in_ok-found-in-Member-clause-object
object_at-returns-in_ok-found-in-Member-clause-object g t c =
    member_object_of (g.E.Environment.means c.args.environment.now) c.args.e.now _ _ _ c.deref.result.now c.as_slice-in-Member.result.now c.in_ok-scope-in-Member.scope
    c.in_ok-found-in-Member.field-0.now c.in-Member.is c.deref.ensures c.as_slice-in-Member.ensures.value c.in_ok-scope-in-Member.ensures
    (sym c.object-in-Member.ensures ∙ c.in_ok-found-in-Member.ensures)

pub object_at-returns-in_ok-found-in-Call-clause-named : goal.object_at-returns-in_ok-found-in-Call-clause-named
object_at-returns-in_ok-found-in-Call-clause-named g t c =
    object_called (g.E.Environment.means c.args.environment.now) c.in_ok-found-in-Call.field-0.now c.in-Call.token (sym c.call.ensures ∙ c.in_ok-found-in-Call.ensures)

pub object_at-returns-in_ok-found-in-Call-clause-object : goal.object_at-returns-in_ok-found-in-Call-clause-object
object_at-returns-in_ok-found-in-Call-clause-object g t c =
    call_object (g.E.Environment.means c.args.environment.now) c.args.e.now c.in-Call.token _ _ c.in_ok-found-in-Call.field-0.now c.in-Call.is
    (sym c.call.ensures ∙ c.in_ok-found-in-Call.ensures)

pub scope_at-returns-in_ok-found_scope-in-Name : goal.scope_at-returns-in_ok-found_scope-in-Name
scope_at-returns-in_ok-found_scope-in-Name g t c =
    name_scope (g.E.Environment.means c.args.environment.now) c.args.e.now _ _ c.as_slice.result.now c.args.index c.in_ok-found_scope-in-Name.field-0 c.in-Name.is c.as_slice.ensures.value
    (sym c.scope.ensures ∙ c.in_ok-found_scope-in-Name.ensures)

pub scope_at-returns-in_ok-found_scope-in-Member : goal.scope_at-returns-in_ok-found_scope-in-Member
scope_at-returns-in_ok-found_scope-in-Member g t c =
    member_scope_of (g.E.Environment.means c.args.environment.now) c.args.e.now _ _ _ c.deref.result.now c.as_slice-in-Member.result.now c.args.index c.in_ok-scope-in-Member.scope
    c.in_ok-found_scope-in-Member.field-0 c.in-Member.is c.deref.ensures c.as_slice-in-Member.ensures.value c.in_ok-scope-in-Member.ensures
    (sym c.scope-in-Member.ensures ∙ c.in_ok-found_scope-in-Member.ensures)

pub scope_at-returns-in_ok-scope_at-in-Index : goal.scope_at-returns-in_ok-scope_at-in-Index
scope_at-returns-in_ok-scope_at-in-Index g t c =
    index_scope_of (g.E.Environment.means c.args.environment.now) c.args.e.now _ _ _ c.deref-in-Index-2.result.now c.deref-in-Index.result.now c.args.index
    c.in_ok-number-in-Index.number c.in_ok-scope_at-in-Index.field-0 c.in-Index.is c.deref-in-Index-2.ensures c.deref-in-Index.ensures
    (no_index c.args.index (sym c.is_some.ensures ∙ c.if-is_some.false)) (c.is_none.ensures ∙ ap not c.if-is_none.false) c.in_ok-number-in-Index.ensures
    c.in_ok-scope_at-in-Index.ensures
