-- One statement more, and the statements of a choice.
use Rattle.std.proofs.Common.{◌+◌, drop, arith}
use Rattle.model.specs.Design.{If}
use Rattle.design.specs.DesignTrees.{expression_of, statements_of}
use Rattle.design.proofs.Views.{viewed_if}
use Rattle.observers.proofs.AsciiFormats.{AreAsciiStatements, more_with_rest, one_statement, with_inside, of_body, of_bodies}
use Rattle.observers.proofs.formats.+formats.Goals as goal

pub has_ascii_formats-returns-in-If : goal.has_ascii_formats-returns-in-If
has_ascii_formats-returns-in-If t c =
    let body = c.in-If.body.items in
    let otherwise = c.in-If.otherwise.items in
    with_inside c.args.statement.now (If (expression_of c.in-If.field-0) (statements_of body) (statements_of otherwise))
    (viewed_if c.args.statement.now c.in-If.field-0 c.in-If.body c.in-If.otherwise c.in-If.is) tt
    (of_bodies body otherwise (of_body c.deref-in-If.result.now body c.deref-in-If.ensures.value c.have_ascii_formats-in-If.ensures)
    (of_body c.deref-in-If-2.result.now otherwise c.deref-in-If-2.ensures.value c.have_ascii_formats-in-If-2.ensures))

pub have_ascii_formats-loop-statement-preserved : goal.have_ascii_formats-loop-statement-preserved
have_ascii_formats-loop-statement-preserved t c =
    let statements = c.args.statements.now in
    let i = c.loop-statement.statement-index in
    more_with_rest AreAsciiStatements statements i c.statement-item.result (omega arith) c.statement-item.is
    (λ rest. one_statement c.statement-item.result (drop (i + 1) statements) c.has_ascii_formats.ensures rest) c.loop-statement.invariant
