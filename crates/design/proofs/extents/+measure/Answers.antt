use Rattle.std.proofs.Common.{rules, ◌≡◌, ◌+◌, ◌++◌, ◌∷◌, subst, length, drop, sym, ◌∙◌, arith}
use Rattle.std.proofs.lemmas.Grind.{common_steps}
use Rattle.design.specs.DesignTrees.{statement_of, statements_of, expression_of}
use Rattle.design.specs.Extents.{extent_of, extents_inside, extents}
use Rattle.design.proofs.Places.{left_more}
use Rattle.model.specs.Design.{If}
use Rattle.design.proofs.Views.{viewed_if}
use Rattle.design.proofs.Measured.{measured_more, finished_body, finished_bodies}
use Rattle.design.proofs.extents.+measure.Goals as goal

pub measure-returns-in_ok-measure_all-in-If-2 : goal.measure-returns-in_ok-measure_all-in-If-2
measure-returns-in_ok-measure_all-in-If-2 t c =
    let h = finished_bodies c.args.table.now.items c.begin.new.table.items c.measure_all.new.table.items c.measure_all-in-If.new.table.items (record { body = 0; whole = 0 }) (expression_of c.in-If.field-0) (statements_of c.in-If.body.items) (statements_of c.in-If.otherwise.items) (search rules) (search rules) (search rules) in
    let v = viewed_if c.args.statement.now c.in-If.field-0 c.in-If.body c.in-If.otherwise c.in-If.is in
    let n = length c.args.table.now.items in
    let e : c.finish.new.table.items ≡ c.args.table.now.items ++ extent_of n (If (expression_of c.in-If.field-0) (statements_of c.in-If.body.items) (statements_of c.in-If.otherwise.items)) ∷ extents_inside n (If (expression_of c.in-If.field-0) (statements_of c.in-If.body.items) (statements_of c.in-If.otherwise.items)) = cc (h, c.finish.ensures, c.len-place.ensures, c.len-behind_body.ensures) in
    subst (λ s. c.finish.new.table.items ≡ c.args.table.now.items ++ extent_of n s ∷ extents_inside n s) (sym v) e

pub measure_all-loop-statement-preserved : goal.measure_all-loop-statement-preserved
measure_all-loop-statement-preserved t c =
    let xs = c.args.statements.now in
    let i = c.loop-statement.statement-index in
    let x = c.statement-item.result in
    let table = c.loop-statement.table.items in
    measured_more table c.measure.new.table.items _ (statement_of x) (statements_of (drop (i + 1) xs)) (c.in_ok-measure.ensures)
    (sym (left_more (λ l. table ++ extents (length table) (statements_of l)) xs i x c.loop-statement-test.true c.statement-item.is) ∙ c.loop-statement.invariant)

pub measure_body-returns : goal.measure_body-returns
measure_body-returns t c = grind (arith, common_steps, finished_body)
