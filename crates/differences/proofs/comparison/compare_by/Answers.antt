-- All parts of what is told of the two.
use Rattle.std.proofs.Common.{List, subst, rules}
use Rattle.differences.specs.declared.value_difference.ValueDifference.{ValueDifference}
use Rattle.differences.specs.Comparisons.{PutsTold}
use Rattle.differences.proofs.Told.{compared_by}
use Rattle.differences.proofs.comparison.compare_by.Goals as goal

pub returns-clause-compared : goal.returns-clause-compared
returns-clause-compared g c =
    compared_by c.args.names.now c.args.names.now.design.now c.args.all c.args.first.now c.args.second.now c.in-Ok.one c.in-Ok-summary.other c.in-Ok-rows_between.rows.items c.in_ok-told.told.items _
    c.common_length-count.result c.push_parting.new.text.items _ c.in-Ok.ensures.summary c.in-Ok-summary.ensures.summary (search rules) c.in-Ok-rows_between.ensures.rows c.in_ok-told.ensures
    c.common_length-count.ensures _ c.new-text.ensures.items c.in-Ok-push_parting.ensures.put
    (subst (λ (l : List ValueDifference). PutsTold c.args.names.now c.args.all c.in-Ok.one c.in-Ok-summary.other l c.push_parting.new.text.items c.push_told.new.text.items c.in_ok-same.same) c.deref.ensures.value
    c.in_ok-same.ensures)
