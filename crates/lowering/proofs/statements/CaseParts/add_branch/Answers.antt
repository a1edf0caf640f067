use Rattle.model.specs.SourceTrees.{source_expression_of, source_statement_of}
use Rattle.statement_forms.specs.Views.{core_statements}
use Rattle.lowering.proofs.Boxed.{branch_taken_out}
use Rattle.lowering.proofs.Parts.{branch_added}
use Rattle.lowering.proofs.statements.CaseParts.add_branch.Goals as goal

pub returns : goal.returns
returns c =
    branch_added c.args.self.now.branches.items c.push.new.self.items (record { condition = c.into_inner-condition.result; body = c.in_ok-body.body }) (source_expression_of c.args.condition) (source_statement_of c.args.body.value)
    (core_statements c.args.self.now.otherwise) c.in_ok-push.ensures.items
    (branch_taken_out _ _ _ _ _ _ c.into_inner-condition.ensures c.in_ok-condition.ensures.ok c.in_ok-body.ensures c.into_inner.ensures)
