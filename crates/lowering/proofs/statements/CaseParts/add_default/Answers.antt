use Rattle.std.proofs.Common.{[], ◌∷◌, ◌++◌, ◌∙◌, map, ap}
use Rattle.model.specs.declared.tree.SourceStatement.{SourceStatement}
use Rattle.statement_forms.specs.Forms.{branch_of}
use Rattle.lowering.proofs.Fronts.{none_if_empty}
use Rattle.lowering.proofs.Parts.{default_added}
use Rattle.lowering.proofs.statements.CaseParts.add_default.Goals as goal

pub returns : goal.returns
returns c =
    default_added (map branch_of c.args.self.now.branches.items) c.args.self.now.otherwise.items c.push.new.self.items c.args.body.value (none_if_empty c.args.self.now.otherwise c.is_empty.result c.is_empty.ensures c.if-not-is_empty.false) (c.in_ok-push.ensures.items ∙ ap (λ (s : SourceStatement). c.args.self.now.otherwise.items ++ s ∷ []) c.into_inner.ensures)
