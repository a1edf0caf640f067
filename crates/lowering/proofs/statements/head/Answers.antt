use Rattle.std.proofs.Common.{[], sym, subst}
use Rattle.model.specs.SourceTrees.{source_statement_of}
use Rattle.model.specs.declared.tree.SourceStatement.{SourceStatement}
use Rattle.statement_parts.specs.Places.{surroundings}
use Rattle.statement_parts.specs.Statements.{plain_assignment}
use Rattle.lowering.specs.Lowering.{Lowers, head_assignment}
use Rattle.lowering.proofs.statements.head.Goals as goal

pub returns : goal.returns
returns c =
    subst (λ (t : SourceStatement). Lowers (surroundings c.args.around.design.now) c.args.around.scope (head_assignment (plain_assignment c.args.source.now)) (source_statement_of t) []) (sym c.in_ok-new.ensures.ok) c.in_ok-made.ensures
