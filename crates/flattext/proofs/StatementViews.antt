-- The plain tree of statements that have others inside them.
use Rattle.std.proofs.Common.{◌≡◌, map, ap, sym, ◌∙◌}
use Rattle.model.specs.Syntax as plain
use Rattle.model.specs.SourceTrees.{source_expression_of, source_statement_of, source_statement_node, source_statements, source_trigger_of}
use Rattle.model.specs.declared.tree.SourceStatement.{SourceStatement, fold-roll-SourceStatement}
use Rattle.model.specs.declared.tree.SourceStatement.TheOpen.{SourceStatement-F}
use Rattle.model.specs.declared.tree.SourceStatement.TheViews as view
use Rattle.model.specs.declared.tree.SourceStatement.TheVariants.{rolls-Delay, rolls-Await, rolls-If, rolls-IfElse, rolls-While}

pub viewed_delay : (s : SourceStatement) (delay : _) (body : _) → s ≡ view.Delay delay body → source_statement_of s ≡ plain.Delay delay (source_statement_of body.value)
viewed_delay s delay body is = ap source_statement_of (is ∙ sym (rolls-Delay delay body)) ∙ fold-roll-SourceStatement plain.SourceStatement source_statement_node (SourceStatement-F.Delay delay body)

pub viewed_await : (s : SourceStatement) (events : _) (body : _) → s ≡ view.Await events body → source_statement_of s ≡ plain.Await (map source_trigger_of events.items) (source_statement_of body.value)
viewed_await s events body is = ap source_statement_of (is ∙ sym (rolls-Await events body)) ∙ fold-roll-SourceStatement plain.SourceStatement source_statement_node (SourceStatement-F.Await events body)

pub viewed_if : (s : SourceStatement) (c : _) (body : _) → s ≡ view.If c body → source_statement_of s ≡ plain.If (source_expression_of c) (source_statements (map source_statement_of body.items))
viewed_if s c body is = ap source_statement_of (is ∙ sym (rolls-If c body)) ∙ fold-roll-SourceStatement plain.SourceStatement source_statement_node (SourceStatement-F.If c body)

pub viewed_if_else : (s : SourceStatement) (c : _) (body : _) (other : _) → s ≡ view.IfElse c body other → source_statement_of s ≡ plain.IfElse (source_expression_of c) (source_statements (map source_statement_of body.items)) (source_statements (map source_statement_of other.items))
viewed_if_else s c body other is = ap source_statement_of (is ∙ sym (rolls-IfElse c body other)) ∙ fold-roll-SourceStatement plain.SourceStatement source_statement_node (SourceStatement-F.IfElse c body other)

pub viewed_while : (s : SourceStatement) (c : _) (body : _) → s ≡ view.While c body → source_statement_of s ≡ plain.While (source_expression_of c) (source_statements (map source_statement_of body.items))
viewed_while s c body is = ap source_statement_of (is ∙ sym (rolls-While c body)) ∙ fold-roll-SourceStatement plain.SourceStatement source_statement_node (SourceStatement-F.While c body)
