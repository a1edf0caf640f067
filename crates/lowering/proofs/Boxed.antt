-- What a loop or a wait is made of is taken out of its boxes.
use Rattle.std.proofs.Common.{◌≡◌, List, [], ◌∷◌, map, ap, ◌∙◌}
use Rattle.model.specs.Syntax as core
use Rattle.model.specs.Syntax.{Text, registers_of}
use Rattle.model.specs.SourceTrees.{source_expression_of, source_statement_of, source_statements}
use Rattle.model.specs.declared.tree.SourceExpression.{SourceExpression}
use Rattle.model.specs.declared.tree.SourceStatement.{SourceStatement}
use Rattle.statement_forms.specs.Views.{NamedTrigger}
use Rattle.statement_forms.specs.Forms.{PlainBranch, for_loop, repeat_loop, wait_until}
use Rattle.statement_parts.specs.Parts.{whole_change}

pub wait_taken_out : (made : core.SourceStatement) (t u lent : SourceExpression) (s v : SourceStatement) (triggers : List NamedTrigger) → made ≡ wait_until (source_expression_of t) triggers (source_statement_of s) → t ≡ u → s ≡ v → lent ≡ u
    → triggers ≡ map whole_change (registers_of (source_expression_of lent)) → made ≡ wait_until (source_expression_of u) (map whole_change (registers_of (source_expression_of u))) (source_statement_of v)
wait_taken_out made t u lent s v triggers is p q r changes = cc

pub while_taken_out : (made : core.SourceStatement) (t u : SourceExpression) (s v : SourceStatement) (body : List core.SourceStatement) → made ≡ core.While (source_expression_of t) (source_statements body) → t ≡ u → body ≡ source_statement_of s ∷ [] → s ≡ v
    → made ≡ core.While (source_expression_of u) (source_statements (source_statement_of v ∷ []))
while_taken_out made t u s v body is p q r = cc

pub for_taken_out : (made : core.SourceStatement) (first first' : SourceStatement) (t u : SourceExpression) (next next' body body' : SourceStatement) → made ≡ for_loop (source_statement_of first) (source_expression_of t) (source_statement_of next) (source_statement_of body)
    → first ≡ first' → t ≡ u → next ≡ next' → body ≡ body' → made ≡ for_loop (source_statement_of first') (source_expression_of u) (source_statement_of next') (source_statement_of body')
for_taken_out made first first' t u next next' body body' is p q r s = cc

pub repeat_taken_out : (made : core.SourceStatement) (name text : Text) (t b u : SourceExpression) (s v : SourceStatement) → made ≡ repeat_loop name (source_expression_of t) (source_statement_of s) → name ≡ text → t ≡ b → b ≡ u → s ≡ v
    → made ≡ repeat_loop text (source_expression_of u) (source_statement_of v)
repeat_taken_out made name text t b u s v is p q r h = cc

pub branch_taken_out : (t b u : SourceExpression) (body : List core.SourceStatement) (s v : SourceStatement) → t ≡ b → b ≡ u → body ≡ source_statement_of s ∷ [] → s ≡ v
    → ◌≡◌ {A = PlainBranch} (source_expression_of t, body) (source_expression_of u, source_statement_of v ∷ [])
branch_taken_out t b u body s v p q r h =
    let condition : source_expression_of t ≡ source_expression_of u = ap source_expression_of (p ∙ q) in
    let inside : body ≡ source_statement_of v ∷ [] = r ∙ ap (λ (x : SourceStatement). source_statement_of x ∷ []) h in
    ap (λ (e : core.Expression Text). (e, body)) condition ∙ ap (λ (xs : List core.SourceStatement). (source_expression_of u, xs)) inside
