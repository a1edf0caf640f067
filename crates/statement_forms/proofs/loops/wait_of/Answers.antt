use Rattle.std.proofs.Common.{◌≡◌, [], ◌∷◌, List, map, ap, ◌∙◌}
use Rattle.model.specs.declared.tree.BinaryOperator.TheVariants.{CaseNotEqual}
use Rattle.model.specs.declared.tree.UnaryOperator.TheVariants.{ReduceOr}
use Rattle.model.specs.Syntax.{Await, Binary, Block, Empty, SourceStatement, Unary, While}
use Rattle.model.specs.SourceTrees.{source_expression_of, source_statement_of, source_statements}
use Rattle.statement_forms.specs.Views.{core_statements, core_triggers}
use Rattle.statement_forms.specs.Forms.{one}
use Rattle.statement_forms.proofs.Beside.{made_so}
use Rattle.statement_forms.proofs.loops.wait_of.Goals as goal

pub returns : goal.returns
returns c =
    let none = Binary CaseNotEqual (Unary ReduceOr (source_expression_of c.args.condition)) one in
    let waited : List SourceStatement = Await (core_triggers c.args.changes) Empty ∷ [] in
    let inner = c.in_ok-inner.inner in
    let none_is : source_expression_of c.in_ok-body.none ≡ none = made_so (λ made. source_expression_of made ≡ none) c.has_no_one.result c.in_ok-body.none c.in_ok-body.ensures.1 c.has_no_one.ensures in
    let wait : core_statements c.in_ok-inner.wait ≡ waited = made_so (λ made. core_statements made ≡ waited) c.changes_once.result c.in_ok-inner.wait c.in_ok-inner.ensures.1 c.changes_once.ensures in
    let test : source_expression_of inner.0 ≡ none = ap (λ x. source_expression_of x.0) c.in_ok-inner.ensures.0 ∙ none_is in
    let body : inner.1 ≡ c.args.body = ap (λ x. x.1) c.in_ok-inner.ensures.0 ∙ c.in_ok-body.ensures.0 in
    let waits : source_statement_of c.while_of-waits.result ≡ While none (source_statements waited) = c.while_of-waits.ensures ∙ (λ i. While (test i) (source_statements (wait i))) in
    let made : map source_statement_of c.in_ok-pair.field-0.items ≡ source_statement_of c.while_of-waits.result ∷ source_statement_of inner.1 ∷ [] = ap (map source_statement_of) c.in_ok-pair.ensures in
    let all : map source_statement_of c.in_ok-pair.field-0.items ≡ While none (source_statements waited) ∷ source_statement_of c.args.body ∷ [] = made ∙ (λ i. waits i ∷ source_statement_of (body i) ∷ []) in
    c.block_of.ensures ∙ ap (λ (ss : List SourceStatement). Block (source_statements ss)) all
