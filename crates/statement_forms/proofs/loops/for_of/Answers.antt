use Rattle.std.proofs.Common.{◌≡◌, [], ◌∷◌, List, map, ap, ◌∙◌}
use Rattle.model.specs.Syntax.{SourceStatement, Block, While}
use Rattle.model.specs.SourceTrees.{source_expression_of, source_statement_of, source_statements}
use Rattle.statement_forms.proofs.Beside.{made_so}
use Rattle.statement_forms.proofs.loops.for_of.Goals as goal

pub returns : goal.returns
returns c =
    let outer = c.in_ok-outer.outer in
    let both : List SourceStatement = source_statement_of c.args.body ∷ source_statement_of c.args.step ∷ [] in
    let two : c.in_ok-outer.turn.items ≡ c.args.body ∷ c.args.step ∷ [] = made_so (λ made. made.items ≡ c.args.body ∷ c.args.step ∷ []) c.pair.result c.in_ok-outer.turn c.in_ok-outer.ensures.1 c.pair.ensures in
    let turn : map source_statement_of c.in_ok-outer.turn.items ≡ both = ap (map source_statement_of) two in
    let start : outer.0 ≡ c.args.start = ap (λ x. x.0) c.in_ok-outer.ensures.0 in
    let condition : outer.1 ≡ c.args.condition = ap (λ x. x.1) c.in_ok-outer.ensures.0 in
    let turns : source_statement_of c.while_of-turns.result ≡ While (source_expression_of c.args.condition) (source_statements both) = c.while_of-turns.ensures ∙ (λ i. While (source_expression_of (condition i)) (source_statements (turn i))) in
    let made : map source_statement_of c.in_ok-pair.field-0.items ≡ source_statement_of outer.0 ∷ source_statement_of c.while_of-turns.result ∷ [] = ap (map source_statement_of) c.in_ok-pair.ensures in
    let all : map source_statement_of c.in_ok-pair.field-0.items ≡ source_statement_of c.args.start ∷ While (source_expression_of c.args.condition) (source_statements both) ∷ [] = made ∙ (λ i. source_statement_of (start i) ∷ turns i ∷ []) in
    c.block_of.ensures ∙ ap (λ (ss : List SourceStatement). Block (source_statements ss)) all
