use Rattle.std.proofs.Common.{◌≡◌, [], ◌∷◌, List, None, map, ap, ◌∙◌}
use Rattle.std.specs.Prelude.{string_bytes}
use Rattle.model.specs.declared.tree.BinaryOperator.TheVariants.{Greater, Subtract}
use Rattle.model.specs.Syntax.{Text, Assign, Binary, Block, Register, SourceStatement}
use Rattle.model.specs.SourceTrees.{source_expression_of, source_statement_of, source_statements}
use Rattle.statement_forms.specs.Forms.{one, nought, while_true}
use Rattle.statement_forms.proofs.Beside.{made_so}
use Rattle.statement_forms.proofs.loops.repeat_of.Goals as goal

-- the turns of a repeat of a statement
abbrev turns_with : Text → SourceStatement → SourceStatement
turns_with hidden s = while_true (Binary Greater (Register hidden) nought) (Assign hidden None (Binary Subtract (Register hidden) one) ∷ s ∷ [])

pub returns : goal.returns
returns c =
    let hidden = c.args.hidden.now in
    let given = c.in_ok-given.given in
    let name_is : string_bytes c.in_ok-given.name ≡ hidden = made_so (λ s. string_bytes s ≡ hidden) c.from_str.result c.in_ok-given.name c.in_ok-given.ensures.1 c.from_str.ensures.ok in
    let count : given.0 ≡ c.args.count = ap (λ x. x.0) c.in_ok-given.ensures.0 in
    let body : given.1 ≡ c.args.body = ap (λ x. x.1) c.in_ok-given.ensures.0 in
    let start : source_statement_of c.in_ok-start.start ≡ Assign hidden None (source_expression_of c.args.count) = ap source_statement_of c.in_ok-start.ensures.0 ∙ c.assign_of-taken.ensures ∙ (λ i. Assign (name_is i) None (source_expression_of (count i))) in
    let again : source_statement_of c.in_ok-start.turns ≡ turns_with hidden (source_statement_of given.1) = made_so (λ made. source_statement_of made ≡ turns_with hidden (source_statement_of given.1)) c.turns_of.result c.in_ok-start.turns c.in_ok-start.ensures.1 c.turns_of.ensures in
    let turns : source_statement_of c.in_ok-start.turns ≡ turns_with hidden (source_statement_of c.args.body) = again ∙ (λ i. turns_with hidden (source_statement_of (body i))) in
    let made : map source_statement_of c.in_ok-pair.field-0.items ≡ source_statement_of c.in_ok-start.start ∷ source_statement_of c.in_ok-start.turns ∷ [] = ap (map source_statement_of) c.in_ok-pair.ensures in
    let all : map source_statement_of c.in_ok-pair.field-0.items ≡ Assign hidden None (source_expression_of c.args.count) ∷ turns_with hidden (source_statement_of c.args.body) ∷ [] = made ∙ (λ i. start i ∷ turns i ∷ []) in
    c.block_of.ensures ∙ ap (λ (ss : List SourceStatement). Block (source_statements ss)) all
