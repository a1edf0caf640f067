use Rattle.std.proofs.Common.{◌≡◌, [], ◌∷◌, None, map, ap, ◌∙◌}
use Rattle.model.specs.declared.tree.BinaryOperator.TheVariants.{Subtract}
use Rattle.model.specs.Syntax.{Assign, Binary, Register, While}
use Rattle.model.specs.SourceTrees.{source_statement_of, source_statements}
use Rattle.statement_forms.specs.Forms.{one}
use Rattle.statement_forms.proofs.Beside.{made_so}
use Rattle.statement_forms.proofs.loops.turns_of.Goals as goal

pub returns : goal.returns
returns c =
    let hidden = c.args.hidden.now in
    let less = Assign hidden None (Binary Subtract (Register hidden) one) in
    let less_is : source_statement_of c.in_ok-body.less ≡ less = made_so (λ made. source_statement_of made ≡ less) c.less_one.result c.in_ok-body.less c.in_ok-body.ensures.1 c.less_one.ensures in
    let two : map source_statement_of c.in_ok-turn.turn.items ≡ source_statement_of c.in_ok-body.less ∷ source_statement_of c.in_ok-body.body ∷ [] = ap (map source_statement_of) c.in_ok-turn.ensures in
    let turn : map source_statement_of c.in_ok-turn.turn.items ≡ less ∷ source_statement_of c.args.body ∷ [] = two ∙ (λ i. less_is i ∷ source_statement_of (c.in_ok-body.ensures.0 i) ∷ []) in
    c.while_of.ensures ∙ (λ i. While (c.in_ok-is_left.ensures i) (source_statements (turn i)))
