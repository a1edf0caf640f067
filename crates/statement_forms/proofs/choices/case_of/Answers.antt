use Rattle.std.proofs.Common.{◌≡◌, ◌∷◌, List, None, map, ap, ◌∙◌}
use Rattle.std.specs.Prelude.{string_bytes}
use Rattle.model.specs.Syntax.{SourceStatement, Assign, Block}
use Rattle.model.specs.SourceTrees.{source_expression_of, source_statement_of, source_statements}
use Rattle.statement_forms.specs.Views.{core_statements}
use Rattle.statement_forms.specs.Forms.{if_chain, branch_of}
use Rattle.statement_forms.proofs.Beside.{made_so}
use Rattle.statement_forms.proofs.choices.case_of.Goals as goal

pub returns : goal.returns
returns c =
    let hidden = c.args.hidden.now in
    let start = Assign hidden None (source_expression_of c.args.selector) in
    let chain = if_chain (map branch_of c.args.branches.items) (core_statements c.args.otherwise) in
    let name_is : string_bytes c.in_ok-selector.name ≡ hidden = made_so (λ s. string_bytes s ≡ hidden) c.from_str.result c.in_ok-selector.name c.in_ok-selector.ensures.1 c.from_str.ensures.ok in
    let chosen_is : core_statements c.in_ok-start.chosen ≡ chain = made_so (λ made. core_statements made ≡ chain) c.choice_of.result c.in_ok-start.chosen c.in_ok-start.ensures.1 c.choice_of.ensures in
    let start_is : source_statement_of c.in_ok-start.start ≡ start = ap source_statement_of c.in_ok-start.ensures.0 ∙ c.assign_of-taken.ensures ∙ (λ i. Assign (name_is i) None (source_expression_of (c.in_ok-selector.ensures.0 i))) in
    let put : map source_statement_of c.insert.new.self.items ≡ source_statement_of c.in_ok-start.start ∷ core_statements c.in_ok-start.chosen = ap (map source_statement_of) c.in_ok-insert.ensures.items in
    let all : map source_statement_of c.insert.new.self.items ≡ start ∷ chain = put ∙ (λ i. start_is i ∷ chosen_is i) in
    c.block_of.ensures ∙ ap (λ (ss : List SourceStatement). Block (source_statements ss)) all
