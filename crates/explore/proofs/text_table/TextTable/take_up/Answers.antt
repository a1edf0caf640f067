use Rattle.std.proofs.Common.{◌++◌, [], ℕ, List, get_or, ap, sym, ◌∙◌}
use Rattle.std.proofs.lemmas.List.{append-nil}
use Rattle.explore.specs.NumberedTexts.{texts}
use Rattle.explore.proofs.text_table.TextTable.take_up.Goals as goal

pub returns-then-number-eq0-clause-text : goal.returns-then-number-eq0-clause-text
returns-then-number-eq0-clause-text c =
    let all = texts c.args.self.now in
    ap (λ n. get_or all n []) c.if-number-eq0.true ∙ (sym (append-nil (get_or all 0 [])) ∙ ap (λ (l : List ℕ). get_or all 0 [] ++ l) (sym c.clear.ensures.items))

pub returns-then-is_some-clause-text : goal.returns-then-is_some-clause-text
returns-then-is_some-clause-text c =
    let text = get_or (texts c.args.self.now) c.args.number [] in
    sym (append-nil text) ∙ ap (λ (l : List ℕ). text ++ l) (sym c.clear.ensures.items)

pub returns-clause-text : goal.returns-clause-text
returns-clause-text c =
    let before = get_or (texts c.args.self.now) c.last_edge-edge.result.before [] in
    c.last_edge-edge.ensures.text
    ∙ ap (λ (l : List ℕ). before ++ l) (sym (c.in_ok-extend_from_slice.ensures.items ∙ (ap (λ (l : List ℕ). l ++ c.group-group.result.now) c.clear.ensures.items ∙ c.group-group.ensures)))
