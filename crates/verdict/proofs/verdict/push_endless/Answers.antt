use Rattle.std.proofs.Common.{◌++◌, ◌∙◌, ap, sym, List, ℕ, option_map}
use Rattle.std.proofs.lemmas.Result.{on_ok_weaker}
use Rattle.verdict.proofs.Pieces.{endless_known}
use Rattle.verdict.proofs.verdict.push_endless.Goals as goal

pub returns-in-Some : goal.returns-in-Some
returns-in-Some c =
    let prefix = option_map (λ path. path.now) c.args.prefix in
    on_ok_weaker c.push_parts.result (λ whole. whole ∙ ap (λ (l : List ℕ). c.args.text.now.items ++ l) (sym (endless_known c.args.endless prefix c.in-Some.field-0 c.in-Some.is))) c.push_parts.ensures
