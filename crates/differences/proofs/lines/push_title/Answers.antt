-- The number, and what comes then.
use Rattle.std.proofs.Common.{◌∙◌, ap, ℕ, List, ◌++◌, refl, codes, decimal}
use Rattle.explain.proofs.Pieces.{joined}
use Rattle.differences.specs.ComparedLines.{title_end}
use Rattle.differences.proofs.Told.{last_put}
use Rattle.differences.proofs.lines.push_title.Goals as goal

pub returns : goal.returns
returns c =
    let text : List ℕ = c.args.text.now.items in
    let numbered : List ℕ = c.push_labelled.new.text.items in
    let last : List ℕ = title_end c.args.first c.args.second in
    last_put c.extend_from_slice.result c.extend_from_slice.new.self.items numbered c.as_bytes.result.now _ c.extend_from_slice.ensures.items
    (ap (λ (l : List ℕ). numbered ++ l) (c.as_bytes.ensures.value ∙ c.title_end.ensures)
    ∙ joined (numbered ++ last) text (codes "common entries: " ++ decimal c.args.count) numbered last refl c.in_ok-push_labelled.ensures)
