-- How the runs end, and when.
use Rattle.std.proofs.Common.{◌≡◌, ◌∙◌, ap, ℕ, List, ◌++◌, refl, decimal}
use Rattle.explain.proofs.Pieces.{joined}
use Rattle.differences.specs.ComparedLines.{both_end_head, both_end_tail}
use Rattle.differences.proofs.Told.{last_put}
use Rattle.differences.proofs.lines.push_both_end.Goals as goal

pub returns : goal.returns
returns c =
    let text : List ℕ = c.args.text.now.items in
    let time : List ℕ = decimal c.args.one.now.time in
    let head : List ℕ = both_end_head c.args.one.now.finished in
    let tail : List ℕ = both_end_tail c.args.one.now.finished c.args.one.now.quiet in
    let begun : List ℕ = c.push_labelled.new.text.items in
    let headed : begun ≡ text ++ (head ++ time) = c.in_ok-push_labelled.ensures ∙ ap (λ (l : List ℕ). text ++ (l ++ time)) c.both_end_head.ensures in
    last_put c.extend_from_slice.result c.extend_from_slice.new.self.items begun c.both_end_tail.result.now _ c.extend_from_slice.ensures.items
    (ap (λ (l : List ℕ). begun ++ l) c.both_end_tail.ensures ∙ joined (begun ++ tail) text (head ++ time) begun tail refl headed)
