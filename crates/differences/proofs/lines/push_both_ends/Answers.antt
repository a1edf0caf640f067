-- The title, and the two ends, one behind the other.
use Rattle.std.proofs.Common.{◌≡◌, ◌∙◌, ap, ℕ, List, ◌++◌, refl, codes}
use Rattle.explain.proofs.Pieces.{joined}
use Rattle.differences.specs.ComparedLines.{both_ends}
use Rattle.differences.proofs.Told.{last_put}
use Rattle.differences.proofs.lines.push_both_ends.Goals as goal

pub returns : goal.returns
returns c =
    let text : List ℕ = c.args.text.now.items in
    let title : List ℕ = c.args.title.now in
    let one : List ℕ = c.args.one.now.ending.items in
    let other : List ℕ = c.args.other.now.ending.items in
    let t0 : List ℕ = c.extend_from_slice.new.self.items in
    let t1 : List ℕ = c.extend_from_slice-2.new.self.items in
    let t2 : List ℕ = c.extend_from_slice-3.new.self.items in
    let t3 : List ℕ = c.extend_from_slice-4.new.self.items in
    let first : List ℕ = codes "  first: " in
    let second : List ℕ = codes "  second: " in
    let put : t2 ≡ t1 ++ one = c.in_ok-extend_from_slice-3.ensures.items ∙ ap (λ (l : List ℕ). t1 ++ l) c.as_slice.ensures.value in
    let labelled : t3 ≡ t0 ++ (first ++ one ++ second) =
    joined t3 t0 (first ++ one) t2 second c.in_ok-extend_from_slice-4.ensures.items (joined t2 t0 first t1 one put c.in_ok-extend_from_slice-2.ensures.items) in
    last_put c.extend_from_slice-5.result c.extend_from_slice-5.new.self.items t3 c.as_slice-2.result.now _ c.extend_from_slice-5.ensures.items
    (ap (λ (l : List ℕ). t3 ++ l) c.as_slice-2.ensures.value
    ∙ joined (t3 ++ other) text title t0 (both_ends one other) (joined (t3 ++ other) t0 (first ++ one ++ second) t3 other refl labelled) c.in_ok-extend_from_slice.ensures.items)
