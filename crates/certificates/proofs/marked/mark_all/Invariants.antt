-- The first ones are marked.
use Rattle.std.proofs.Common.{◌≡◌, ℕ, ◌||◌, ◌==◌, take}
use Rattle.std.specs.List.{list_any}
use Rattle.certificates.specs.Marks.{is_marked}
use Rattle.certificates.proofs.marked.mark_all.Given as goal

abbrev pub invariant-loop-item : goal.invariant-loop-item
invariant-loop-item g l = (n : ℕ) → is_marked l.marks.items n ≡ (is_marked l.fn.marks.items n || list_any (λ x. g.T.Numbered.number_of x == n) (take l.item-index l.items))
