-- The first ones are marked.
use Rattle.std.proofs.Common.{◌≡◌, ℕ, ◌||◌, ◌==◌, take}
use Rattle.std.specs.List.{list_any}
use Rattle.certificates.specs.Marks.{is_marked}
use Rattle.certificates.proofs.summary.mark_assigned.Given as goal

abbrev pub invariant-loop-assigned : goal.invariant-loop-assigned
invariant-loop-assigned l = (n : ℕ) → is_marked l.marks.items n ≡ (is_marked l.fn.marks.items n || list_any (λ x. x.0 == n) (take l.assigned-index l.assigns))
