-- The change of one write more.
use Rattle.std.proofs.Common.{◌+◌, ◌++◌, ◌<◌, ℕ, List, length, take, sym, ap, ◌∙◌, arith}
use Rattle.logic4.specs.Vector.{Vector}
use Rattle.model.specs.Expressions.{value_of}
use Rattle.orders.specs.Apart.{all_given}
use Rattle.footprints.specs.Footprints.{change_made, changes_made}
use Rattle.noted.proofs.Growing.{grown_by}
use Rattle.noted.proofs.Behind.{changes_more}
use Rattle.noted.proofs.changes.note_changes.Goals as goal

pub loop-place-preserved : goal.loop-place-preserved
loop-place-preserved c =
    let store = c.args.store.now in
    let writes = c.args.writes.now in
    let i = c.loop-place.place in
    let w = c.index-writes-place.result in
    let lt : i < length writes = omega arith in
    let before = c.value_behind-before.ensures ∙ ap (λ (es : List (ℕ × Vector)). value_of (all_given store es) w.0) c.split_at.ensures.front in
    grown_by c.args.changes.now c.loop-place.changes c.note_change.new.changes (changes_made store (take i writes)) (changes_made store (take (i + 1) writes)) (change_made c.value_behind-before.result w) c.loop-place.invariant
    c.in_ok-note_change.ensures
    (changes_more store writes i w lt c.index-writes-place.is ∙ ap (λ (v : Vector). changes_made store (take i writes) ++ change_made v w) (sym before))
