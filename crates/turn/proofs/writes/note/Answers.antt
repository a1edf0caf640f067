use Rattle.std.proofs.Common.{◌≡◌, ◌∙◌, sym, ap, subst, true}
use Rattle.std.specs.Prelude.{slice_set}
use Rattle.turn.specs.TurnChanges.{is_turn_change_at, IsIndexOf}
use Rattle.turn.proofs.TurnChanges.{IsTheTurnChange, the_turn_change_at, noted_at, placed_set}
use Rattle.turn.proofs.writes.note.Goals as goal

the_turn_change : (c : goal.After-turn_changes-1) → IsTheTurnChange c.args.turn_changes.now.items c.in-Some.place c.args.register c.index_mut.result.now
the_turn_change c =
    let turn_changes = c.args.turn_changes.now.items in
    let here : is_turn_change_at turn_changes c.in-Some.place c.args.register ≡ true = subst (λ l. is_turn_change_at l c.in-Some.place c.args.register ≡ true) c.deref.ensures.value c.in-Some.ensures in
    the_turn_change_at turn_changes c.in-Some.place c.args.register c.index_mut.result.now here c.index_mut.ensures.value

pub returns-in-Some-clause-noted : goal.returns-in-Some-clause-noted
returns-in-Some-clause-noted c =
    let turn_changes = c.args.turn_changes.now.items in
    let t = the_turn_change c in
    ap (slice_set turn_changes c.in-Some.place) c.write.ensures
    ∙ sym (noted_at turn_changes c.args.places.now.items c.in-Some.place c.index_mut.result.now (c.args.register, c.args.value.now) c.requires.placed t.is t.here)

pub returns-in-Some-clause-placed : goal.returns-in-Some-clause-placed
returns-in-Some-clause-placed c =
    let turn_changes = c.args.turn_changes.now.items in
    let t = the_turn_change c in
    subst (λ n. IsIndexOf (slice_set turn_changes c.in-Some.place n) c.args.places.now.items) (sym c.write.ensures)
    (placed_set turn_changes c.args.places.now.items c.in-Some.place c.index_mut.result.now c.args.value.now c.requires.placed t.is)
