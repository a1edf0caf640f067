use Rattle.std.proofs.Common.{ℕ, ◌+◌, ◌≤◌, ◌==◌, if◌then◌else◌, length, subst, sym, ap, ◌∙◌, refl}
use Rattle.logic4.specs.Operators.{same_vector}
use Rattle.model.specs.Expressions.{value_of}
use Rattle.model.specs.Runs.{values_in}
use Rattle.regcells.specs.Values.{last_value}
use Rattle.regcells.specs.CellSeats.{Fresh, seen_of, last_values, changes_left, IsOfRegisters}
use Rattle.regcells.proofs.Lasts.{turn_change_last, turn_change_width, few_changes}
use Rattle.regcells.proofs.LastValues.{ready_given, values_given, left_given}
use Rattle.regcells.proofs.held.HeldStoreStore.set_turn_change.Goals as goal

pub returns-clause-ready : goal.returns-clause-ready
returns-clause-ready g c =
    let cells = c.args.self.now.cells.now in
    let holder = c.args.self.now.holder.now in
    let turn_change = c.args.turn_change in
    let given = values_in turn_change.register c.args.writes.now in
    let last = turn_change_last given turn_change (last_value (seen_of holder turn_change.register)) c.requires.turn_change in
    let wide = turn_change_width given turn_change (length (value_of (last_values holder) turn_change.register)) c.requires.turn_change c.requires.widths in
    subst (IsOfRegisters cells) (sym c.store_turn_change.ensures) (ready_given cells holder turn_change.register given turn_change.last c.requires.ready last wide)

pub returns-clause-values : goal.returns-clause-values
returns-clause-values g c =
    let holder = c.args.self.now.holder.now in
    let turn_change = c.args.turn_change in
    let given = values_in turn_change.register c.args.writes.now in
    ap last_values c.store_turn_change.ensures ∙ values_given holder turn_change.register given turn_change.last (turn_change_last given turn_change (last_value (seen_of holder turn_change.register)) c.requires.turn_change)

pub returns-clause-left : goal.returns-clause-left
returns-clause-left g c =
    let holder = c.args.self.now.holder.now in
    let turn_change = c.args.turn_change in
    let given = values_in turn_change.register c.args.writes.now in
    let last = last_value (seen_of holder turn_change.register) in
    let few = few_changes (same_vector last turn_change.first) given turn_change last refl c.requires.turn_change in
    subst (λ (f : Fresh). (r : ℕ) → changes_left holder r ≤ changes_left f r + (if r == turn_change.register then turn_change.changes + 1 else 0))
    (sym c.store_turn_change.ensures)
    (left_given holder turn_change.register given (turn_change.changes + 1) c.requires.declared few)
