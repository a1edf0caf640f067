use Rattle.std.proofs.Common.{◌≡◌, ◌∙◌, sym, false}
use Rattle.turn.specs.TurnChanges.{is_turn_change_at}
use Rattle.turn.proofs.TurnChanges.{none_listed, none_there}
use Rattle.turn.proofs.writes.turn_change_index.Goals as goal

pub returns-in-None : goal.returns-in-None
returns-in-None c =
    none_listed c.args.turn_changes.now c.args.places.now c.args.register c.requires (sym c.listed.ensures ∙ c.in-None.is)

pub returns-else-is_turn_change_at : goal.returns-else-is_turn_change_at
returns-else-is_turn_change_at c =
    let not : is_turn_change_at c.args.turn_changes.now c.in-Some.place c.args.register ≡ false = sym c.is_turn_change_at.ensures ∙ c.if-is_turn_change_at.false in
    none_there c.args.turn_changes.now c.args.places.now c.in-Some.place c.args.register c.requires (sym c.listed.ensures ∙ c.in-Some.is) not
