use Rattle.std.proofs.Common.{rules, ◌≡◌, ◌∙◌, sym, subst, length, ◌<◌, ◌++◌, ◌∷◌, []}
use Rattle.std.specs.Prelude.{slice_set}
use Rattle.turn.specs.TurnChanges.{first_turn_change, IsIndexOf}
use Rattle.turn.proofs.TurnChanges.{noted_new, placed_more, placed_push}
use Rattle.turn.proofs.writes.note_first.Goals as goal

pub returns-in_err-make_place-clause-placed : goal.returns-in_err-make_place-clause-placed
returns-in_err-make_place-clause-placed c =
    placed_more c.args.turn_changes.now.items c.args.places.now.items c.make_place.new.places.items c.requires.placed c.make_place.ensures.kept

pub returns-in_err-push-clause-placed : goal.returns-in_err-push-clause-placed
returns-in_err-push-clause-placed c =
    let same : c.push.new.self.items ≡ c.args.turn_changes.now.items = search rules in
    subst (λ l. IsIndexOf l c.make_place.new.places.items) (sym same)
    (placed_more c.args.turn_changes.now.items c.args.places.now.items c.make_place.new.places.items c.requires.placed c.make_place.ensures.kept)

pub returns-clause-noted : goal.returns-clause-noted
returns-clause-noted c =
    let pushed : c.push.new.self.items ≡ c.args.turn_changes.now.items ++ first_turn_change (c.args.register, c.args.value.now) ∷ [] = search rules in
    pushed ∙ sym (noted_new c.args.turn_changes.now.items (c.args.register, c.args.value.now) c.requires.none)

pub returns-clause-placed : goal.returns-clause-placed
returns-clause-placed c =
    let turn_changes = c.args.turn_changes.now.items in
    let places = c.make_place.new.places.items in
    let kept : IsIndexOf turn_changes places = placed_more turn_changes c.args.places.now.items places c.requires.placed c.make_place.ensures.kept in
    let pushed : c.push.new.self.items ≡ turn_changes ++ first_turn_change (c.args.register, c.args.value.now) ∷ [] = search rules in
    let at : c.len-at.result ≡ length turn_changes = search rules in
    let within : c.args.register < length places = c.in_ok-make_place.ensures.within in
    subst (λ l. IsIndexOf l (slice_set places c.args.register c.len-at.result)) (sym pushed)
    (subst (λ k. IsIndexOf (turn_changes ++ first_turn_change (c.args.register, c.args.value.now) ∷ []) (slice_set places c.args.register k)) (sym at)
    (placed_push turn_changes places (c.args.register, c.args.value.now) kept c.requires.none within))
