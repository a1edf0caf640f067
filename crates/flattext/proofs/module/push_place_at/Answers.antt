use Rattle.std.proofs.Common.{◌≡◌, ◌++◌, OnOk, ap, sym, ◌∙◌, subst, append-nil}
use Rattle.model.specs.Syntax.{Text}
use Rattle.flattext.proofs.Placed.{placed_there, none_there}
use Rattle.flattext.proofs.module.push_place_at.Goals as goal

pub returns-then-number-places : goal.returns-then-number-places
returns-then-number-places c =
    let text = c.args.text.now.items in
    subst (λ (w : Text). OnOk c.push_place.result (c.push_place.new.text.items ≡ text ++ w)) (placed_there c.args.places.now c.args.number _ c.if-number-places.true) c.push_place.ensures

pub returns-else-number-places : goal.returns-else-number-places
returns-else-number-places c =
    let text = c.args.text.now.items in
    sym (append-nil text) ∙ ap (λ w. text ++ w) (sym (none_there c.args.places.now c.args.number c.if-number-places.false))
