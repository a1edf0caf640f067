-- The writes that are tested are those of the turn.
use Rattle.std.proofs.Common.{◌≡◌, ◌∙◌, ℕ, List, ap, subst}
use Rattle.logic4.specs.Vector.{Vector}
use Rattle.orders.specs.Apart.{all_given}
use Rattle.footprints.specs.Footprints.{changes_made}
use Rattle.heldways.specs.Passing.{AllPass}
use Rattle.passing.specs.Moves.{passes_by}
use Rattle.passing.proofs.Evaluated.{turn_writes}
use Rattle.passing.proofs.combinations.turn_tested.Goals as goal

pub returns-in-Ok-clause-passes : goal.returns-in-Ok-clause-passes
returns-in-Ok-clause-passes c = λ on p turn own at.
    let scope = c.args.scope in
    let same : c.writes.result.now ≡ turn.writes =
    turn_writes scope.design.now scope.place.now c.args.values.now scope.time c.turn_on.new.log c.writes.result.now p turn c.requires.widths c.in-Ok.ensures c.writes.ensures own at in
    subst (λ (ws : List (ℕ × Vector)). AllPass (passes_by scope.moves.now) (changes_made c.args.made.now ws)) same (c.writes_tested.ensures.passes on)

pub returns-in-Ok-clause-made : goal.returns-in-Ok-clause-made
returns-in-Ok-clause-made c = λ on p turn own at.
    let scope = c.args.scope in
    let same : c.writes.result.now ≡ turn.writes =
    turn_writes scope.design.now scope.place.now c.args.values.now scope.time c.turn_on.new.log c.writes.result.now p turn c.requires.widths c.in-Ok.ensures c.writes.ensures own at in
    c.writes_tested.ensures.made on ∙ ap (all_given c.args.made.now) same
