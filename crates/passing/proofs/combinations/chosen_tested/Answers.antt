-- The two turns stand for those on all values that have what was chosen.
use Rattle.std.proofs.Common.{◌∙◌, [], ap, length, subst}
use Rattle.model.specs.Expressions.{Store}
use Rattle.heldways.specs.Passing.{Passing}
use Rattle.passing.specs.Moves.{passes_by}
use Rattle.passing.specs.Combinations.{PassFrom}
use Rattle.passing.proofs.Chosen.{PassesOn, MakesOn, chosen_pass, then_pass}
use Rattle.passing.proofs.combinations.chosen_tested.Goals as goal

pub turn_tested-requires-clause-widths : goal.turn_tested-requires-clause-widths
turn_tested-requires-clause-widths c = c.give_chosen.ensures.count ∙ ap length c.in_ok-before.ensures ∙ c.requires.widths

pub turn_tested-requires-in-Pass-clause-widths : goal.turn_tested-requires-in-Pass-clause-widths
turn_tested-requires-in-Pass-clause-widths c = c.give_chosen-2.ensures.count ∙ ap length c.in_ok-after.ensures ∙ c.requires.widths

pub returns-in-Pass : goal.returns-in-Pass
returns-in-Pass c =
    let scope = c.args.scope in
    let passes : Passing = passes_by scope.moves.now in
    let values = scope.values.now in
    let before = c.give_chosen.new.store in
    let after = c.give_chosen-2.new.store in
    let made = c.turn_tested.new.made in
    let first : PassesOn scope.design.now scope.place.now scope.time passes before values =
    subst (λ (a : Store). PassesOn scope.design.now scope.place.now scope.time passes before a) c.in_ok-made.ensures (c.in_ok-other.ensures.passes c.in-Pass.is) in
    let makes : MakesOn scope.design.now scope.place.now scope.time before values made =
    subst (λ (a : Store). MakesOn scope.design.now scope.place.now scope.time before a made) c.in_ok-made.ensures (c.in_ok-other.ensures.made c.in-Pass.is) in
    then_pass c.turn_tested-in-Pass.result (PassesOn scope.design.now scope.place.now scope.time passes after made) (PassFrom scope.design.now scope.place.now values scope.time passes c.args.chosen.now [])
    (λ second. chosen_pass scope.design.now scope.place.now values scope.time passes c.args.chosen.now before after made
    (c.give_chosen.ensures.count ∙ ap length c.in_ok-before.ensures) (c.give_chosen-2.ensures.count ∙ ap length c.in_ok-after.ensures)
    (c.give_chosen.ensures.agrees c.if-not-give_chosen.false) (c.give_chosen-2.ensures.agrees c.if-not-give_chosen-2.false) first makes second)
    c.turn_tested-in-Pass.ensures.passes
