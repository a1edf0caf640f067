-- The moves from one value more.
use Rattle.std.proofs.Common.{◌<◌, length, subst, arith, get_or}
use Rattle.std.proofs.lemmas.List.{get_or_default}
use Rattle.settling.proofs.Listed.{upto_more}
use Rattle.passing.proofs.ChosenMoves.{AreChosenFrom, chosen_on}
use Rattle.passing.proofs.choices.add_all.Goals as goal

pub loop-place-preserved : goal.loop-place-preserved
loop-place-preserved c =
    let moves = c.args.moves.now in
    let r = c.args.register in
    let values = c.args.values.now in
    let i = c.loop-place.place in
    let before = c.index-values-place.result in
    let within : i < length values = omega arith in
    let old = c.loop-place.choices.items in
    let choices = c.add_choices.new.choices.items in
    let Is = AreChosenFrom moves r values choices in
    upto_more Is values i (λ k d below. chosen_on moves r values old choices (get_or values k d) c.in_ok-add_choices.ensures.kept (c.loop-place.invariant k d below))
    (λ d. subst Is (get_or_default values i before d within) (subst Is c.index-values-place.is c.in_ok-add_choices.ensures.added))

pub returns : goal.returns
returns c = λ k d within. c.loop-place.invariant k d (omega (arith, within))
