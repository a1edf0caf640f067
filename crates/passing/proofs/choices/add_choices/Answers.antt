-- The move to one value more.
use Rattle.std.proofs.Common.{◌≡◌, ◌<◌, true, length, subst, arith, get_or}
use Rattle.std.specs.List.{Contains}
use Rattle.std.proofs.lemmas.List.{get_or_default}
use Rattle.logic4.specs.Vector.{Vector}
use Rattle.settling.proofs.Listed.{upto_more}
use Rattle.passing.specs.Moves.{passes_by, move_of}
use Rattle.passing.proofs.choices.add_choices.Goals as goal

pub loop-place-preserved : goal.loop-place-preserved
loop-place-preserved c =
    let values = c.args.values.now in
    let i = c.loop-place.place in
    let after = c.index-values-place.result in
    let within : i < length values = omega arith in
    let moves = c.args.moves.now in
    let r = c.args.register in
    let before = c.args.before in
    let choices = c.add_choice.new.choices.items in
    let Is = λ (v : Vector). passes_by moves r before v ≡ true → Contains choices (move_of r before v) in
    record {
      kept = λ m there. c.in_ok-add_choice.ensures.kept m (c.loop-place.invariant.kept m there);
      added = upto_more Is values i (λ k d below may. c.in_ok-add_choice.ensures.kept (move_of r before (get_or values k d)) (c.loop-place.invariant.added k d below may))
          (λ d. subst Is (get_or_default values i after d within) (subst Is c.index-values-place.is c.in_ok-add_choice.ensures.added));
    }

pub returns-clause-kept : goal.returns-clause-kept
returns-clause-kept c = c.loop-place.invariant.kept

pub returns-clause-added : goal.returns-clause-added
returns-clause-added c = λ k d within. c.loop-place.invariant.added k d (omega (arith, within))
