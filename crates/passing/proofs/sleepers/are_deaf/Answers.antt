-- Each waits for no change that passes.
use Rattle.std.proofs.Common.{◌<◌, [], length, subst, arith}
use Rattle.std.specs.Prelude.{slice_index_or}
use Rattle.std.proofs.lemmas.List.{get_or_default}
use Rattle.settling.specs.declared.sleepers.Sleeper.{Sleeper}
use Rattle.settling.proofs.Listed.{upto_more}
use Rattle.heldways.specs.Passing.{AreDeaf}
use Rattle.passing.specs.Moves.{passes_by}
use Rattle.passing.proofs.sleepers.are_deaf.Goals as goal

pub loop-place-preserved : goal.loop-place-preserved
loop-place-preserved c =
    let sleepers = c.args.sleepers.now in
    let i = c.loop-place.place in
    let within : i < length sleepers = omega arith in
    let none : Sleeper = record { process = 0; control = 0 } in
    let Is = λ (x : Sleeper). AreDeaf (passes_by c.args.moves.now) (slice_index_or c.args.controls.now x.control []) in
    upto_more Is sleepers i c.loop-place.invariant (λ d. subst Is (get_or_default sleepers i none d within) (c.is_deaf_at.ensures c.if-not-is_deaf_at.false))

pub returns : goal.returns
returns c = λ on k d within. c.loop-place.invariant k d (omega (arith, within))
