-- One write more, until all are made.
use Rattle.std.proofs.Common.{◌<◌, ◌∙◌, List, ℕ, length, ap, subst, arith}
use Rattle.std.proofs.lemmas.List.{take_all}
use Rattle.logic4.specs.Vector.{Vector}
use Rattle.orders.specs.Apart.{all_given}
use Rattle.footprints.specs.Footprints.{changes_made}
use Rattle.heldways.specs.Passing.{AllPass}
use Rattle.passing.specs.Moves.{passes_by}
use Rattle.passing.proofs.Written.{written_more, given_more}
use Rattle.passing.proofs.writes.writes_tested.Goals as goal

pub loop-place-preserved : goal.loop-place-preserved
loop-place-preserved c =
    let writes = c.args.writes.now in
    let start = c.args.store.now in
    let i = c.loop-place.place in
    let w = c.index-writes-place.result in
    let lt : i < length writes = omega arith in
    let so_far = c.loop-place.invariant in
    record {
      made = given_more start c.loop-place.store c.write_tested.new.store writes i w lt c.index-writes-place.is so_far.made (c.write_tested.ensures.made c.in-Pass.is);
      passes = written_more (passes_by c.args.moves.now) start c.loop-place.store writes i w lt c.index-writes-place.is so_far.made so_far.passes (c.write_tested.ensures.passes c.in-Pass.is);
    }

pub returns-clause-passes : goal.returns-clause-passes
returns-clause-passes c = λ on.
    let writes = c.args.writes.now in
    subst (λ (ws : List (ℕ × Vector)). AllPass (passes_by c.args.moves.now) (changes_made c.args.store.now ws)) (take_all c.loop-place.place writes (omega (arith, c.loop-place-test.false))) c.loop-place.invariant.passes

pub returns-clause-made : goal.returns-clause-made
returns-clause-made c = λ on.
    let writes = c.args.writes.now in
    c.loop-place.invariant.made ∙ ap (all_given c.args.store.now) (take_all c.loop-place.place writes (omega (arith, c.loop-place-test.false)))
