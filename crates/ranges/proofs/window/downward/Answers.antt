use Rattle.std.proofs.Common.{ℤ, pos, ◌-ℤ◌, w64, to_z, of_z, arith}
use Rattle.std.proofs.lemmas.Int.{ints}
use Rattle.ranges.proofs.Near.{near_within, same_within, placed_down}
use Rattle.ranges.proofs.window.downward.Goals as goal

pub spanned-requires-clause-first : goal.spanned-requires-clause-first
spanned-requires-clause-first c =
    let n = near_within c.args.base c.in-Some.base c.requires.base c.in-Some.is in
    record { low = omega (arith, ints, n.low, n.high); high = omega (arith, ints, n.low, n.high) }

pub returns-in-Some-clause-place : goal.returns-in-Some-clause-place
returns-in-Some-clause-place c =
    let base = c.in-Some.base in
    let n = near_within c.args.base base c.requires.base c.in-Some.is in
    let first : ℤ = to_z w64 (of_z w64 (to_z w64 (of_z w64 base) -ℤ to_z w64 (of_z w64 (to_z w64 (of_z w64 c.from.result) -ℤ pos 1)))) in
    let last : ℤ = to_z w64 (of_z w64 base) in
    placed_down c.args.range c.args.base base c.args.width first last c.spanned.result _ c.in-Some.is c.spanned.ensures.place
    (omega (arith, ints, n.low, n.high)) (omega (arith, ints, n.low, n.high)) (same_within c.spanned.result c.spanned.ensures.bound)
