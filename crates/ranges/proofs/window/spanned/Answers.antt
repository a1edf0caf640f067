use Rattle.std.proofs.Common.{w64, to_z, of_z}
use Rattle.ranges.proofs.Near.{same_within, spanned_within}
use Rattle.ranges.proofs.window.spanned.Goals as goal

pub returns-clause-bound : goal.returns-clause-bound
returns-clause-bound c =
    let p = c.place_in.ensures.bound in
    let q = c.place_in-2.ensures.bound in
    spanned_within c.place_in.result c.place_in-2.result (to_z w64 (of_z w64 c.place_in.result)) (to_z w64 (of_z w64 c.place_in-2.result)) c.lesser.result c.lesser.ensures p q
    (same_within c.place_in.result p) (same_within c.place_in-2.result q)
