use Rattle.std.proofs.Common.{◌≡◌, Some, ℤ, pos, ◌+ℤ◌, ◌-ℤ◌, w64, to_z, of_z, refl, ap, ◌∙◌, arith}
use Rattle.std.proofs.lemmas.Int.{ints, to_z-of_z}
use Rattle.ranges.specs.Ranges.{place_in}
use Rattle.ranges.proofs.Near.{same_within, size_least, size_between, window_between}
use Rattle.ranges.proofs.window.between.Goals as goal

pub returns-in-None-clause-size : goal.returns-in-None-clause-size
returns-in-None-clause-size c =
    let p = c.place_in.ensures.bound in
    let q = c.place_in-place.ensures.bound in
    let first : c.place_in.result ≡ place_in c.args.range c.args.most = c.place_in.ensures.place ∙ ap (place_in c.args.range) (to_z-of_z w64 c.args.most c.ranges.most) in
    let second : c.place_in-place.result ≡ place_in c.args.range c.args.least = c.place_in-place.ensures.place ∙ ap (place_in c.args.range) (to_z-of_z w64 c.args.least c.ranges.least) in
    let x : ℤ = to_z w64 (of_z w64 (to_z w64 (of_z w64 (to_z w64 (of_z w64 c.place_in.result) -ℤ to_z w64 (of_z w64 c.place_in-place.result))) +ℤ pos 1)) in
    size_between c.place_in.result c.place_in-place.result _ _ x _ c.in-None.ensures.size (omega (arith, ints, p.low, p.high, q.low, q.high)) first second

pub returns-in-Some-clause-window : goal.returns-in-Some-clause-window
returns-in-Some-clause-window c =
    let p = c.place_in.ensures.bound in
    let q = c.place_in-place.ensures.bound in
    let first : c.place_in.result ≡ place_in c.args.range c.args.most = c.place_in.ensures.place ∙ ap (place_in c.args.range) (to_z-of_z w64 c.args.most c.ranges.most) in
    let second : c.place_in-place.result ≡ place_in c.args.range c.args.least = c.place_in-place.ensures.place ∙ ap (place_in c.args.range) (to_z-of_z w64 c.args.least c.ranges.least) in
    let x : ℤ = to_z w64 (of_z w64 (to_z w64 (of_z w64 (to_z w64 (of_z w64 c.place_in.result) -ℤ to_z w64 (of_z w64 c.place_in-place.result))) +ℤ pos 1)) in
    window_between c.args.range c.args.most c.args.least c.place_in.result c.place_in-place.result x c.in-Some.width _ first second
    c.in-Some.ensures.number (omega (arith, ints, p.low, p.high, q.low, q.high)) (size_least x c.in-Some.width c.in-Some.ensures.size)
    (λ i. Some (same_within c.place_in-place.result q i)) refl

pub returns-in-Some-clause-size : goal.returns-in-Some-clause-size
returns-in-Some-clause-size c =
    let p = c.place_in.ensures.bound in
    let q = c.place_in-place.ensures.bound in
    let first : c.place_in.result ≡ place_in c.args.range c.args.most = c.place_in.ensures.place ∙ ap (place_in c.args.range) (to_z-of_z w64 c.args.most c.ranges.most) in
    let second : c.place_in-place.result ≡ place_in c.args.range c.args.least = c.place_in-place.ensures.place ∙ ap (place_in c.args.range) (to_z-of_z w64 c.args.least c.ranges.least) in
    let x : ℤ = to_z w64 (of_z w64 (to_z w64 (of_z w64 (to_z w64 (of_z w64 c.place_in.result) -ℤ to_z w64 (of_z w64 c.place_in-place.result))) +ℤ pos 1)) in
    size_between c.place_in.result c.place_in-place.result _ _ x _ c.in-Some.ensures.size (omega (arith, ints, p.low, p.high, q.low, q.high)) first second
