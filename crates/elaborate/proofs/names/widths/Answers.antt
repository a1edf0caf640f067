use Rattle.std.proofs.Common.{◌<◌, ◌+◌, ◌++◌, [], ◌∷◌, None, length, get_or, drop, ap, ◌∙◌, arith}
use Rattle.model.specs.Elaboration.{width_of}
use Rattle.elaborate.proofs.Turns.{next_at, one_made}
use Rattle.elaborate.proofs.names.widths.Goals as goal

pub loop-place-preserved : goal.loop-place-preserved
loop-place-preserved c =
    let i = c.loop-place.place in
    let rs = c.args.ranges.now in
    let h : i < length rs = omega arith in
    one_made width_of c.loop-place.widths.items _ (get_or rs i None) (drop i rs) (drop (i + 1) rs) (next_at rs i None h) (c.in_ok-push.ensures.items ∙ ap (λ w. c.loop-place.widths.items ++ w ∷ []) (c.width_in.ensures.value ∙ ap width_of c.range_in.ensures))
    ∙ c.loop-place.invariant
