-- Each turn takes the longest piece.
use Rattle.std.proofs.Common.{◌<◌, ◌≤◌, ◌+◌, ◌-◌, length, sym, subst, ◌∙◌, arith}
use Rattle.lexemes.specs.Places.{TellsStop}
use Rattle.lexemes.proofs.Chain.{next_at, parts, cut_more, stops_more, stop_here, stop_comment, lies_more, cut_all}
use Rattle.lexemes.proofs.cut.cut.Goals as goal

pub returns-then-len-eq0-clause-tells : goal.returns-then-len-eq0-clause-tells
returns-then-len-eq0-clause-tells c =
    subst (TellsStop c.args.text.now) (sym c.no_piece.ensures)
    (stop_here c.args.text.now c.loop-left.left.now c.loop-left.after c.in-len1-up.len_at_least (sym c.next_len-len.ensures.value ∙ c.if-len-eq0.true) c.loop-left.invariant.stops)

pub returns-then-is_half_comment-clause-tells : goal.returns-then-is_half_comment-clause-tells
returns-then-is_half_comment-clause-tells c =
    let whole = parts c.loop-left.left.now _ _ _ c.split_at.ensures.front c.split_at.ensures.back in
    let n = next_at c.loop-left.after c.loop-left.left.now _ _ c.next_len-len.result (sym c.next_len-len.ensures.value) (omega arith) c.next_len-len.ensures.within c.split_at.ensures.front c.split_at.ensures.back in
    stop_comment c.args.text.now c.loop-left.left.now _ _ c.loop-left.after whole n (sym c.is_half_comment.ensures ∙ c.if-is_half_comment.true) c.loop-left.invariant.stops

pub loop-left-preserved : goal.loop-left-preserved
loop-left-preserved c =
    let whole = parts c.loop-left.left.now _ _ _ c.split_at.ensures.front c.split_at.ensures.back in
    let n = next_at c.loop-left.after c.loop-left.left.now _ _ c.next_len-len.result (sym c.next_len-len.ensures.value) (omega arith) c.next_len-len.ensures.within c.split_at.ensures.front c.split_at.ensures.back in
    let half = sym c.is_half_comment.ensures ∙ c.if-is_half_comment.false in
    let some : 0 < length c.split_at.result.0.now = omega arith in
    let ends : (length c.args.text.now - length c.loop-left.left.now) + length c.split_at.result.0.now ≤ length c.args.text.now = omega arith in
    record {
      within = omega (arith, c.split_at.ensures.back_len);
      cuts = cut_more _ _ _ _ _ _ _ _ _ c.loop-left.invariant.within whole n half c.after_piece-after.ensures c.in_ok-add.ensures c.loop-left.invariant.cuts;
      stops = stops_more _ _ _ _ _ _ whole c.loop-left.invariant.within n half c.after_piece-after.ensures c.loop-left.invariant.stops;
      lies = lies_more _ _ _ _ _ _ _ some ends c.in_ok-add.ensures c.loop-left.invariant.lies;
    }

pub returns-clause-cut : goal.returns-clause-cut
returns-clause-cut c = cut_all _ _ c.loop-left.left.now _ _ c.in_default.len_below c.loop-left.invariant.cuts
