-- Each turn takes the longest piece.
use Rattle.std.proofs.Common.{map, sym, ◌∙◌, arith}
use Rattle.tokens.specs.Tokens.{plain_token}
use Rattle.tokens.proofs.Chain.{added, not_added, next_at, parts, cut_more, stops_more, stop_here, stop_value, stop_at, cut_all}
use Rattle.tokens.proofs.Ascii.{taken}
use Rattle.tokens.proofs.cut.cut.Goals as goal

pub add-requires : goal.add-requires
add-requires c = taken c.loop-left.left.now _ c.piece_len-len.result (sym c.piece_len-len.ensures.value) (omega arith) c.split_at.ensures.front

pub returns-then-len-eq0-clause-stray : goal.returns-then-len-eq0-clause-stray
returns-then-len-eq0-clause-stray c place is =
    stop_at _ c.loop-left.left.now _ place (cc) c.loop-left.invariant.stops (stop_here _ c.loop-left-test.ensures (sym c.piece_len-len.ensures.value ∙ c.if-len-eq0.true))

pub returns-then-not-branch-clause-bad_number : goal.returns-then-not-branch-clause-bad_number
returns-then-not-branch-clause-bad_number c place is =
    let whole = parts c.loop-left.left.now _ _ _ c.split_at.ensures.front c.split_at.ensures.back in
    let n = next_at c.loop-left.left.now _ _ c.piece_len-len.result (sym c.piece_len-len.ensures.value) (omega arith) c.piece_len-len.ensures.within c.split_at.ensures.front c.split_at.ensures.back in
    stop_at _ c.loop-left.left.now _ place (cc) c.loop-left.invariant.stops
    (stop_value _ _ _ whole n (not_added _ (map plain_token c.loop-left.found.items) c.in_ok-add.field-0 _ c.if-not-branch.true c.in_ok-add.ensures))

pub loop-left-preserved : goal.loop-left-preserved
loop-left-preserved c =
    let whole = parts c.loop-left.left.now _ _ _ c.split_at.ensures.front c.split_at.ensures.back in
    let n = next_at c.loop-left.left.now _ _ c.piece_len-len.result (sym c.piece_len-len.ensures.value) (omega arith) c.piece_len-len.ensures.within c.split_at.ensures.front c.split_at.ensures.back in
    let a = added _ (map plain_token c.loop-left.found.items) c.in_ok-add.field-0 _ c.if-not-branch.false c.in_ok-add.ensures in
    record {
      within = omega (arith, c.split_at.ensures.back_len);
      cuts = cut_more _ _ _ _ _ _ a.0 whole n a.1 a.2 c.loop-left.invariant.cuts;
      stops = stops_more _ _ _ _ a.0 whole c.loop-left.invariant.within n a.1 c.loop-left.invariant.stops;
    }

pub returns-clause-cut : goal.returns-clause-cut
returns-clause-cut c = cut_all _ c.loop-left.left.now _ c.loop-left-test.ensures c.loop-left.invariant.cuts
