-- Each turn takes the token at the front.
use Rattle.std.proofs.Common.{[], map, ap, append-nil, arith}
use Rattle.std.proofs.lemmas.List.{drop_all}
use Rattle.tokens.specs.Tokens.{plain_token}
use Rattle.locations.proofs.Skipped.{all_spots}
use Rattle.locations.proofs.Spotted.{token_at, fits, cut_rest, spot_more}
use Rattle.locations.proofs.spot.spots.Goals as goal

pub split_at-requires : goal.split_at-requires
split_at-requires c =
    fits (token_at c.deref-token-items.result.now c.loop-token.token-index _ c.loop-token.left.now c.behind_skipped-left.result.now (omega arith) c.behind_skipped-left.ensures.at_token c.behind_skipped-left.ensures.skips c.loop-token.invariant.cut)

pub loop-token-preserved : goal.loop-token-preserved
loop-token-preserved c =
    let i = c.loop-token.invariant in
    let b = c.behind_skipped-left.ensures in
    let f = token_at c.deref-token-items.result.now c.loop-token.token-index _ c.loop-token.left.now c.behind_skipped-left.result.now (omega arith) b.at_token b.skips i.cut in
    record {
      within = omega (arith, c.split_at.ensures.back_len, b.within, i.within);
      cut = cut_rest c.split_at.result.1.now f c.split_at.ensures.back;
      spots = spot_more c.args.source.now c.loop-token.left.now c.behind_skipped-left.result.now c.split_at.result.1.now _ _ _ _ b.skips f c.split_at.ensures.back i.within c.in_ok-add.ensures i.spots;
    }

pub returns-clause-found : goal.returns-clause-found
returns-clause-found c =
    let i = c.loop-token.invariant in
    let none = ap (map plain_token) (drop_all c.loop-token.token-index c.deref-token-items.result.now (omega arith)) in
    rw append-nil at (i.spots [] (all_spots c.loop-token.left.now _ _ i.cut none))
