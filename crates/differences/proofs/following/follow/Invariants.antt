-- Both runs are followed up to the times so far, and the registers that differ at these are kept.
use Rattle.std.proofs.Common.{◌≡◌, take}
use Rattle.std.specs.Prelude.{flat_map}
use Rattle.design.specs.Compiled.{design_of}
use Rattle.differences.specs.ComparedValues.{rows_at}
use Rattle.differences.specs.Following.{IsFollowedSince}
use Rattle.differences.proofs.following.follow.Given as goal

abbrev pub invariant-loop-place : goal.invariant-loop-place
invariant-loop-place l = record {
  one_code : l.one.explainer.position.code ≡ l.fn.one.explainer.position.code;
  other_code : l.other.explainer.position.code ≡ l.fn.one.explainer.position.code;
  one : IsFollowedSince l.runs.first.now l.runs.times.now l.place l.one;
  other : IsFollowedSince l.runs.second.now l.runs.times.now l.place l.other;
  rows : l.rows.items ≡ flat_map (rows_at (design_of l.fn.one.explainer.position.code) l.runs.first.now l.runs.second.now) (take l.place l.runs.times.now);
}
