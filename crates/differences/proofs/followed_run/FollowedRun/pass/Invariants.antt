-- The run stands behind the entries so far, and as many as before are left up to the end of the time.
use Rattle.std.proofs.Common.{◌≡◌, ◌+◌, drop}
use Rattle.differences.specs.ComparedValues.{count_until}
use Rattle.differences.specs.Following.{IsRunFollowed}
use Rattle.differences.proofs.followed_run.FollowedRun.pass.Given as goal

abbrev pub invariant-loop-at : goal.invariant-loop-at
invariant-loop-at l = record {
  code : l.self.explainer.position.code ≡ l.fn.self.explainer.position.code;
  followed : IsRunFollowed l.entries l.self;
  count : l.self.explainer.position.core.entries ≡ l.at;
  ahead : l.at + count_until l.time (drop l.at l.entries)
      ≡ l.fn.self.explainer.position.core.entries + count_until l.time (drop l.fn.self.explainer.position.core.entries l.entries);
}
