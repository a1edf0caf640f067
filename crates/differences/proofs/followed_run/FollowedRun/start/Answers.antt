-- No entry is taken yet.
use Rattle.differences.proofs.Given.{given_none}
use Rattle.differences.proofs.followed_run.FollowedRun.start.Goals as goal

pub returns-clause-followed : goal.returns-clause-followed
returns-clause-followed c =
    λ journal. given_none c.args.design.now journal _ c.in_ok-explainer.ensures.code c.in_ok-explainer.ensures.behind c.in_ok-explainer.ensures.entries c.in_ok-givers.ensures
