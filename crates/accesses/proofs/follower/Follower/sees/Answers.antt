-- To the one entry, and from there to the other.
use Rattle.std.proofs.Common.{refl}
use Rattle.accesses.proofs.Pairs.{sees_both, where_yes}
use Rattle.accesses.proofs.follower.Follower.sees.Goals as goal

pub returns : goal.returns
returns c =
    where_yes c.has_role.result
    (sees_both c.args.split.before.now c.args.split.segment.now c.args.split.one c.args.split.other c.args.pair c.args.self.now.machine
    c.sees_first.new.self.machine c.sees_first.new.self.machine c.lead.new.machine c.requires.start c.sees_first.ensures.code
    (c.in_ok-sees_first.ensures.led c.if-not-branch.false) (c.in_ok-sees_first.ensures.first c.if-not-branch.false) refl c.lead.ensures.code
    (c.in_ok-lead.ensures.led c.if-not-branch-2.false)) c.has_role.ensures.holds
