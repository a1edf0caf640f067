-- To where either entry may be next, and over a segment to where the first one still may.
use Rattle.std.proofs.Common.{refl}
use Rattle.accesses.proofs.Pairs.{sees_held, where_both_yes}
use Rattle.accesses.proofs.follower.Follower.sees_held.Goals as goal

pub returns : goal.returns
returns c =
    where_both_yes c.leaves_first.result
    (sees_held c.args.held.before.now c.args.held.segment.now c.args.held.one c.args.held.other c.args.pair c.args.self.now.machine
    c.sees_first.new.self.machine c.sees_first.new.self.machine c.has_role.new.self.machine c.leaves_first.new.self.machine c.requires.start c.sees_first.ensures.code
    (c.in_ok-sees_first.ensures.led c.if-not-branch.false) (c.in_ok-sees_first.ensures.first c.if-not-branch.false) refl
    (c.in_ok-has_role.ensures.holds c.if-not-branch-2.false) c.has_role.ensures.machine c.leaves_first.ensures.code)
    c.leaves_first.ensures.led c.leaves_first.ensures.first
