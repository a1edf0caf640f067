-- To the second role's entry, and over it to the first one's.
use Rattle.accesses.proofs.Pairs.{sees_exchanged, where_both_yes}
use Rattle.accesses.proofs.follower.Follower.sees_exchanged.Goals as goal

pub returns : goal.returns
returns c =
    where_both_yes c.leaves_first.result
    (sees_exchanged c.args.asked c.args.split.before.now c.args.exchanged.needed.now c.args.exchanged.other c.args.split.one c.args.pair c.args.self.now.machine
    c.lead.new.machine c.lead-2.new.machine c.is_asked.new.self.machine c.leaves_first.new.self.machine c.requires.start c.lead.ensures.code
    (c.in_ok-lead.ensures.led c.if-not-branch.false) c.lead-2.ensures.code (c.in_ok-lead-2.ensures.led c.if-not-branch-2.false)
    (c.in_ok-is_asked.ensures.holds c.if-not-branch-3.false) c.is_asked.ensures.machine c.leaves_first.ensures.code)
    c.leaves_first.ensures.led c.leaves_first.ensures.first
