-- To the first entry, over which the machine isn't led.
use Rattle.std.proofs.Common.{sym, subst}
use Rattle.design.specs.Compiled.{design_of}
use Rattle.regions.specs.Machine.{MachineView, state_at}
use Rattle.accesses.specs.ExchangedEntries.{IsLed, HasRoleAt}
use Rattle.accesses.proofs.Pairs.{where_yes}
use Rattle.accesses.proofs.follower.Follower.sees_first.Goals as goal

pub returns-clause-led : goal.returns-clause-led
returns-clause-led c =
    where_yes c.has_role.result
    (λ seen. subst (λ (m : MachineView). IsLed c.args.self.now.machine c.args.split.before.now m) (sym c.has_role.ensures.machine)
    (c.in_ok-lead.ensures.led c.if-not-branch.false)) c.has_role.ensures.holds

pub returns-clause-first : goal.returns-clause-first
returns-clause-first c =
    where_yes c.has_role.result
    (subst (λ (m : MachineView). HasRoleAt (design_of m.code) (state_at m) c.args.split.one c.args.pair.site c.args.pair.time c.args.pair.first)
    (sym c.has_role.ensures.machine)) c.has_role.ensures.holds
