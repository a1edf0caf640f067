-- The ways from a node are those of a search, as they are told.
use Rattle.std.proofs.Common.{◌∙◌, ap}
use Rattle.std.proofs.lemmas.Result.{IfOk-weaker}
use Rattle.regions.specs.Machine.{MachineView, state_at}
use Rattle.lawful.proofs.search.LooseRunsOrders.expand.Goals as goal

pub returns-clause-next : goal.returns-clause-next
returns-clause-next g c =
    let seen = c.deref-2.ensures.value ∙ (c.in_ok-seen.ensures ∙ ap (λ (p : MachineView). g.T.RunTelling.sight c.args.self.now.telling.now (state_at p)) c.deref.ensures) in
    IfOk-weaker c.told_ways.result _ _ (λ told from run stands. (from run stands c.in_ok-tail.ensures seen).next) c.told_ways.ensures

pub returns-clause-sound : goal.returns-clause-sound
returns-clause-sound g c =
    let seen = c.deref-2.ensures.value ∙ (c.in_ok-seen.ensures ∙ ap (λ (p : MachineView). g.T.RunTelling.sight c.args.self.now.telling.now (state_at p)) c.deref.ensures) in
    IfOk-weaker c.told_ways.result _ _ (λ told from run stands. (from run stands c.in_ok-tail.ensures seen).sound) c.told_ways.ensures

pub returns-clause-cover : goal.returns-clause-cover
returns-clause-cover g c =
    let seen = c.deref-2.ensures.value ∙ (c.in_ok-seen.ensures ∙ ap (λ (p : MachineView). g.T.RunTelling.sight c.args.self.now.telling.now (state_at p)) c.deref.ensures) in
    IfOk-weaker c.told_ways.result _ _ (λ told from whole run stands. (from run stands c.in_ok-tail.ensures seen).cover whole) c.told_ways.ensures
