-- The machine that took the loose transitions stands where they lead.
use Rattle.std.proofs.Common.{◌≡◌, ◌∙◌, sym, ap, subst}
use Rattle.std.proofs.lemmas.Result.{IfOk-weaker}
use Rattle.loose.specs.Classes.{class_in}
use Rattle.loose.specs.Loose.{AlikeIn}
use Rattle.regions.specs.Machine.{MachineView, state_at}
use Rattle.lawful.proofs.EndlessRuns.{leads_there}
use Rattle.lawful.proofs.endless.stands_there.Goals as goal

pub stand_alike-requires : goal.stand_alike-requires
stand_alike-requires c =
    let start : c.deref.result.now.code ≡ c.args.scope.design.now = ap (λ (p : MachineView). p.code) c.deref.ensures ∙ c.in_ok-start.ensures.code in
    let loosely : c.deref-2.result.now.code ≡ c.args.scope.design.now = ap (λ (p : MachineView). p.code) c.deref-2.ensures ∙ (c.in_ok-loosely.ensures.gone.code_is ∙ start) in
    record { code = c.requires.code ∙ sym loosely }

pub returns : goal.returns
returns c =
    let class = class_in c.args.scope.classes.now in
    let begun = c.deref.result.now in
    let loosely = c.in_ok-loosely.loosely.value in
    let code : begun.code ≡ c.args.scope.design.now = ap (λ (p : MachineView). p.code) c.deref.ensures ∙ c.in_ok-start.ensures.code in
    IfOk-weaker c.stand_alike.result _ _ (λ there alike yes. leads_there class c.args.scope.design.now c.args.moves.now begun loosely (state_at c.args.machine.now) code (ap state_at c.deref.ensures ∙ c.in_ok-start.ensures.state) c.in_ok-loosely.ensures (subst (λ (p : MachineView). AlikeIn class (state_at c.args.machine.now) (state_at p)) c.deref-2.ensures (alike yes))) c.stand_alike.ensures
