-- A journal that leads where the loose run leads.
use Rattle.std.proofs.Common.{◌≡◌, ◌∙◌, List, sym, ap, subst}
use Rattle.std.specs.Prelude.{Option, IfSome}
use Rattle.std.specs.Global.{Box}
use Rattle.model.specs.declared.entry.Entry.{Entry}
use Rattle.model.specs.Texts.{IsEndlessJournal}
use Rattle.design.specs.Compiled.{design_of}
use Rattle.loose.specs.Classes.{class_in}
use Rattle.loosejournals.specs.declared.led_run.LedRun.{LedRun}
use Rattle.runs.specs.RunRecords.{HasComeTo}
use Rattle.regions.specs.Machine.{state_at}
use Rattle.lawful.specs.Again.{LeadLooselyTo}
use Rattle.lawful.proofs.EndlessRuns.{endless_if_alike}
use Rattle.lawful.proofs.endless.endless_journal.Goals as goal

pub stands_there-requires : goal.stands_there-requires
stands_there-requires c =
    let code = subst (λ (o : Option (Box LedRun)). IfSome o (λ r. r.value.machine.code ≡ c.args.scope.design.now)) c.in-Some.is c.in_ok-led.ensures.code in
    record { code = ap (λ (r : LedRun). r.machine.code) c.deref.ensures ∙ code }

pub returns : goal.returns
returns c =
    let class = class_in c.args.scope.classes.now in
    let design = c.args.scope.design.now in
    let limits = c.args.scope.limits in
    let led : LedRun = c.in-Some.led.value in
    let come : HasComeTo limits led.journal.items led.machine = subst (λ (o : Option (Box LedRun)). IfSome o (λ r. HasComeTo limits r.value.journal.items r.value.machine)) c.in-Some.is c.in_ok-led.ensures.come in
    let code : led.machine.code ≡ design = subst (λ (o : Option (Box LedRun)). IfSome o (λ r. r.value.machine.code ≡ design)) c.in-Some.is c.in_ok-led.ensures.code in
    let leads : LeadLooselyTo class design c.args.moves.now (state_at led.machine) = subst (λ (r : LedRun). LeadLooselyTo class design c.args.moves.now (state_at r.machine)) c.deref.ensures (c.in_ok-stands_there.ensures c.if-not-branch.false) in
    let same : led.journal.items ≡ c.take_journal.result.items = ap (λ (r : LedRun). r.journal.items) (sym c.deref_mut.ensures.value) ∙ ap (λ v. v.items) (sym c.take_journal.ensures) in
    subst (λ (journal : List Entry). IsEndlessJournal (design_of design) limits journal) same (endless_if_alike class design limits led.journal.items c.args.moves.now led.machine c.requires.endless come code leads)
