-- A journal that is led is lawful and in time.
use Rattle.std.proofs.Common.{◌≡◌, ◌∙◌, List, sym, ap, subst}
use Rattle.std.specs.Prelude.{Option, IfSome, Some}
use Rattle.std.specs.Global.{Box}
use Rattle.model.specs.declared.entry.Entry.{Entry}
use Rattle.model.specs.Runs.{run}
use Rattle.design.specs.Compiled.{Compiled, design_of}
use Rattle.loosejournals.specs.declared.led_run.LedRun.{LedRun}
use Rattle.runs.specs.RunRecords.{HasComeTo}
use Rattle.lawful.specs.Journals.{IsLedJournal}
use Rattle.lawful.proofs.journals.led_journal.Goals as goal

pub returns : goal.returns
returns c =
    let design = c.args.scope.design.now in
    let limits = c.args.scope.limits in
    let led : LedRun = c.in-Some.led.value in
    let come : HasComeTo limits led.journal.items led.machine = subst (λ (o : Option (Box LedRun)). IfSome o (λ r. HasComeTo limits r.value.journal.items r.value.machine)) c.in-Some.is c.in_ok-led.ensures.come in
    let code : led.machine.code ≡ design = subst (λ (o : Option (Box LedRun)). IfSome o (λ r. r.value.machine.code ≡ design)) c.in-Some.is c.in_ok-led.ensures.code in
    let same : led.journal.items ≡ c.take_journal.result.items = ap (λ (r : LedRun). r.journal.items) (sym c.deref_mut.ensures.value) ∙ ap (λ v. v.items) (sym c.take_journal.ensures) in
    let is : IsLedJournal (design_of design) limits led.journal.items =
    record {
      effect = come.effect;
      lawful = (subst (λ (k : Compiled). run (design_of k) led.journal.items ≡ Some come.effect) code come.lawful, come.timely);
      within = come.few;
    } in
    subst (λ (journal : List Entry). IsLedJournal (design_of design) limits journal) same is
