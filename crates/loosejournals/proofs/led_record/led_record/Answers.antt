-- The run is one of this design.
use Rattle.std.proofs.Common.{◌≡◌, ◌∙◌, sym, ap, subst}
use Rattle.std.specs.Prelude.{Option, IfSome}
use Rattle.std.specs.Global.{Box}
use Rattle.design.specs.Compiled.{Compiled}
use Rattle.runs.specs.RunRecords.{HasComeTo, IsRun}
use Rattle.loosejournals.specs.declared.led_run.LedRun.{LedRun}
use Rattle.loosejournals.proofs.led_record.led_record.Goals as goal

pub end_by-requires-clause-come : goal.end_by-requires-clause-come
end_by-requires-clause-come c =
    let come = subst (λ (o : Option (Box LedRun)). IfSome o (λ r. HasComeTo c.args.scope.limits r.value.journal.items r.value.machine)) c.in-Some.is c.in_ok-led.ensures.come in
    subst (λ (r : LedRun). HasComeTo c.args.scope.limits r.journal.items r.machine) (sym c.deref_mut.ensures.value) come

pub told-record-requires-clause-come : goal.told-record-requires-clause-come
told-record-requires-clause-come c = subst (λ (r : LedRun). HasComeTo c.args.scope.limits r.journal.items r.machine) (sym c.deref_mut-in-Some-2.ensures.value) c.end_by.ensures.come

pub returns-in-Some-2 : goal.returns-in-Some-2
returns-in-Some-2 c =
    let code = c.args.scope.design.now in
    let begun : c.in-Some.led.value.machine.code ≡ code = subst (λ (o : Option (Box LedRun)). IfSome o (λ r. r.value.machine.code ≡ code)) c.in-Some.is c.in_ok-led.ensures.code in
    let before : c.deref_mut.result.now.machine.code ≡ code = ap (λ (r : LedRun). r.machine.code) c.deref_mut.ensures.value ∙ begun in
    let same : c.deref_mut-in-Some-2.result.now.machine.code ≡ code = ap (λ (r : LedRun). r.machine.code) c.deref_mut-in-Some-2.ensures.value ∙ (c.end_by.ensures.code ∙ before) in
    subst (λ (k : Compiled). IsRun k c.args.scope.limits c.told-record.result) same c.told-record.ensures
