-- The journals that were read, on a design.
use Rattle.std.proofs.Common.{List, IfOk, subst}
use Rattle.model.specs.declared.entry.Entry.{Entry}
use Rattle.locations.specs.declared.location.ProcessLocation.{ProcessLocation}
use Rattle.differences.specs.Comparisons.{IsComparison}
use Rattle.program.proofs.Compared.{compares_if}
use Rattle.program.proofs.differing.compare_read.Goals as goal

pub returns : goal.returns
returns g c =
    let subject = c.args.subject.now in
    let ones = c.in_ok-ones.ones.items in
    let others = c.in_ok-others.others.items in
    let result = c.comparison_of.result in
    let all = c.args.all in
    compares_if result subject all ones others (g.R.Read.remaining c.args.first) (g.R.Read.remaining c.args.second) c.in_ok-ones.ensures c.in_ok-others.ensures
    (subst (λ (es : List Entry). IfOk result (IsComparison subject.processes.items subject.design all ones es)) c.as_slice-3.ensures.value
    (subst (λ (es : List Entry). IfOk result (IsComparison subject.processes.items subject.design all es c.as_slice-3.result.now)) c.as_slice-2.ensures.value
    (subst (λ (ps : List ProcessLocation). IfOk result (IsComparison ps subject.design all c.as_slice-2.result.now c.as_slice-3.result.now)) c.as_slice.ensures.value c.comparison_of.ensures)))
