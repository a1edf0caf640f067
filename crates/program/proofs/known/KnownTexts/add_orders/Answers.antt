-- None where they take the place of the search, and else those of the runs.
use Rattle.std.proofs.Common.{◌∙◌, List, subst, sym}
use Rattle.std.specs.List.{All}
use Rattle.runs.specs.RunRecords.{IsRun}
use Rattle.runs.specs.declared.run.RunRecord.{RunRecord}
use Rattle.program.specs.Findings.{limits_in}
use Rattle.program.proofs.Knowing.{none_before}
use Rattle.program.proofs.known.KnownTexts.add_orders.Goals as goal

pub returns-clause-lawful : goal.returns-clause-lawful
returns-clause-lawful g c =
    let code = c.args.design.now in
    let limits = limits_in c.args.search_options in
    let runs = subst (λ (rs : List RunRecord). All (IsRun code limits) rs) (sym c.as_slice.ensures.value) c.random_orders-others.ensures in
    c.in_ok-add_runs.ensures.lawful code limits runs

pub returns-clause-refused : goal.returns-clause-refused
returns-clause-refused g c = none_before c.args.search_options.samples _ (sym c.is_some.ensures ∙ c.if-is_some.false)
