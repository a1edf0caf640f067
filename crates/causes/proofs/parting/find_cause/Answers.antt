-- The first run is that of the journal.
use Rattle.std.proofs.Common.{◌∙◌, sym}
use Rattle.runs.specs.RunRecords.{IsRun}
use Rattle.causes.proofs.Parted.{behind_first}
use Rattle.causes.proofs.parting.find_cause.Goals as goal

pub returns : goal.returns
returns g c =
    let is_run : IsRun c.args.setting.search.design.now c.args.setting.search.limits c.in-Some.begun.run = rw c.in-Some.is at c.in_ok-begun.ensures in
    behind_first c.args.setting.search.design.now c.args.setting.search.limits c.args.one.now c.in-Some.begun.run c.in_rounds.result is_run (sym c.deref.ensures.value ∙ c.are_same.ensures.0 c.if-not-are_same.false) c.in_rounds.ensures
