-- The pair that was confirmed.
use Rattle.std.proofs.Common.{sym, subst}
use Rattle.runs.specs.declared.run.RunRecord.{RunRecord}
use Rattle.runs.specs.Compared.{AreLike}
use Rattle.causes.specs.Causes.{IsPairOf}
use Rattle.causes.proofs.parting.PartedRuns.cause_of.Goals as goal

pub cause_by-requires-clause-apart : goal.cause_by-requires-clause-apart
cause_by-requires-clause-apart c = c.are_second.ensures.apart c.if-not-are_second.false

pub returns-in-Ok-Some : goal.returns-in-Ok-Some
returns-in-Ok-Some c =
    let setting = c.args.self.setting in
    let of : IsPairOf setting.search.design.now c.args.original c.args.exchanged c.in-Ok-Some.pair = rw c.in-Ok-Some.field-0-is at c.in-Ok-Some.ensures in
    let alike : AreLike c.args.self.first.now c.cause_by.result.original =
    subst (λ (run : RunRecord). AreLike c.args.self.first.now run) (sym c.cause_by.ensures.original) (c.is_same.ensures.0 c.if-not-is_same.false) in
    (c.cause_by.ensures.shown setting.search.design.now setting.search.limits c.requires.original c.requires.exchanged of, alike)
