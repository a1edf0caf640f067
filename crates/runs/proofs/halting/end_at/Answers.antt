-- The end of a run that halts, and that others go on.
use Rattle.std.proofs.Common.{◌∙◌, sym, ap, subst, refl}
use Rattle.std.proofs.lemmas.Bool.{iff_false}
use Rattle.model.specs.declared.end.End.{End}
use Rattle.model.specs.Runs.{has_any}
use Rattle.design.specs.Compiled.{design_of}
use Rattle.regions.specs.Queue.{Core}
use Rattle.regions.specs.Machine.{state_at}
use Rattle.runs.specs.Halting.{HaltsAt}
use Rattle.runs.proofs.Halts.{halts_finished, halts_quiet, halts_late, goes_on, goes_on_active, never_late, never_due}
use Rattle.runs.proofs.halting.end_at.Goals as goal

pub returns-then-is_finished-clause-halts : goal.returns-then-is_finished-clause-halts
returns-then-is_finished-clause-halts c =
    let p = c.args.machine.now in
    halts_finished (design_of p.code) c.args.limits (state_at p) (sym c.is_finished.ensures ∙ c.if-is_finished.true)

pub returns-then-is_quiet-clause-halts : goal.returns-then-is_quiet-clause-halts
returns-then-is_quiet-clause-halts c =
    let p = c.args.machine.now in
    halts_quiet (design_of p.code) c.args.limits (state_at p) (sym c.is_finished.ensures ∙ c.if-is_finished.false) (sym c.is_quiet.ensures ∙ c.if-is_quiet.true)

pub returns-then-is_active-clause-goes_on : goal.returns-then-is_active-clause-goes_on
returns-then-is_active-clause-goes_on c =
    let p = c.args.machine.now in
    goes_on_active c.args.limits (state_at p) (sym c.is_finished.ensures ∙ c.if-is_finished.false)
    (ap (λ (k : Core). has_any k.active) (sym c.state.ensures) ∙ (sym c.is_active.ensures ∙ c.if-is_active.true))

pub returns-then-is_timely-clause-goes_on : goal.returns-then-is_timely-clause-goes_on
returns-then-is_timely-clause-goes_on c =
    let p = c.args.machine.now in
    goes_on c.args.limits (state_at p) (c.in-Some.change, (((c.in-Some.ensures c.in-Some.change).0 refl).1, c.is_timely.ensures.0 c.if-is_timely.true))

pub returns-else-is_timely-clause-halts : goal.returns-else-is_timely-clause-halts
returns-else-is_timely-clause-halts c =
    let p = c.args.machine.now in
    let never = never_late c.args.limits (state_at p) c.in-Some.change c.in-Some.ensures (iff_false c.is_timely.ensures c.if-is_timely.false) in
    subst (λ (e : End). HaltsAt (design_of p.code) c.args.limits (state_at p) e) (sym c.past_end.ensures)
    (halts_late (design_of p.code) c.args.limits (state_at p) (sym c.is_finished.ensures ∙ c.if-is_finished.false) (sym c.is_quiet.ensures ∙ c.if-is_quiet.false)
    (ap (λ (k : Core). has_any k.active) (sym c.state.ensures) ∙ (sym c.is_active.ensures ∙ c.if-is_active.false)) c.requires.until never)

pub returns-in-None-clause-halts : goal.returns-in-None-clause-halts
returns-in-None-clause-halts c =
    let p = c.args.machine.now in
    let never = never_due c.args.limits (state_at p) c.in-None.ensures in
    subst (λ (e : End). HaltsAt (design_of p.code) c.args.limits (state_at p) e) (sym c.past_end-in-None.ensures)
    (halts_late (design_of p.code) c.args.limits (state_at p) (sym c.is_finished.ensures ∙ c.if-is_finished.false) (sym c.is_quiet.ensures ∙ c.if-is_quiet.false)
    (ap (λ (k : Core). has_any k.active) (sym c.state.ensures) ∙ (sym c.is_active.ensures ∙ c.if-is_active.false)) c.requires.until never)
