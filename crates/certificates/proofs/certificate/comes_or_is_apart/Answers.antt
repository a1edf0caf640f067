-- The walk goes one step back.
use Rattle.std.proofs.Common.{◌-◌, ◌∙◌, drop, sym, arith}
use Rattle.certificates.specs.Actors.{has}
use Rattle.certificates.proofs.Walking.{walked_more, one_back, comes_at}
use Rattle.certificates.proofs.certificate.comes_or_is_apart.Goals as goal

pub loop-place-preserved : goal.loop-place-preserved
loop-place-preserved c =
    walked_more (has c.loop-place.leading) (has c.leads_or_is_apart.new.leading) c.index-notes-place.result (drop c.loop-place.place c.args.notes.now) (drop (c.loop-place.place - 1) c.args.notes.now) c.args.last.now
    c.loop-place.invariant (one_back c.args.notes.now c.index-notes-place.result c.loop-place.place (omega arith) (omega arith) (sym c.index-notes-place.is))
    (c.in_ok-leads_or_is_apart.ensures.own c.if-not-branch.false) c.in_ok-leads_or_is_apart.ensures.actors

pub returns-then-not-branch-clause-only_so : goal.returns-then-not-branch-clause-only_so
returns-then-not-branch-clause-only_so c =
    λ each. sym c.if-not-branch.true
    ∙ c.in_ok-leads_or_is_apart.ensures.only_own
    (comes_at (has c.loop-place.leading) c.index-notes-place.result (drop c.loop-place.place c.args.notes.now) c.args.notes.now (c.loop-place.place - 1) c.args.last.now c.loop-place.invariant
    (one_back c.args.notes.now c.index-notes-place.result c.loop-place.place (omega arith) (omega arith) (sym c.index-notes-place.is)) each)
