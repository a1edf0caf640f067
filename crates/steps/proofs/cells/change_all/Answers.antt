-- One write more.
use Rattle.std.proofs.Common.{ℕ, ◌+◌, ◌∙◌, List, drop, subst}
use Rattle.std.proofs.lemmas.List.{drop_all}
use Rattle.logic4.specs.Vector.{Vector}
use Rattle.regions.proofs.Pasts.{next_write}
use Rattle.steps.proofs.Writes.{AreWrittenTo, written_step, written_end}
use Rattle.steps.proofs.cells.change_all.Goals as goal

pub loop-write-preserved : goal.loop-write-preserved
loop-write-preserved c =
    let old = c.args.cells.now.items in
    let writes = c.args.writes.now in
    let rest : List (ℕ × Vector) = drop (c.loop-write.write-index + 1) writes in
    record {
      written = written_step old c.loop-write.cells.items c.change.new.cells.items writes rest c.write-item.result c.args.changes.now.items c.loop-write.changes.items c.change.new.changes.items
          (subst (λ (r : List (ℕ × Vector)). AreWrittenTo old writes r c.args.changes.now.items c.loop-write.cells.items c.loop-write.changes.items)
          (next_write writes c.loop-write.write-index c.write-item.result c.loop-write-test.true c.write-item.is) c.loop-write.invariant.written)
          c.in_ok-change.ensures.written;
      registers = c.change.ensures.registers ∙ c.loop-write.invariant.registers;
    }

pub returns-clause-written : goal.returns-clause-written
returns-clause-written c =
    written_end c.args.cells.now.items c.loop-write.cells.items c.args.writes.now (drop c.loop-write.write-index c.args.writes.now) c.args.changes.now.items c.loop-write.changes.items
    (drop_all c.loop-write.write-index c.args.writes.now c.loop-write-test.false) c.loop-write.invariant.written
