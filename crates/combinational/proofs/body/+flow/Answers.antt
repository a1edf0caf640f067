-- What an assignment does, and what either way of a choice does.
use Rattle.std.proofs.Common.{◌≡◌, ◌++◌, ap, arith, sym, ◌∙◌, ◌==◌}
use Rattle.std.specs.Prelude.{not, ◌&&◌, ◌||◌}
use Rattle.model.specs.Syntax.{registers_of}
use Rattle.model.specs.Turns.{contains}
use Rattle.model.specs.TurnCases.{all_but}
use Rattle.design.specs.DesignTrees.{statements_of, expression_of}
use Rattle.design.proofs.Views.{viewed_if}
use Rattle.phases.specs.Combinational.{reads_one, reads, written_one, written, settled_one, settled}
use Rattle.phases.proofs.Blocks.{append_tells}
use Rattle.combinational.proofs.Flow.{or_assoc, either_or, both_or}
use Rattle.combinational.proofs.Forms.{viewed_assign}
use Rattle.combinational.proofs.Lists.{all_but_is, common_is}
use Rattle.combinational.proofs.body.+flow.Goals as goal

pub flow_before_one-returns-in-Assign-clause-read : goal.flow_before_one-returns-in-Assign-clause-read
flow_before_one-returns-in-Assign-clause-read t c =
    λ registers is.
    let q = c.args.register in
    let r = c.in-Assign.own in
    let e = expression_of c.in-Assign.value in
    ap (λ s. contains (reads_one s registers) q) (viewed_assign c.args.statement.now r c.in-Assign.value c.in-Assign.is) ∙ append_tells (registers_of e) (all_but r registers) q
    ∙ ap (λ b. b || contains (all_but r registers) q) (sym c.reads.ensures) ∙ ap (λ b. c.reads.result || b) (all_but_is r q registers ∙ ap (λ b. not (r == q) && b) is)

pub flow_before_one-returns-in-If-clause-read : goal.flow_before_one-returns-in-If-clause-read
flow_before_one-returns-in-If-clause-read t c =
    λ registers is.
    let q = c.args.register in
    let e = expression_of c.in-If.condition in
    let one = reads (statements_of c.in-If.body.items) registers in
    let two = reads (statements_of c.in-If.otherwise.items) registers in
    let first : contains one q ≡ c.flow_before-first.result.may_read = ap (λ xs. contains (reads (statements_of xs) registers) q) (sym c.deref.ensures.value) ∙ c.flow_before-first.ensures.read registers is in
    let second : contains two q ≡ c.flow_before-second.result.may_read = ap (λ xs. contains (reads (statements_of xs) registers) q) (sym c.deref-in-If.ensures.value) ∙ c.flow_before-second.ensures.read registers is in
    ap (λ s. contains (reads_one s registers) q) (viewed_if c.args.statement.now c.in-If.condition c.in-If.body c.in-If.otherwise c.in-If.is) ∙ append_tells (registers_of e) (one ++ two) q
    ∙ ap (λ b. b || contains (one ++ two) q) (sym c.reads-in-If.ensures) ∙ ap (λ b. c.reads-in-If.result || b) (append_tells one two q ∙ ap (λ b. b || contains two q) first ∙ ap (λ b. c.flow_before-first.result.may_read || b) second)
    ∙ or_assoc c.reads-in-If.result c.flow_before-first.result.may_read c.flow_before-second.result.may_read

pub flow_before_one-returns-in-If-clause-written : goal.flow_before_one-returns-in-If-clause-written
flow_before_one-returns-in-If-clause-written t c =
    let r = c.args.register in
    let later = c.args.behind.may_write in
    let one = written (statements_of c.in-If.body.items) in
    let two = written (statements_of c.in-If.otherwise.items) in
    let first : (contains one r || later) ≡ c.flow_before-first.result.may_write = ap (λ xs. contains (written (statements_of xs)) r || later) (sym c.deref.ensures.value) ∙ c.flow_before-first.ensures.written in
    let second : (contains two r || later) ≡ c.flow_before-second.result.may_write = ap (λ xs. contains (written (statements_of xs)) r || later) (sym c.deref-in-If.ensures.value) ∙ c.flow_before-second.ensures.written in
    ap (λ s. contains (written_one s) r || later) (viewed_if c.args.statement.now c.in-If.condition c.in-If.body c.in-If.otherwise c.in-If.is) ∙ ap (λ b. b || later) (append_tells one two r) ∙ either_or (contains one r) (contains two r) later
    ∙ ap (λ b. b || (contains two r || later)) first ∙ ap (λ b. c.flow_before-first.result.may_write || b) second

pub flow_before_one-returns-in-If-clause-settled : goal.flow_before_one-returns-in-If-clause-settled
flow_before_one-returns-in-If-clause-settled t c =
    let r = c.args.register in
    let later = c.args.behind.must_write in
    let one = settled (statements_of c.in-If.body.items) in
    let two = settled (statements_of c.in-If.otherwise.items) in
    let first : (contains one r || later) ≡ c.flow_before-first.result.must_write = ap (λ xs. contains (settled (statements_of xs)) r || later) (sym c.deref.ensures.value) ∙ c.flow_before-first.ensures.settled in
    let second : (contains two r || later) ≡ c.flow_before-second.result.must_write = ap (λ xs. contains (settled (statements_of xs)) r || later) (sym c.deref-in-If.ensures.value) ∙ c.flow_before-second.ensures.settled in
    ap (λ s. contains (settled_one s) r || later) (viewed_if c.args.statement.now c.in-If.condition c.in-If.body c.in-If.otherwise c.in-If.is) ∙ ap (λ b. b || later) (common_is one two r) ∙ both_or (contains one r) (contains two r) later
    ∙ ap (λ b. b && (contains two r || later)) first ∙ ap (λ b. c.flow_before-first.result.must_write && b) second

pub flow_before-returns-clause-read : goal.flow_before-returns-clause-read
flow_before-returns-clause-read t c =
    λ registers is.
    let zero : c.loop-at.at ≡ 0 = omega (arith, c.loop-at-test.false) in
    rw zero at (c.loop-at.invariant.read registers is)

pub flow_before-returns-clause-written : goal.flow_before-returns-clause-written
flow_before-returns-clause-written t c =
    let zero : c.loop-at.at ≡ 0 = omega (arith, c.loop-at-test.false) in
    rw zero at c.loop-at.invariant.written

pub flow_before-returns-clause-settled : goal.flow_before-returns-clause-settled
flow_before-returns-clause-settled t c =
    let zero : c.loop-at.at ≡ 0 = omega (arith, c.loop-at-test.false) in
    rw zero at c.loop-at.invariant.settled
