-- Nothing stands behind the others.
use Rattle.std.proofs.Common.{[], refl, sym, ap, ◌∙◌}
use Rattle.std.specs.Prelude.{◌||◌}
use Rattle.model.specs.Turns.{contains}
use Rattle.design.specs.DesignTrees.{statements_of}
use Rattle.phases.specs.Combinational.{reads, written, settled}
use Rattle.phases.proofs.Blocks.{append_tells}
use Rattle.combinational.proofs.Flow.{or_nothing}
use Rattle.combinational.proofs.body.data_flow.Goals as goal

pub returns-clause-read : goal.returns-clause-read
returns-clause-read c = sym (c.flow_before.ensures.read (reads (statements_of c.args.others.now) []) (c.flow_before-behind.ensures.read [] refl))

pub returns-clause-written : goal.returns-clause-written
returns-clause-written c =
    let first = written (statements_of c.args.statements.now) in
    let second = written (statements_of c.args.others.now) in
    sym c.flow_before.ensures.written ∙ ap (λ b. contains first c.args.register || b) (sym c.flow_before-behind.ensures.written ∙ or_nothing (contains second c.args.register)) ∙ sym (append_tells first second c.args.register)

pub returns-clause-settled : goal.returns-clause-settled
returns-clause-settled c =
    let first = settled (statements_of c.args.statements.now) in
    let second = settled (statements_of c.args.others.now) in
    sym c.flow_before.ensures.settled ∙ ap (λ b. contains first c.args.register || b) (sym c.flow_before-behind.ensures.settled ∙ or_nothing (contains second c.args.register)) ∙ sym (append_tells first second c.args.register)
