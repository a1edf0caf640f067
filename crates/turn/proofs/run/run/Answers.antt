use Rattle.std.proofs.Common.{rules, ◌≡◌, ◌+◌, ◌∙◌, length, ap, sym, false, true, refl, subst, arith}
use Rattle.turn.specs.RunningTurn.{turn_status_of, fresh}
use Rattle.turn.specs.Reads.{GaveAll}
use Rattle.turn.specs.Evaluate.{NamesDeclared}
use Rattle.turn.specs.TurnSteps.{IsAtEnd}
use Rattle.turn.specs.declared.log.Suspend.TheVariants as suspends
use Rattle.turn.specs.declared.machine.Step.TheVariants as step
use Rattle.turn.proofs.Values.{code_declared}
use Rattle.turn.proofs.Turns.{Reached, reached_none, reached_more, ends_over, ends_counted, is_log, end_takes, too_long, uses_first, reads_declared, taken}
use Rattle.turn.proofs.run.run.Goals as goal

pub take-requires-clause-declared : goal.take-requires-clause-declared
take-requires-clause-declared g c =
    let n = g.R.RegReader.registers in
    subst (NamesDeclared n) (sym c.ops-ops.ensures) (code_declared c.args.design.now n c.registers.ensures.compiled c.requires.registers)

pub loop-count-init : goal.loop-count-init
loop-count-init g c =
    let design = c.args.design.now in
    let state = c.args.state.now in
    let begins : turn_status_of c.begin.new.self ≡ fresh state (length design.widths) = c.in_ok-begin.ensures ∙ ap (λ n. fresh state n) c.registers.ensures.value in
    record {
      reached = subst (Reached design state c.args.now 0) (sym begins) (reached_none design state c.args.now);
      gave = subst (GaveAll _) (sym (ap (λ s. s.reads) begins)) tt;
      keeps = search rules;
      lasting = refl;
    }

pub returns-in-Over-clause-turn : goal.returns-in-Over-clause-turn
returns-in-Over-clause-turn g c =
    let s = turn_status_of c.loop-count.running in
    let t = turn_status_of c.take.new.self in
    let takes = taken c.args.design.now c.nodes-nodes.result.now c.ops-ops.result.now c.shown-shown.result.now c.args.now s _ step.Over t c.nodes-nodes.ensures c.ops-ops.ensures c.shown-shown.ensures c.in-Over.is c.in_ok-take.ensures.takes in
    is_log c.args.design.now c.args.state.now c.args.now c.loop-count.count s t suspends.Ended false c.loop-count.count _
    c.loop-count.invariant.reached
    (λ p. ends_over c.args.design.now c.registers.ensures.compiled p c.args.now c.loop-count.count s t takes)
    (omega arith)
    (record { reads = refl; writes = refl; turn_changes = refl; nbas = refl; lines = refl; strobes = refl; next = refl; waits = refl; finishes = refl; count = refl })

pub returns-in-Ends-clause-turn : goal.returns-in-Ends-clause-turn
returns-in-Ends-clause-turn g c =
    let s = turn_status_of c.loop-count.running in
    let t = turn_status_of c.take.new.self in
    let takes = taken c.args.design.now c.nodes-nodes.result.now c.ops-ops.result.now c.shown-shown.result.now c.args.now s _ (step.Ends c.in-Ends.suspend c.in-Ends.finish) t c.nodes-nodes.ensures c.ops-ops.ensures c.shown-shown.ensures c.in-Ends.is c.in_ok-take.ensures.takes in
    is_log c.args.design.now c.args.state.now c.args.now c.loop-count.count s t c.in-Ends.suspend c.in-Ends.finish (c.loop-count.count + 1) _
    c.loop-count.invariant.reached
    (λ p. ends_counted c.args.design.now c.registers.ensures.compiled p c.args.now c.loop-count.count s t c.in-Ends.suspend c.in-Ends.finish takes)
    (omega arith)
    (record { reads = refl; writes = refl; turn_changes = refl; nbas = refl; lines = refl; strobes = refl; next = refl; waits = refl; finishes = refl; count = refl })

pub loop-count-preserved : goal.loop-count-preserved
loop-count-preserved g c = record {
  reached = reached_more c.args.design.now c.registers.ensures.compiled c.args.state.now c.args.now c.loop-count.count (turn_status_of c.loop-count.running) (turn_status_of c.take.new.self)
      c.loop-count.invariant.reached
      (taken c.args.design.now c.nodes-nodes.result.now c.ops-ops.result.now c.shown-shown.result.now c.args.now (turn_status_of c.loop-count.running) _ step.Goes (turn_status_of c.take.new.self) c.nodes-nodes.ensures c.ops-ops.ensures c.shown-shown.ensures c.in-Goes.is c.in_ok-take.ensures.takes);
  gave = c.in_ok-take.ensures.reads.gave c.loop-count.invariant.gave;
  keeps = λ r s h. c.in_ok-take.ensures.reads.keeps r s (c.loop-count.invariant.keeps r s h);
  lasting = c.in_ok-take.ensures.reads.lasting ∙ c.loop-count.invariant.lasting;
}

pub returns-then-is_over-clause-turn : goal.returns-then-is_over-clause-turn
returns-then-is_over-clause-turn g c =
    let s = turn_status_of c.loop-count.running in
    let there : IsAtEnd c.args.design.now.nodes s.state = subst (λ nodes. IsAtEnd nodes s.state) c.nodes-nodes.ensures (c.if-is_over.ensures.0 refl) in
    is_log c.args.design.now c.args.state.now c.args.now c.loop-count.count s s suspends.Ended false c.loop-count.count _
    c.loop-count.invariant.reached
    (λ p. ends_over c.args.design.now c.registers.ensures.compiled p c.args.now c.loop-count.count s s (end_takes c.args.design.now c.args.now s there))
    (omega arith)
    (record { reads = refl; writes = refl; turn_changes = refl; nbas = refl; lines = refl; strobes = refl; next = refl; waits = refl; finishes = refl; count = omega arith })

pub returns-else-is_over-clause-turn : goal.returns-else-is_over-clause-turn
returns-else-is_over-clause-turn g c =
    let s = turn_status_of c.loop-count.running in
    λ p start. (
      reads_declared c.args.design.now c.args.state.now c.args.now c.loop-count.count s c.loop-count.invariant.reached p start,
      too_long c.args.design.now c.registers.ensures.compiled c.args.state.now c.args.now c.loop-count.count s
          c.loop-count.invariant.reached (omega arith)
          (λ there. let no : false ≡ true = c.if-is_over.ensures.1 (subst (λ nodes. IsAtEnd nodes s.state) (sym c.nodes-nodes.ensures) there) in cc)
          p start,
      uses_first c.args.design.now c.args.state.now c.args.now c.loop-count.count s c.loop-count.invariant.reached (omega arith) p start,
    )
