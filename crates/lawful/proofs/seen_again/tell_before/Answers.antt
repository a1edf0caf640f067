-- Nothing is told where no time passes; else what was printed, and what is seen.
use Rattle.regions.specs.Machine.{state_at}
use Rattle.observers.specs.Observers.{observer_of}
use Rattle.lawful.proofs.SeenAgain.{same_but_lines, told_nothing, told_passing}
use Rattle.lawful.proofs.seen_again.tell_before.Goals as goal

pub returns-then-not-passes_time-clause-told : goal.returns-then-not-passes_time-clause-told
returns-then-not-passes_time-clause-told c =
    told_nothing (observer_of c.args.observing.now) (state_at c.args.machine.now) c.args.transition c.args.text.now.items c.args.machine.now.lines (c.passes_time.ensures.stays c.if-not-passes_time.true)

pub returns-in_err-tell_lines-clause-same : goal.returns-in_err-tell_lines-clause-same
returns-in_err-tell_lines-clause-same c = same_but_lines c.args.machine.now c.tell_lines.new.machine c.tell_lines.ensures.same

pub returns-clause-same : goal.returns-clause-same
returns-clause-same c = same_but_lines c.args.machine.now c.tell_lines.new.machine c.tell_lines.ensures.same

pub returns-clause-told : goal.returns-clause-told
returns-clause-told c =
    let observe = observer_of c.args.observing.now in
    let m = c.args.machine.now in
    told_passing observe m c.tell_lines.new.machine c.args.transition c.push_seen.result c.args.text.now.items c.tell_lines.new.text.items c.push_seen.new.bytes.items (c.passes_time.ensures.seen c.if-not-passes_time.false observe (state_at m)) c.tell_lines.ensures.same c.in_ok-tell_lines.ensures.told c.push_seen.ensures
