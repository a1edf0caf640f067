-- What is held comes last.
use Rattle.std.proofs.Common.{ℕ, List, subst}
use Rattle.regions.specs.Machine.{state_at}
use Rattle.certificates.specs.Notes.{NoteView}
use Rattle.loosewalks.specs.Held.{KeptOff}
use Rattle.loosewalks.proofs.Holding.{asleep_from_there}
use Rattle.loosewalks.proofs.held.take_rest.Goals as goal

pub returns-clause-done : goal.returns-clause-done
returns-clause-done c = λ on limits old begun may code others.
    let network = c.args.holding.scope.network.now in
    let held = c.args.holding.held.now in
    let start = c.args.start.now in
    let mid = c.args.machine.now in
    let notes = c.args.room.now.certificate in
    let touched = c.args.cone.now.touched.items in
    let cone = c.args.cone.now.registers.items in
    record {
      mid = mid;
      notes = notes;
      first = c.args.room.now.way.items;
      pending = start.pending.items;
      may = may;
      sleepers = start.sleepers.items;
      are_sleepers = begun.sleepers;
      others = others;
      active = begun.active;
      touched = touched;
      cone = cone;
      off = subst (λ (l : List ℕ). KeptOff network held l touched cone notes) c.as_slice-pending.ensures.value
          (subst (λ (ns : List NoteView). KeptOff network held c.as_slice-pending.result.now touched cone ns) c.notes-notes.ensures (c.in_ok-keep_off.ensures c.if-not-branch.false));
      asleep = asleep_from_there mid.code old.code network held cone start.begin.values (state_at old).store start.time (state_at old).time c.notes-notes.result.now notes start.sleepers.items code begun.begins.values begun.time
          c.notes-notes.ensures (c.in_ok-sleep_on.ensures c.if-not-branch-2.false);
      passed = record { takes = c.in_ok-all.ensures.on on limits old code others.others.takes; over = c.in_ok-all.ensures.over on };
    }
