-- One choice more was looked at, and whoever waits is one of them.
use Rattle.std.proofs.Common.{◌≡◌, ◌⊎◌, true}
use Rattle.std.specs.List.{Contains}
use Rattle.design.specs.Compiled.{design_of}
use Rattle.regions.specs.Machine.{state_at}
use Rattle.loose.specs.declared.transition.LooseTransition.TheVariants.{Process}
use Rattle.loose.specs.Classes.{class_in}
use Rattle.certificates.specs.Coming.{wakes_actor}
use Rattle.looseparts.proofs.Waiters.{kept_more, seen_waiting}
use Rattle.looseparts.proofs.acting.waiting_of.Goals as goal

pub loop-choice-preserved : goal.loop-choice-preserved
loop-choice-preserved c =
    kept_more c.args.group.now c.deref-choice-items.result.now c.loop-choice.next.items c.add_wanted.new.next.items c.args.room.now.note c.loop-choice.choice-index (Process 0) c.loop-choice-test.true c.loop-choice.invariant c.in_ok-add_wanted.ensures.kept c.in_ok-add_wanted.ensures.wanted

pub returns-clause-next : goal.returns-clause-next
returns-clause-next c =
    λ going a waits. seen_waiting (λ b. Contains c.args.group.now b ⊎ (wakes_actor c.args.room.now.note b ≡ true) → Contains c.loop-choice.next.items b) (class_in c.args.classes.now) (design_of c.args.machine.now.code) (state_at c.args.machine.now) c.deref-choice-items.result.now
    c.list_choices.new.choices.items c.loop-choice.choice-index a c.deref-choice-items.ensures.value c.in_ok-list_choices.ensures.permitted c.requires going c.loop-choice-test.false c.loop-choice.invariant waits
