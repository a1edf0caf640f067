-- One choice more was looked at, and whoever waits is one of them.
use Rattle.std.proofs.Common.{◌≡◌, true}
use Rattle.std.specs.List.{Contains}
use Rattle.std.proofs.lemmas.List.Elements.{All-more}
use Rattle.design.specs.Compiled.{design_of}
use Rattle.regions.specs.Machine.{state_at}
use Rattle.loose.specs.declared.transition.LooseTransition.TheVariants.{Process}
use Rattle.loose.specs.Classes.{class_in}
use Rattle.looseparts.specs.StandTogether.{concern}
use Rattle.looseparts.proofs.Waiters.{seen_waiting}
use Rattle.looseparts.proofs.acting.is_closed.Goals as goal

pub loop-choice-preserved : goal.loop-choice-preserved
loop-choice-preserved c =
    All-more (λ a. concern c.args.notes.now a ≡ true → Contains c.args.group.now a) c.deref-choice-items.result.now c.loop-choice.choice-index (Process 0) c.loop-choice-test.true c.loop-choice.invariant (c.is_left_out.ensures c.if-is_left_out.false)

pub returns : goal.returns
returns c =
    λ done a waits. seen_waiting (λ b. concern c.args.notes.now b ≡ true → Contains c.args.group.now b) (class_in c.args.classes.now) (design_of c.args.machine.now.code) (state_at c.args.machine.now) c.deref-choice-items.result.now c.list_choices.new.choices.items
    c.loop-choice.choice-index a c.deref-choice-items.ensures.value c.in_ok-list_choices.ensures.permitted c.requires.order c.requires.going c.loop-choice-test.false c.loop-choice.invariant waits
