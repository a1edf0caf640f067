-- The step that the copy took.
use Rattle.std.proofs.Common.{◌≡◌, ◌⊎◌, true, false, ◌∙◌, sym, ap, subst}
use Rattle.std.specs.List.{Contains}
use Rattle.loose.specs.declared.transition.LooseTransition.{LooseTransition}
use Rattle.loose.specs.Classes.{class_in}
use Rattle.regions.specs.Machine.{MachineView, state_at}
use Rattle.footprints.specs.Moves.{IsWaiting}
use Rattle.certificates.specs.Notes.{NoteView}
use Rattle.certificates.specs.Coming.{wakes_actor}
use Rattle.looseparts.specs.ActorSteps.{IsActorStep}
use Rattle.looseparts.proofs.find.first_step.Goals as goal

pub returns : goal.returns
returns c =
    let class = class_in c.args.classes.now in
    let m = c.args.machine.now in
    let new = c.take_step.new.machine in
    let note = c.take_step.new.room.note in
    let same : c.deref_mut.result.now ≡ m = c.deref_mut.ensures.value ∙ c.in_ok-copy.ensures in
    let noted : c.take_note.result ≡ note = c.take_note.ensures ∙ c.waiting_of.ensures.note in
    record {
      taken =
          subst (λ (z : NoteView). IsActorStep class m c.args.actor z new) (sym noted)
          (subst (λ (p : MachineView). IsActorStep class p c.args.actor note new) same (c.in_ok-take_step.ensures.taken c.if-not-branch.false));
      code = c.take_step.ensures.code ∙ ap (λ (p : MachineView). p.code) same;
      waiting =
          subst (λ (z : NoteView). new.core.finished ≡ false → (a : LooseTransition) → IsWaiting class (state_at new) a → Contains c.args.group.now a ⊎ (wakes_actor z a ≡ true) → Contains c.in_ok-next.next.items a) (sym noted)
          (subst (λ (p : MachineView). p.core.finished ≡ false → (a : LooseTransition) → IsWaiting class (state_at p) a → Contains c.args.group.now a ⊎ (wakes_actor note a ≡ true) → Contains c.in_ok-next.next.items a) c.deref.ensures c.in_ok-next.ensures.next);
    }
