-- What the log says is what the turn does.
use Rattle.std.proofs.Common.{ℕ, List, ap, ◌∙◌}
use Rattle.std.proofs.lemmas.Result.{on_ok_weaker}
use Rattle.logic4.specs.Vector.{Vector}
use Rattle.loose.specs.Classes.{class_in}
use Rattle.regions.specs.Machine.{state_at}
use Rattle.certificates.specs.Notes.{NoteView}
use Rattle.model.specs.Turns.{contains}
use Rattle.heldmoves.specs.WithoutHeld.{without_held}
use Rattle.noted.specs.NotedSteps.{own_note, with_effects}
use Rattle.noted.proofs.Noted.{log_noted}
use Rattle.noted.proofs.turns.note_turn.Goals as goal

pub returns : goal.returns
returns c =
    let m = c.args.machine.now in
    let s = state_at m in
    let held = contains c.args.held.now in
    let left = without_held held s in
    let class = class_in c.args.classes.now in
    let log = c.args.log.now in
    let own = own_note class m.core.controls left c.args.process log in
    on_ok_weaker c.note_effects.result
    (λ h.
    log_noted class m.code m.core.controls held s c.args.process log c.note_effects.new.note c.requires c.stands.ensures.controls
    (h ∙ ap (λ (n : NoteView). with_effects n left c.writes.result.now) c.in_ok-note_own.ensures ∙ ap (λ (ws : List (ℕ × Vector)). with_effects own left ws) c.writes.ensures))
    c.note_effects.ensures
