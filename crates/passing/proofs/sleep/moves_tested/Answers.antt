-- What the tests say together.
use Rattle.std.proofs.Common.{◌≡◌, ◌∙◌, [], true, ℕ, List, ap, subst}
use Rattle.std.specs.Prelude.{slice_index_or}
use Rattle.std.specs.List.{All}
use Rattle.model.specs.Design.{Trigger}
use Rattle.model.specs.Turns.{contains}
use Rattle.design.specs.DesignInvariant.{controls_of}
use Rattle.regions.specs.Machine.{state_at}
use Rattle.settling.specs.declared.sleepers.Sleeper.{Sleeper}
use Rattle.heldways.specs.Passing.{IsPassing, AreDeaf}
use Rattle.passing.specs.Moves.{passes_by}
use Rattle.passing.specs.Combinations.{MemberPasses}
use Rattle.passing.specs.SleepThroughNotes.{SleepThroughNotes}
use Rattle.passing.proofs.Chosen.{then_pass}
use Rattle.passing.proofs.Closed.{is_passing}
use Rattle.passing.proofs.Members.{outputs_pass_so}
use Rattle.passing.proofs.sleep.moves_tested.Goals as goal

pub returns : goal.returns
returns c =
    let m = c.args.machine.now in
    let held = c.args.held in
    let network = held.network.now in
    let members = held.members.now in
    let cone = held.cone.now in
    let values = held.values.now in
    let notes = c.args.notes.now in
    let sleepers = c.args.sleepers.now in
    let moves = c.args.moves.now in
    let passes = passes_by moves in
    let passing : IsPassing passes = is_passing moves (c.are_closed.ensures c.if-not-are_closed.false) in
    then_pass c.members_tested.result ((p : ℕ) → contains members p ≡ true → MemberPasses m.code network cone values (state_at m).time passes p) (SleepThroughNotes m.code network members cone values (state_at m).time notes sleepers)
    (λ each. record {
      passes = passes;
      is_passing = passing;
      notes_pass = c.notes_pass.ensures c.if-not-notes_pass.false;
      outputs_pass = λ blocks. outputs_pass_so m.code network members cone values (state_at m).time passes passing each blocks;
      deaf =
          subst (λ (controls : List (List Trigger)). All (λ (x : Sleeper). AreDeaf passes (slice_index_or controls x.control [])) sleepers) (c.event_controls-controls.ensures ∙ ap controls_of c.design.ensures)
          (c.are_deaf.ensures c.if-not-are_deaf.false);
    })
    c.members_tested.ensures
