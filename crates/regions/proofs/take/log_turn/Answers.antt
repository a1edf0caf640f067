-- The turn of an event that is permitted, and why there is none.
use Rattle.std.proofs.Common.{◌≡◌, ◌∙◌, sym, ap, subst, map, length, None, ℕ}
use Rattle.std.proofs.lemmas.List.{length-map}
use Rattle.model.specs.declared.entry.Entry.TheVariants as entries
use Rattle.model.specs.Runs.{refusal, action_in}
use Rattle.design.specs.DesignInvariant.{remainder_of_state}
use Rattle.regions.specs.Queue.{state_of}
use Rattle.regions.specs.Reader.{IsTurnOn, IsNoTurnOn}
use Rattle.regions.proofs.Evaluated.{own_state}
use Rattle.regions.proofs.Given.{is_log_for, permitted_where, refused_finished, refused_inactive, unevaluated}
use Rattle.regions.proofs.take.log_turn.Goals as goal

pub returns-then-is_finished : goal.returns-then-is_finished
returns-then-is_finished c =
    refused_finished (state_of (remainder_of_state c.args.design.now) c.args.store.now c.args.state.now) c.args.number (sym c.is_finished.ensures ∙ c.if-is_finished.true)

pub returns-in-None : goal.returns-in-None
returns-in-None c =
    refused_inactive (state_of (remainder_of_state c.args.design.now) c.args.store.now c.args.state.now) c.args.number c.in-None.ensures

pub returns-in-Ok : goal.returns-in-Ok
returns-in-Ok c =
    let code = c.args.design.now in
    let core = c.args.state.now in
    let values = c.args.store.now in
    let place = c.in-Some.place.now in
    let count : length values ≡ length code.widths = sym (length-map values length) ∙ ap length c.requires.stands.store in
    let own = own_state code core c.args.number c.in-Some.process place c.requires.stands.states c.in-Some.ensures in
    record {
      running = sym c.is_finished.ensures ∙ c.if-is_finished.false;
      action = c.in-Some.ensures.0;
      is_log = is_log_for code core values c.args.number c.in-Some.process place c.turn_on.new.log own count c.in-Some.ensures
          (subst (λ (now : ℕ). IsTurnOn code place values now c.turn_on.new.log) c.time-now.ensures c.in-Ok.ensures);
      declared = c.in-Ok.ensures.is_log.declared c.in-Some.process own;
    }

pub returns-in-Err : goal.returns-in-Err
returns-in-Err c =
    let code = c.args.design.now in
    let core = c.args.state.now in
    let values = c.args.store.now in
    let permitted : refusal (state_of (remainder_of_state code) values core) (entries.Turn c.args.number) ≡ None =
    permitted_where core.finished (action_in core.active c.args.number) c.in-Some.process (sym c.is_finished.ensures ∙ c.if-is_finished.false) c.in-Some.ensures.0 in
    unevaluated code core values c.args.number c.in-Some.process c.in-Some.place.now c.in-Err.fault c.requires.stands.states c.in-Some.ensures permitted
    (subst (λ (now : ℕ). IsNoTurnOn code c.in-Some.place.now values now c.in-Err.fault) c.time-now.ensures c.in-Err.ensures)
