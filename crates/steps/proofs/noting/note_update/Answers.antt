-- The update that an entry takes, where there is one.
use Rattle.std.proofs.Common.{rules, ◌≡◌, ℕ, ◌<◌, List, [], ◌∷◌, Some, None, sym, ◌∙◌, ap, subst, map, ◌++◌}
use Rattle.logic4.specs.Vector.{Vector}
use Rattle.model.specs.States.{Event}
use Rattle.model.specs.Runs.{action_in}
use Rattle.regions.specs.Queue.{Core, update_event, evaluation_event}
use Rattle.regions.specs.Machine.{state_at}
use Rattle.steps.specs.declared.entry_account.Changed.{Changed}
use Rattle.steps.specs.Cells.{AreWritten}
use Rattle.steps.specs.ExplainerStanding.{update_of}
use Rattle.steps.proofs.Effects.{update_fits}
use Rattle.steps.proofs.Logged.{no_update_inactive}
use Rattle.steps.proofs.Notes.{update_noted, update_sound, update_found, update_among}
use Rattle.steps.proofs.noting.note_update.Goals as goal

pub change-requires : goal.change-requires
change-requires c =
    let code = c.args.machine.now.code in
    let s = state_at c.args.machine.now in
    let us = c.active.result.0.now.items in
    let es = c.active.result.1.now.items in
    let active : map update_event us ++ map evaluation_event es ≡ s.active = c.active.ensures ∙ ap (λ (k : Core). k.active) c.state.ensures in
    let found : update_of (action_in (map update_event us) c.args.number) ≡ Some (c.in-Some.update.now.register, c.in-Some.update.now.value) = c.in-Some.ensures in
    let action = update_found s us es c.args.number c.in-Some.update.now.register c.in-Some.update.now.value active found in
    subst (λ k. c.in-Some.update.now.register < k) (sym c.requires.kept.registers) (update_fits code s c.args.number c.in-Some.update.now.register c.in-Some.update.now.value c.requires.kept.sound action).0

pub returns-in_ok-change-in-Some-clause-noted : goal.returns-in_ok-change-in-Some-clause-noted
returns-in_ok-change-in-Some-clause-noted c = λ effect values is.
    let code = c.args.machine.now.code in
    let s = state_at c.args.machine.now in
    let us = c.active.result.0.now.items in
    let es = c.active.result.1.now.items in
    let active : map update_event us ++ map evaluation_event es ≡ s.active = c.active.ensures ∙ ap (λ (k : Core). k.active) c.state.ensures in
    let found : update_of (action_in (map update_event us) c.args.number) ≡ Some (c.in-Some.update.now.register, c.in-Some.update.now.value) = c.in-Some.ensures in
    let action = update_found s us es c.args.number c.in-Some.update.now.register c.in-Some.update.now.value active found in
    let one : List (ℕ × Vector) = (c.in-Some.update.now.register, c.in-Some.update.now.value) ∷ [] in
    update_noted code s c.args.number c.in-Some.update.now.register c.in-Some.update.now.value c.args.cells.now.items c.change.new.cells.items _ action (search rules) c.requires.cleared.reads c.requires.cleared.assigned
    (subst (λ (l : List Changed). AreWritten c.args.cells.now.items one l c.change.new.cells.items c.change.new.changes.items) c.requires.cleared.changes c.in_ok-change-in-Some.ensures.written)
    effect values is

pub returns-in_ok-change-in-Some-clause-sound : goal.returns-in_ok-change-in-Some-clause-sound
returns-in_ok-change-in-Some-clause-sound c = λ effect is.
    let code = c.args.machine.now.code in
    let s = state_at c.args.machine.now in
    let us = c.active.result.0.now.items in
    let es = c.active.result.1.now.items in
    let active : map update_event us ++ map evaluation_event es ≡ s.active = c.active.ensures ∙ ap (λ (k : Core). k.active) c.state.ensures in
    let found : update_of (action_in (map update_event us) c.args.number) ≡ Some (c.in-Some.update.now.register, c.in-Some.update.now.value) = c.in-Some.ensures in
    let action = update_found s us es c.args.number c.in-Some.update.now.register c.in-Some.update.now.value active found in
    update_sound code s c.args.number c.in-Some.update.now.register c.in-Some.update.now.value c.requires.kept.sound action effect is

pub returns-in-None-clause-noted : goal.returns-in-None-clause-noted
returns-in-None-clause-noted c = λ effect values is.
    let s = state_at c.args.machine.now in
    let us = c.active.result.0.now.items in
    let es = c.active.result.1.now.items in
    let active : map update_event us ++ map evaluation_event es ≡ s.active = c.active.ensures ∙ ap (λ (k : Core). k.active) c.state.ensures in
    let none : update_of (action_in s.active c.args.number) ≡ None =
    ap (λ (xs : List Event). update_of (action_in xs c.args.number)) (sym active) ∙ update_among us es c.args.number ∙ c.in-None.ensures in
    let clash : None ≡ Some effect = sym (no_update_inactive c.args.machine.now.code s c.args.number none) ∙ is in
    absurd (cc)

pub returns-in-None-clause-sound : goal.returns-in-None-clause-sound
returns-in-None-clause-sound c = λ effect is.
    let s = state_at c.args.machine.now in
    let us = c.active.result.0.now.items in
    let es = c.active.result.1.now.items in
    let active : map update_event us ++ map evaluation_event es ≡ s.active = c.active.ensures ∙ ap (λ (k : Core). k.active) c.state.ensures in
    let none : update_of (action_in s.active c.args.number) ≡ None =
    ap (λ (xs : List Event). update_of (action_in xs c.args.number)) (sym active) ∙ update_among us es c.args.number ∙ c.in-None.ensures in
    let clash : None ≡ Some effect = sym (no_update_inactive c.args.machine.now.code s c.args.number none) ∙ is in
    absurd (cc)
