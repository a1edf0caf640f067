-- The three kinds of entries.
use Rattle.std.proofs.Common.{rules, ◌≡◌, Some, sym, subst}
use Rattle.std.specs.Prelude.{OnOk, IfOk}
use Rattle.model.specs.declared.entry.Entry.{Entry}
use Rattle.model.specs.Runs.{Effect, step}
use Rattle.design.specs.Compiled.{design_of}
use Rattle.regions.specs.Machine.{state_at}
use Rattle.steps.specs.Accounts.{account_of}
use Rattle.steps.specs.Cells.{cell_values}
use Rattle.steps.specs.ExplainerStanding.{IsLogFilled, IsNoted, IsSoundState}
use Rattle.steps.proofs.Notes.{other_noted, other_sound}
use Rattle.steps.proofs.noting.note.Goals as goal

pub returns-in-Turn-clause-noted : goal.returns-in-Turn-clause-noted
returns-in-Turn-clause-noted c =
    let p = c.args.machine.now in
    subst (λ (e : Entry). OnOk c.note_turn.result ((effect : Effect) → cell_values c.args.cells.now.items ≡ p.values → step (design_of p.code) (state_at p) e ≡ Some effect → IsNoted p.code (state_at p) c.args.cells.now.items e effect c.note_turn.new.cells.items (account_of c.note_turn.new.told)))
    (sym c.in-Turn.is) c.note_turn.ensures.noted

pub returns-in-Turn-clause-sound : goal.returns-in-Turn-clause-sound
returns-in-Turn-clause-sound c =
    let p = c.args.machine.now in
    subst (λ (e : Entry). OnOk c.note_turn.result ((effect : Effect) → step (design_of p.code) (state_at p) e ≡ Some effect → IsSoundState p.code effect.state))
    (sym c.in-Turn.is) c.note_turn.ensures.sound

pub returns-in-Turn-clause-given : goal.returns-in-Turn-clause-given
returns-in-Turn-clause-given c =
    let p = c.args.machine.now in
    subst (λ (e : Entry). IfOk c.note_turn.result (IsLogFilled p.code (state_at p) e c.note_turn.new.log)) (sym c.in-Turn.is) c.note_turn.ensures.given

pub returns-in_ok-note_update-in-Update-clause-noted : goal.returns-in_ok-note_update-in-Update-clause-noted
returns-in_ok-note_update-in-Update-clause-noted c =
    let p = c.args.machine.now in
    subst (λ (e : Entry). (effect : Effect) → cell_values c.args.cells.now.items ≡ p.values → step (design_of p.code) (state_at p) e ≡ Some effect → IsNoted p.code (state_at p) c.args.cells.now.items e effect c.note_update.new.cells.items (account_of c.note_update.new.told))
    (sym c.in-Update.is) c.in_ok-note_update-in-Update.ensures.noted

pub returns-in_ok-note_update-in-Update-clause-sound : goal.returns-in_ok-note_update-in-Update-clause-sound
returns-in_ok-note_update-in-Update-clause-sound c =
    let p = c.args.machine.now in
    subst (λ (e : Entry). (effect : Effect) → step (design_of p.code) (state_at p) e ≡ Some effect → IsSoundState p.code effect.state)
    (sym c.in-Update.is) c.in_ok-note_update-in-Update.ensures.sound

pub returns-in_default : goal.returns-in_default
returns-in_default c =
    let p = c.args.machine.now in
    record {
      noted = λ effect values is.
          other_noted p.code (state_at p) c.args.entry c.args.cells.now.items (account_of c.clear.new.told) c.in_default.not-Turn c.in_default.not-Update
          c.requires.kept.sound c.clear.ensures.actor c.clear.ensures.cleared.reads c.clear.ensures.cleared.changes c.clear.ensures.cleared.assigned effect is;
      sound = λ effect is. other_sound p.code (state_at p) c.args.entry c.in_default.not-Turn c.in_default.not-Update c.requires.kept.sound effect is;
      given = search rules;
      registers = search rules;
    }
