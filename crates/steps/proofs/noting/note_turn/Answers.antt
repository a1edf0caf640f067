-- The turn that an entry takes, where there is one.
use Rattle.std.proofs.Common.{◌≡◌, ℕ, Option, Some, None, refl, sym, ◌∙◌, subst}
use Rattle.turn.specs.declared.log.FillFault.{FillFault}
use Rattle.regions.specs.Machine.{state_at, IsTurnLogged, IsEvaluated, IsUnevaluated}
use Rattle.regions.proofs.Given.{given_log}
use Rattle.steps.specs.Accounts.{account_of}
use Rattle.steps.proofs.Logged.{no_turn}
use Rattle.steps.proofs.Notes.{turn_noted, turn_sound}
use Rattle.steps.proofs.noting.note_turn.Goals as goal

pub returns-in_ok-tell_turn-in-Ok-Some-clause-noted : goal.returns-in_ok-tell_turn-in-Ok-Some-clause-noted
returns-in_ok-tell_turn-in-Ok-Some-clause-noted c = λ effect values is.
    let p = c.args.machine.now in
    let log = c.evaluate.new.log in
    let process = c.in-Ok-Some.process in
    let logged : IsTurnLogged p.code (state_at p) c.args.number process log = subst (λ (o : Option ℕ). IsEvaluated p.code (state_at p) c.args.number log o) c.in-Ok-Some.field-0-is c.in-Ok-Some.ensures in
    let told = c.in_ok-tell_turn-in-Ok-Some.ensures in
    turn_noted p.code (state_at p) c.args.number process log c.args.cells.now.items c.tell_turn.new.cells.items (account_of c.tell_turn.new.told) logged told.actor told.reads told.assigned told.written
    effect values is

pub returns-in_ok-tell_turn-in-Ok-Some-clause-sound : goal.returns-in_ok-tell_turn-in-Ok-Some-clause-sound
returns-in_ok-tell_turn-in-Ok-Some-clause-sound c = λ effect is.
    let p = c.args.machine.now in
    let log = c.evaluate.new.log in
    let process = c.in-Ok-Some.process in
    let logged : IsTurnLogged p.code (state_at p) c.args.number process log = subst (λ (o : Option ℕ). IsEvaluated p.code (state_at p) c.args.number log o) c.in-Ok-Some.field-0-is c.in-Ok-Some.ensures in
    turn_sound p.code (state_at p) c.args.number process log c.requires.kept.sound logged effect is

pub returns-in_ok-tell_turn-in-Ok-Some-clause-given : goal.returns-in_ok-tell_turn-in-Ok-Some-clause-given
returns-in_ok-tell_turn-in-Ok-Some-clause-given c =
    let p = c.args.machine.now in
    let log = c.evaluate.new.log in
    let process = c.in-Ok-Some.process in
    let logged : IsTurnLogged p.code (state_at p) c.args.number process log = subst (λ (o : Option ℕ). IsEvaluated p.code (state_at p) c.args.number log o) c.in-Ok-Some.field-0-is c.in-Ok-Some.ensures in
    (refl, given_log p.code (state_at p) c.args.number process log logged)

pub returns-in-Ok-None-clause-noted : goal.returns-in-Ok-None-clause-noted
returns-in-Ok-None-clause-noted c = λ effect values is.
    let p = c.args.machine.now in
    let refused = subst (λ (o : Option ℕ). IsEvaluated p.code (state_at p) c.args.number c.evaluate.new.log o) c.in-Ok-None.field-0-is c.in-Ok-None.ensures in
    let clash : None ≡ Some effect = sym (no_turn p.code (state_at p) c.args.number refused) ∙ is in
    absurd (cc)

pub returns-in-Ok-None-clause-sound : goal.returns-in-Ok-None-clause-sound
returns-in-Ok-None-clause-sound c = λ effect is.
    let p = c.args.machine.now in
    let refused = subst (λ (o : Option ℕ). IsEvaluated p.code (state_at p) c.args.number c.evaluate.new.log o) c.in-Ok-None.field-0-is c.in-Ok-None.ensures in
    let clash : None ≡ Some effect = sym (no_turn p.code (state_at p) c.args.number refused) ∙ is in
    absurd (cc)

pub returns-in-Err-TooLong-clause-noted : goal.returns-in-Err-TooLong-clause-noted
returns-in-Err-TooLong-clause-noted c = λ effect values is.
    let p = c.args.machine.now in
    let long = subst (λ (f : FillFault). IsUnevaluated p.code (state_at p) c.args.number f) c.in-Err-TooLong.field-0-is c.in-Err-TooLong.ensures in
    let clash : None ≡ Some effect = sym long.1 ∙ is in
    absurd (cc)

pub returns-in-Err-TooLong-clause-sound : goal.returns-in-Err-TooLong-clause-sound
returns-in-Err-TooLong-clause-sound c = λ effect is.
    let p = c.args.machine.now in
    let long = subst (λ (f : FillFault). IsUnevaluated p.code (state_at p) c.args.number f) c.in-Err-TooLong.field-0-is c.in-Err-TooLong.ensures in
    let clash : None ≡ Some effect = sym long.1 ∙ is in
    absurd (cc)
