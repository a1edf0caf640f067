-- What was noted is told once the entry is taken.
use Rattle.std.proofs.Common.{refl, ◌∙◌}
use Rattle.steps.specs.Accounts.{account_of}
use Rattle.steps.proofs.Stepped.{step_kept, step_told}
use Rattle.steps.proofs.explainer.take_told.Goals as goal

pub returns-clause-kept : goal.returns-clause-kept
returns-clause-kept c =
    step_kept c.args.machine.now c.take_noted.new.machine c.take_lines.new.self c.args.entry c.take_noted.ensures.code c.take_lines.ensures.rest c.in-Ok-take_noted.ensures.taken
    c.note.new.cells.items (c.note.ensures.registers ∙ c.requires.registers) c.in-Ok.ensures.sound

pub returns-clause-told : goal.returns-clause-told
returns-clause-told c = λ journal behind.
    let told = record c.note.new.told { lines = c.take_lines.result; time = c.time-told.result } in
    step_told c.args.machine.now c.take_noted.new.machine c.take_lines.new.self c.args.entry c.take_noted.ensures.code c.take_lines.ensures.rest c.in-Ok-take_noted.ensures.taken
    journal c.args.cells.now.items c.note.new.cells.items (account_of c.args.told.now) (account_of c.note.new.told) (account_of told) c.in-Ok.ensures.noted
    (record { actor = refl; reads = refl; changes = refl; assigned = refl }) c.take_lines.ensures.lines c.time-told.ensures behind
