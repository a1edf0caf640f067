use Rattle.std.proofs.Common.{◌≡◌, true, rules}
use Rattle.program.specs.Findings.{IsLawfulShown}
use Rattle.program.proofs.Knowing.{all_with, known_added, run_lawful}
use Rattle.program.proofs.known.KnownTexts.add_run.Goals as goal

pub returns-clause-lawful : goal.returns-clause-lawful
returns-clause-lawful c = λ code limits is known.
    let whole : c.is_whole.result ≡ true = search rules in
    all_with (IsLawfulShown code limits) c.args.self.now.shown.items c.add.new.self.shown.items c.in_ok-one.one c.in_ok-add.ensures.each
    (run_lawful code limits c.args.run.now c.in_ok-one.one (c.is_whole.ensures.0 whole) c.in_ok-one.ensures is) known

pub returns-clause-known : goal.returns-clause-known
returns-clause-known c = known_added c.in_ok-add.field-0 c.add.new.self.most c.add.new.self.shown.items c.args.run.now c.in_ok-one.one c.in_ok-one.ensures c.in_ok-add.ensures.there c.in_ok-add.ensures.full
