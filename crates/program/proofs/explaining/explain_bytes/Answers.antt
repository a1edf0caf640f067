-- The journal was told, or told up to its fault.
use Rattle.std.proofs.Common.{◌∙◌, ap, subst, sym}
use Rattle.journal.specs.Counted.{held}
use Rattle.explain.specs.Wanted.{wanted_registers}
use Rattle.program.specs.Printed.{HasExplainedSome}
use Rattle.program.specs.Program.{status_of}
use Rattle.program.proofs.Explained.{explained_by, refused_of}
use Rattle.program.proofs.explaining.explain_bytes.Goals as goal

pub returns-in_ok-send_off-in-Ok-clause-ended : goal.returns-in_ok-send_off-in-Ok-clause-ended
returns-in_ok-send_off-in-Ok-clause-ended g c = λ from file journal names at opened asked.
    explained_by from file journal names c.args.subject (wanted_registers c.args.subject.registers) c.args.subject.presentation (g.R.Read.remaining (held c.args.journal.now)) (g.O.Write.contents c.args.out.now) (g.O.Write.contents c.explain-told.new.out)
    (g.O.Write.contents c.send_off.new.out) at opened asked c.in-Ok.ensures.lawful c.in-Ok.ensures.told c.send_off.ensures.kept

pub returns-in-Err-clause-refused : goal.returns-in-Err-clause-refused
returns-in-Err-clause-refused g c = λ from file journal names at opened asked e.
    subst (HasExplainedSome from file journal names c.args.subject.presentation (g.O.Write.contents c.args.out.now) (g.O.Write.contents c.explain-told.new.out)) (sym c.told_fault.ensures)
    (refused_of from file journal names c.args.subject (wanted_registers c.args.subject.registers) c.args.subject.presentation (g.R.Read.remaining (held c.args.journal.now)) (g.O.Write.contents c.args.out.now) (g.O.Write.contents c.explain-told.new.out) c.in-Err.fault
    at opened asked c.in-Err.ensures.nothing c.in-Err.ensures.stopped (sym (ap status_of c.told_fault.ensures) ∙ e))
