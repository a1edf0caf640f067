-- A value that is there, and another one.
use Rattle.std.proofs.Common.{sym, ◌∙◌}
use Rattle.settling.proofs.Differing.{differ_so}
use Rattle.settling.proofs.between.differs.Goals as goal

pub returns-in-Some : goal.returns-in-Some
returns-in-Some c = λ on.
    differ_so c.args.begin.now c.args.end.now c.args.register c.in-Some.value (sym c.value.ensures ∙ c.in-Some.is) (c.has_other_value.ensures on)
