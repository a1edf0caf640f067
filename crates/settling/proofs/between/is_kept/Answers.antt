-- A value that is there, and the same one.
use Rattle.std.proofs.Common.{sym, ◌∙◌}
use Rattle.settling.proofs.Differing.{same_so}
use Rattle.settling.proofs.between.is_kept.Goals as goal

pub returns-in-Some : goal.returns-in-Some
returns-in-Some c = λ on.
    same_so c.args.begin.now c.args.end.now c.args.register c.in-Some.value (sym c.value.ensures ∙ c.in-Some.is) (c.has_value.ensures on)
