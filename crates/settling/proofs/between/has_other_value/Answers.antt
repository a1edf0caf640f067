-- A value that is there, and is another one.
use Rattle.std.proofs.Common.{sym, ◌∙◌}
use Rattle.settling.proofs.Differing.{other_value}
use Rattle.settling.proofs.between.has_other_value.Goals as goal

pub returns-in-Some : goal.returns-in-Some
returns-in-Some c = other_value c.args.store.now c.args.register c.in-Some.old c.args.value.now c.eq.result (sym c.value.ensures ∙ c.in-Some.is) c.eq.ensures
