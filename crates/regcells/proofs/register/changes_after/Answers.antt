use Rattle.std.proofs.Common.{true, false, sym, ◌∙◌}
use Rattle.regcells.proofs.Lasts.{turn_change_changes}
use Rattle.regcells.proofs.register.changes_after.Goals as goal

pub returns-then-eq-clause-value : goal.returns-then-eq-clause-value
returns-then-eq-clause-value c = λ given h. sym (turn_change_changes true given c.args.turn_change c.args.last (sym c.eq.ensures ∙ c.if-eq.true) h)

pub returns-clause-value : goal.returns-clause-value
returns-clause-value c = λ given h. sym (turn_change_changes false given c.args.turn_change c.args.last (sym c.eq.ensures ∙ c.if-eq.false) h)
