-- Another register, another value, or a move through both.
use Rattle.std.proofs.Common.{sym, ◌∙◌}
use Rattle.passing.proofs.Closed.{differ_never}
use Rattle.passing.proofs.moves.goes_on_by.Goals as goal

pub returns-then-one-other : goal.returns-then-one-other
returns-then-one-other c = λ on register next. absurd (c.if-one-other.true register)

pub returns-then-ne : goal.returns-then-ne
returns-then-ne c = λ on register next. absurd (differ_never c.args.one.now.after c.args.other.now.before (sym c.ne.ensures ∙ c.if-ne.true) next)

pub returns : goal.returns
returns c = λ on register next. sym c.leads.ensures ∙ on
