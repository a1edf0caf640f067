-- The event control is that one.
use Rattle.std.proofs.Common.{Some, ap, ◌∙◌}
use Rattle.std.proofs.lemmas.Bool.{eqb-true}
use Rattle.settling.proofs.sleepers.waits_by.Goals as goal

pub returns-in-Some : goal.returns-in-Some
returns-in-Some c = λ on. c.in-Some.is ∙ ap Some (eqb-true c.in-Some.number c.args.control on)
