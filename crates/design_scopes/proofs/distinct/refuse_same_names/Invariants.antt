-- The names of the objects so far are gathered, and are apart.
use Rattle.design_scopes.proofs.NamesApart.{AreApart}
use Rattle.design_scopes.proofs.distinct.refuse_same_names.Given as goal

abbrev pub invariant-loop-number : goal.invariant-loop-number
invariant-loop-number l = AreApart l.names.keys l.objects l.number
