-- What was shown so far has its journals.
use Rattle.std.proofs.Common.{◌≡◌, ◌++◌, List}
use Rattle.std.specs.Vec.Iter.{into_iter_items}
use Rattle.explore.specs.declared.Shown.{Shown}
use Rattle.loose.specs.declared.transition.LooseTransition.{LooseTransition}
use Rattle.lawful.specs.Journals.{AreShownLawfully}
use Rattle.lawful.proofs.journals.with_journals.Given as goal

abbrev pub invariant-loop-loosely : goal.invariant-loop-loosely
invariant-loop-loosely g l =
    (done : List (Shown LooseTransition g.row.T-End.Denot)) × (done ++ into_iter_items l.loosely-iterator ≡ l.fn.shown.items)
    × AreShownLawfully (g.T.RunTelling.is_journal l.telling l.scope.design.now l.scope.limits) done l.lawful.items
