-- The races so far, and once one text was looked at, an answer.
use Rattle.std.proofs.Common.{◌<◌, ◌⊎◌}
use Rattle.sharing.specs.Parts.{Extends}
use Rattle.causes.specs.Causes.{AreCauses, HasAnswer}
use Rattle.causes.proofs.causes.Causes.explain.Given as goal

abbrev pub invariant-loop-place : goal.invariant-loop-place
invariant-loop-place g l =
    AreCauses l.search.design.now l.search.limits l.search.bounds l.search.found.now l.self × Extends l.fn.self.causes.items l.self.causes.items
    × ((l.from < l.place) ⊎ HasAnswer l.search.found.now l.fn.self → HasAnswer l.search.found.now l.self)
