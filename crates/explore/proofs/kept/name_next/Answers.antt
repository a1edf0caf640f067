-- The text goes on by what was printed.
use Rattle.std.proofs.Common.{ℕ, List, subst}
use Rattle.explore.specs.NumberedTexts.{HasLonger}
use Rattle.explore.proofs.kept.name_next.Goals as goal

pub returns-clause-longer : goal.returns-clause-longer
returns-clause-longer g c = subst (λ (l : List ℕ). HasLonger c.args.told.now c.longer.new.self c.args.from l c.in_ok-text.text) c.deref.ensures.value c.in_ok-text.ensures
