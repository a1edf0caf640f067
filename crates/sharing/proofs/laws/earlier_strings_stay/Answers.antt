-- What is told stays, at each level.
use Rattle.sharing.proofs.Telling.{told-extends, AreTold-extends}
use Rattle.sharing.proofs.laws.earlier_strings_stay.Goals as goal

pub returns : goal.returns
returns c = λ old new short more held. (
  AreTold-extends old new short.levels _ more held,
  told-extends old new short.levels _ more held,
)
