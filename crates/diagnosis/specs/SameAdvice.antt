-- When two notes are of one kind.
use Rattle.std.specs.Prelude.{Bool}
use Rattle.diagnosis.specs.declared.words.Advice.{Advice}
use Rattle.diagnosis.specs.contracts.words.Advice.{the_type}
use denote.Enum.Bare.{sameb}

-- Whether two advices are the same.
unfoldable pub same_advice : Advice → Advice → Bool
same_advice = sameb the_type
