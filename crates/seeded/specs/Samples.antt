-- What several seeds gave.
use Rattle.std.specs.Prelude.{List}
use Rattle.std.specs.List.{Contains, Any}
use Rattle.runs.specs.declared.run.RunRecord.{RunRecord}
use Rattle.runs.specs.Compared.{AreLike, IsWhole}

-- a run that was cut off gives way to one that came to its end
abbrev pub GivesWay : RunRecord → RunRecord → Type 0
GivesWay a b = (IsWhole a → ⊥) × IsWhole b

-- each run of a list that came to its end is in another list too
abbrev pub AreStillIn : List RunRecord → List RunRecord → Type 0
AreStillIn old new = (run : RunRecord) → Contains old run → IsWhole run → Contains new run

-- where a run came to its end, a list has one of its lines and its end
abbrev pub IsRepresented : List RunRecord → RunRecord → Type 0
IsRepresented kept run = IsWhole run → Any (λ one. AreLike one run) kept
