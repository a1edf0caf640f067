-- What a turn read without the lock.
use Rattle.std.proofs.Common.{◌≡◌, List, sym, subst}
use Rattle.std.specs.Prelude.{Result, MatchResult}
use Rattle.logic4.specs.Vector.{Vector}
use Rattle.design.specs.Compiled.{Compiled}
use Rattle.turn.specs.TurnLogs.{LogView}
use Rattle.turn.specs.declared.log.FillFault.{FillFault}
use Rattle.turn.specs.Reads.{GaveAll}
use Rattle.turn.specs.declared.log.FillFault.TheVariants as fault
use Rattle.runstate.specs.Histories.{IsRead}

-- what the reader gave, the seat gave
pub read_by : (code : Compiled) (s t : List (List Vector)) (log : LogView) (r : Result (Unit {0}) FillFault) → t ≡ s
    → MatchResult r (λ _. GaveAll (IsRead code s) log.reads) (λ f. f ≡ fault.TooLong → GaveAll (IsRead code s) log.reads)
    → MatchResult r (λ _. GaveAll (IsRead code t) log.reads) (λ f. f ≡ fault.TooLong → GaveAll (IsRead code t) log.reads)
read_by code s t log r e m =
    subst (λ fresh. MatchResult r (λ _. GaveAll (IsRead code fresh) log.reads) (λ f. f ≡ fault.TooLong → GaveAll (IsRead code fresh) log.reads)) (sym e) m
