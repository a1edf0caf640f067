-- A run that was cut off gives way.
use Rattle.std.proofs.Common.{◌⊎◌, inl, inr}
use Rattle.runs.specs.declared.run.RunRecord.{RunRecord}
use Rattle.runs.specs.Compared.{AreLike, IsWhole, AreDifferentRuns}
use Rattle.seeded.specs.Samples.{GivesWay}
use Rattle.runs.proofs.Parting.{whole_decided}

other_cases : (a b : RunRecord) → IsWhole b → (AreLike a b → ⊥) → IsWhole a ⊎ (IsWhole a → ⊥) → AreDifferentRuns a b ⊎ GivesWay a b
other_cases a b whole unlike (inl whole') = inl (inr (whole', whole, λ lines ends. unlike (lines, ends)))
other_cases a b whole unlike (inr cut) = inr (cut, whole)

-- from one that came to its end, another one is apart or gives way where they aren't alike
pub unlike_other : (a b : RunRecord) → IsWhole b → (AreLike a b → ⊥) → AreDifferentRuns a b ⊎ GivesWay a b
unlike_other a b whole unlike = other_cases a b whole unlike (whole_decided a)
