-- Where a walk lets time pass.
use Rattle.looseruns.specs.ObservedMoves.{PassesTimeFirst}
use Rattle.loosewalks.specs.declared.checkpoint.Walk.{Walk}
use Rattle.loosewalks.specs.Checkpoints.{moves_of}

-- where time passes at the first move of a walk alone, or nowhere, it does so when the walk has gone on
abbrev pub StillPassesTimeFirst : Walk → Walk → Type 0
StillPassesTimeFirst before after = PassesTimeFirst (moves_of before) → PassesTimeFirst (moves_of after)
