-- Of the choices so far each that is wanted was taken.
use Rattle.std.proofs.Common.{◌≡◌, ◌⊎◌, true, take}
use Rattle.std.specs.List.{All, Contains}
use Rattle.certificates.specs.Coming.{wakes_actor}
use Rattle.looseparts.proofs.acting.waiting_of.Given as goal

abbrev pub invariant-loop-choice : goal.invariant-loop-choice
invariant-loop-choice l =
    All (λ a. Contains l.group a ⊎ (wakes_actor l.fn.room.note a ≡ true) → Contains l.next.items a) (take l.choice-index l.choice-items)
