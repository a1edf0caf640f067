-- Where a run may take no entry in time, and how it ends there.
use Rattle.std.specs.Prelude.{◌≡◌, ◌⊎◌, ℕ, ◌<◌, None}
use Rattle.model.specs.declared.entry.Entry.{Entry}
use Rattle.model.specs.declared.end.Limits.{Limits}
use Rattle.model.specs.declared.end.Why.TheVariants.{Finish, TooLong}
use Rattle.model.specs.declared.end.End.{End}
use Rattle.model.specs.declared.end.End.TheVariants.{Quiet, Stopped}
use Rattle.model.specs.Design.{Design}
use Rattle.model.specs.States.{State}
use Rattle.model.specs.Runs.{silent, refusal, IsTimely, HasLongTurn}
use Rattle.model.specs.Texts.{EndsHere}

-- the rules permit this entry here, and it is in time
abbrev pub MayBeNext : Limits → State → Entry → Type 0
MayBeNext limits s entry = (refusal s entry ≡ None) × IsTimely limits entry

-- the end is one that a run has however many entries it took
abbrev pub IsAtAnyCount : End → Type 0
IsAtAnyCount end = (end ≡ Quiet) ⊎ (end ≡ Stopped Finish)

-- A run halts here: no entry may be next in time. It ends in this way, where its limits leave room for an entry or where that
-- doesn't matter, and in no other.
pub record HaltsAt (design : Design) (limits : Limits) (s : State) (end : End) : Type 0 where
  pub nothing : (entry : Entry) → MayBeNext limits s entry → ⊥
  pub ends : (0 < limits.max_entries) ⊎ IsAtAnyCount end → EndsHere design limits (silent s) end
  pub only : (other : End) → EndsHere design limits (silent s) other → other ≡ end

-- A run goes on from here: an entry may be next in time, and each entry that the rules permit is in time.
pub record GoesOn (limits : Limits) (s : State) : Type 0 where
  pub entry : Entry
  pub next : MayBeNext limits s entry
  pub timely : (other : Entry) → refusal s other ≡ None → IsTimely limits other

-- where an entry may be next in time, a run ends only by a turn that is too long
abbrev pub OnlyLongTurnsEnd : Type 0
OnlyLongTurnsEnd =
    (design : Design) (limits : Limits) (s : State) (entry : Entry) (end : End) → MayBeNext limits s entry
    → EndsHere design limits (silent s) end → (p : ℕ) × (end ≡ Stopped (TooLong p)) × HasLongTurn design s p
