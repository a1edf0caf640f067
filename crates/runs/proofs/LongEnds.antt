-- A run that ends by a turn that is too long.
use Rattle.std.proofs.Common.{◌≡◌, ℕ, List, Some, None, subst}
use Rattle.model.specs.declared.entry.Entry.{Entry}
use Rattle.model.specs.declared.entry.Entry.TheVariants.{Turn}
use Rattle.model.specs.declared.end.Why.TheVariants.{TooLong}
use Rattle.model.specs.declared.end.End.{End}
use Rattle.model.specs.declared.end.End.TheVariants.{Stopped}
use Rattle.model.specs.Design.{Design}
use Rattle.model.specs.States.{State, Evaluate}
use Rattle.model.specs.Runs.{action_in, turn_of}
use Rattle.design.specs.Compiled.{design_of}
use Rattle.regions.specs.declared.state.MadeEvent.{MadeEvent}
use Rattle.regions.specs.Machine.{MachineView, state_at}
use Rattle.runs.specs.LongEnds.{EndsByEntry}

-- the turn of an evaluation that has no short one is too long
pub long_turn : (design : Design) (s : State) (entry : Entry) (n p : ℕ) → entry ≡ Turn n → action_in s.active n ≡ Some (Evaluate p) → turn_of design s p ≡ None
    → EndsByEntry design s entry (Stopped (TooLong p))
long_turn design s entry n p is there none = (n, is, there, none)

-- what an entry that isn't taken leaves ends by it too
pub still_long : (old new : MachineView) (made : List MadeEvent) (entry : Entry) (end : End) → new ≡ record old { made = made }
    → EndsByEntry (design_of new.code) (state_at new) entry end → EndsByEntry (design_of old.code) (state_at old) entry end
still_long old new made entry end is long = subst (λ (p : MachineView). EndsByEntry (design_of p.code) (state_at p) entry end) is long
