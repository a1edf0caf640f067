-- Which entry of a journal gave a register its value.
use Rattle.std.specs.Prelude.{ℕ, zero, suc, ◌+◌, ◌==◌, Bool, true, false, List, take, slice_get, Option, Some, None, option_and_then}
use Rattle.std.specs.List.{list_any}
use Rattle.model.specs.declared.entry.Entry.{Entry}
use Rattle.model.specs.declared.entry.Entry.TheVariants.{Turn, Update, ActivateInactive, ActivateNba, ActivateMonitor, Advance}
use Rattle.model.specs.Design.{Design}
use Rattle.model.specs.States as states
use Rattle.model.specs.Runs.{Effect, action_in, run, step}
use Rattle.steps.specs.declared.entry_account.EntryActor.{EntryActor}
use Rattle.steps.specs.declared.entry_account.EntryActor.TheVariants as actors
use Rattle.differences.specs.declared.value_difference.ValueGiver.{ValueGiver}

-- the process of an evaluation event
abbrev pub evaluated_process : Option states.Action → Option ℕ
evaluated_process (Some (states.Evaluate p)) = Some p
evaluated_process (Some (states.Update r v)) = None
evaluated_process None = None

-- the process whose turn an entry is, which is taken in a state, or none where it is no turn
abbrev pub turning_process : states.State → Entry → Option ℕ
turning_process s (Turn number) = evaluated_process (action_in s.active number)
turning_process s (Update number) = None
turning_process s ActivateInactive = None
turning_process s ActivateNba = None
turning_process s ActivateMonitor = None
turning_process s (Advance time) = None

-- the process by whose turn an entry is done, or none where it is no turn
abbrev pub actor_process : EntryActor → Option ℕ
actor_process (actors.Turn p) = Some p
actor_process (actors.Update r v) = None
actor_process actors.Regions = None

-- an entry, where it changes a register
abbrev pub giver_where : Bool → ValueGiver → Option ValueGiver
giver_where true g = Some g
giver_where false g = None

-- the entry at a place, where what comes of it changes a register
abbrev pub giver_by : ℕ → ℕ → states.State → Entry → Option Effect → Option ValueGiver
giver_by r place s entry (Some effect) = giver_where (list_any (λ c. c.0 == r) effect.changes) (record { entry = place + 1; process = turning_process s entry })
giver_by r place s entry None = None

-- the entry at a place of a journal, behind those before it, where it changes a register
abbrev pub giver_at : Design → List Entry → ℕ → ℕ → Option ValueGiver
giver_at design journal r place =
    option_and_then
    (λ before. option_and_then (λ entry. giver_by r place before.state entry (step design before.state entry)) (slice_get journal place))
    (run design (take place journal))

-- the later one of two, where there are both
abbrev pub later_giver : Option ValueGiver → Option ValueGiver → Option ValueGiver
later_giver (Some g) earlier = Some g
later_giver None earlier = earlier

-- the last of so many entries of a journal that changes a register, if one does
abbrev pub last_giver : Design → List Entry → ℕ → ℕ → Option ValueGiver
last_giver design journal r zero = None
last_giver design journal r (suc n) = later_giver (giver_at design journal r n) (last_giver design journal r n)
