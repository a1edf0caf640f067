-- A run under way, and where it may end.
use Rattle.std.specs.Prelude.{◌≡◌, ◌<◌, ◌≤◌, length, Option, Some, None, IfSome, Result, IfOk}
use Rattle.model.specs.declared.entry.Entry.{Entry}
use Rattle.model.specs.declared.end.Limits.{Limits}
use Rattle.model.specs.declared.end.End.{End}
use Rattle.model.specs.Runs.{last_time, refusal, EndsIn}
use Rattle.design.specs.Compiled.{design_of}
use Rattle.turn.specs.TurnLogs.{LogView}
use Rattle.regions.specs.StepLogs.{IsTurnGiven}
use Rattle.regions.specs.Machine.{state_at}
use Rattle.runs.specs.Halting.{GoesOn}
use Rattle.runs.specs.RunRecords.{HasComeTo}
use Rattle.conflicts.specs.declared.journaled_machine.JournaledMachine.{JournaledMachine}

-- the limit of time, where there is one, isn't past the last time
abbrev pub HasTimeLimit : Limits → Type 0
HasTimeLimit limits = IfSome limits.until (λ until. until ≤ last_time)

-- a run is under way: its limit of time isn't past the last time, and its machine stands behind its journal, which is lawful and in
-- time
abbrev pub IsUnderWay : JournaledMachine → Type 0
IsUnderWay run = HasTimeLimit run.limits × HasComeTo run.limits run.journal.items run.machine

-- a run under way has room for an entry more, and one may be next in time
abbrev pub MayTakeMore : JournaledMachine → Type 0
MayTakeMore run = IsUnderWay run × (length run.journal.items < run.limits.max_entries) × GoesOn run.limits (state_at run.machine)

-- it may take this entry, which the rules permit
abbrev pub MayTake : JournaledMachine → Entry → Type 0
MayTake run entry = MayTakeMore run × (refusal (state_at run.machine) entry ≡ None)

-- a run went on, or stayed: it is under way, as one of the same design and within the same limits
abbrev pub HasGoneOn : JournaledMachine → JournaledMachine → Type 0
HasGoneOn old new = IsUnderWay new × (new.machine.code ≡ old.machine.code) × (new.limits ≡ old.limits)

-- a log that is given is that of the turn that an entry takes where a run stands
abbrev pub IsGivenLog : JournaledMachine → Entry → Option LogView → Type 0
IsGivenLog run entry log = IfSome log (λ turn. IsTurnGiven run.machine.code (state_at run.machine) entry (Some turn))

-- a run may end in this way where its machine stands
abbrev pub EndsAt : JournaledMachine → End → Type 0
EndsAt run end = EndsIn (design_of run.machine.code) run.limits (length run.journal.items) (state_at run.machine) end

-- a run went on, or stayed, and where an end is answered, it may end in this way
abbrev pub HasGoneTo : JournaledMachine → JournaledMachine → Option End → Type 0
HasGoneTo old new end = HasGoneOn old new × IfSome end (EndsAt new)

-- so it is unless memory was refused, and then it went on too, or stayed
abbrev pub HasFollowed : {E : Type 0} → JournaledMachine → JournaledMachine → Result (Option End) E → Type 0
HasFollowed old new answer = HasGoneOn old new × IfOk answer (λ end. IfSome end (EndsAt new))
