-- The lines behind the last entry: how a run stands, or why an entry isn't lawful.
use Rattle.std.specs.Prelude.{◌≡◌, ℕ, ◌==◌, ◌↔◌, Bool, true, false, if◌then◌else◌, List, [], ◌∷◌, ◌++◌, length, None, codes, decimal}
use Rattle.std.specs.List.{Contains}
use Rattle.model.specs.declared.entry.Entry.{Entry}
use Rattle.model.specs.declared.entry.Refusal.TheVariants.{NotActive, EarlierUpdate, NotDue, WrongTime, PastLimit, Finished}
use Rattle.model.specs.States.{Action, Evaluate, Update, Event, State}
use Rattle.model.specs.Runs.{is_quiet, refusal}
use Rattle.regions.specs.Machine.{AreInOrder}
use Rattle.replay.specs.declared.fault.Cause.{Cause}
use Rattle.replay.specs.declared.fault.Cause.TheVariants.{Refused, TooLong, TooMany, ApplyMemory, Memory, Start}
use Rattle.replay.specs.declared.fault.ReplayFault.{ReplayFault}
use Rattle.explain.specs.declared.phrases.SourceNames.{SourceNames}
use Rattle.explain.specs.Phrases.{process_text}
use Rattle.explain.specs.EntryLines.{update_text}

-- after how many entries and at which time a run stands
abbrev pub standing_text : ℕ → ℕ → List ℕ
standing_text count time = codes " after " ++ decimal count ++ codes " entries at time " ++ decimal time ++ codes "\n"

-- what is said of so many entries that may be next, behind their number
abbrev pub may_be_next : ℕ → List ℕ
may_be_next next = if next == 1 then codes " entry may be next\n" else codes " entries may be next\n"

-- how many entries may be next
abbrev pub next_text : ℕ → List ℕ
next_text next = if next == 0 then codes "no entry may be next\n" else codes "can go on: " ++ decimal next ++ may_be_next next

-- how a run stands that isn't finished
abbrev pub quiet_text : Bool → ℕ → ℕ → ℕ → List ℕ
quiet_text true count time next = codes "quiet" ++ standing_text count time
quiet_text false count time next = next_text next

-- how a run stands: finished, quiet, or with entries that may be next
abbrev pub end_text : Bool → Bool → ℕ → ℕ → ℕ → List ℕ
end_text true quiet count time next = codes "finished" ++ standing_text count time
end_text false quiet count time next = quiet_text quiet count time next

-- These are all entries that the rules permit in a state, each once.
pub record AreNext (s : State) (next : List Entry) : Type 0 where
  pub permitted : (entry : Entry) → Contains next entry ↔ (refusal s entry ≡ None)
  pub order : AreInOrder next

-- A text says how a run stands that has come to a state by so many entries.
pub record IsEndText (s : State) (count : ℕ) (text : List ℕ) : Type 0 where
  pub next : List Entry
  pub are_next : AreNext s next
  pub text_is : text ≡ end_text s.finished (is_quiet s) count s.time (length next)

-- Such a text was put behind another.
pub record PutsEnd (s : State) (count : ℕ) (old new : List ℕ) : Type 0 where
  pub text : List ℕ
  pub is_text : IsEndText s count text
  pub put : new ≡ old ++ text

-- what is said of an entry that isn't taken
abbrev pub said_text : Cause → List ℕ
said_text (Refused r) = codes " isn't lawful"
said_text TooLong = codes " isn't lawful"
said_text TooMany = codes " isn't taken"
said_text ApplyMemory = codes " isn't taken"
said_text Memory = codes " isn't taken"
said_text (Start refused) = codes " isn't taken"

-- the name of a cause, behind a colon; of a refusal it is the rule that the entry breaks (11.4)
abbrev pub code_text : Cause → List ℕ
code_text (Refused NotActive) = codes ": J1 event not active"
code_text (Refused EarlierUpdate) = codes ": J2 earlier update active"
code_text (Refused NotDue) = codes ": J3 region change not due"
code_text (Refused WrongTime) = codes ": J4 wrong time"
code_text (Refused PastLimit) = codes ": J5 time limit"
code_text (Refused Finished) = codes ": J6 finished"
code_text TooLong = codes ": turn too long"
code_text TooMany = codes ": too many entries"
code_text ApplyMemory = codes ": memory"
code_text Memory = codes ": memory"
code_text (Start refused) = codes ": memory"

-- that rule in words, or what else is the cause
abbrev pub rule_text : Cause → List ℕ
rule_text (Refused NotActive) = codes "an entry takes an event that is active"
rule_text (Refused EarlierUpdate) = codes "active updates are taken in the order of their numbers"
rule_text (Refused NotDue) = codes "a region changes once each earlier one is empty and it has an event"
rule_text (Refused WrongTime) = codes "time advances to the least time of a future event"
rule_text (Refused PastLimit) = codes "no time goes past 281474976710656"
rule_text (Refused Finished) = codes "nothing follows $finish"
rule_text TooLong = codes "a turn has at most 65536 counted steps"
rule_text TooMany = codes "a machine takes at most 4294967295 entries"
rule_text ApplyMemory = codes "memory was refused"
rule_text Memory = codes "memory was refused"
rule_text (Start refused) = codes "memory was refused"

-- what an event does
abbrev pub action_text : SourceNames → Action → List ℕ
action_text names (Evaluate p) = codes "turn of " ++ process_text names p
action_text names (Update r v) = update_text names r v

-- an event: its number, and what it does
abbrev pub event_text : SourceNames → Event → List ℕ
event_text names e = codes "  event " ++ decimal e.0 ++ codes ", " ++ action_text names e.1

-- a line for each event of a region
abbrev pub region_lines : SourceNames → List ℕ → List Event → List ℕ
region_lines names region [] = []
region_lines names region (e ∷ es) = region ++ (event_text names e ++ (codes "\n" ++ region_lines names region es))

-- how many lines of the monitor region are due
abbrev pub strobes_text : ℕ → List ℕ
strobes_text count = if count == 0 then [] else codes "  monitor  lines of $strobe to be made: " ++ decimal count ++ codes "\n"

-- the line of an event that is due later
abbrev pub due_text : SourceNames → ℕ × Event → List ℕ
due_text names d = codes "  future  time " ++ decimal d.0 ++ event_text names d.1 ++ codes "\n"

-- a line for each of them
abbrev pub future_lines : SourceNames → List (ℕ × Event) → List ℕ
future_lines names [] = []
future_lines names (d ∷ ds) = due_text names d ++ future_lines names ds

-- a line for each event of each region (11.3)
abbrev pub events_text : SourceNames → State → List ℕ
events_text names s =
    region_lines names (codes "  active") s.active ++ region_lines names (codes "  inactive") s.inactive
    ++ region_lines names (codes "  nonblocking") s.nonblocking ++ strobes_text (length s.monitor)
    ++ future_lines names s.future_inactive ++ future_lines names s.future_nonblocking

-- whether there are such lines
abbrev pub title_text : Bool → List ℕ
title_text true = codes " no region has an event\n"
title_text false = codes " the regions have\n"

-- which entry isn't lawful, and the rule that it breaks
abbrev pub cause_text : ReplayFault → List ℕ
cause_text fault =
    codes "entry " ++ decimal fault.entry ++ said_text fault.cause ++ code_text fault.cause ++ codes ": " ++ rule_text fault.cause

-- so, with the events of each region before it
abbrev pub refusal_text : SourceNames → State → ReplayFault → List ℕ
refusal_text names s fault = cause_text fault ++ codes "\nat time " ++ decimal s.time ++ title_text (is_quiet s) ++ events_text names s
