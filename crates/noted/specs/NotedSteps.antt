-- Notes of steps, and why an entry isn't taken with a note.
use Rattle.std.specs.Prelude.{◌≡◌, ℕ, ◌+◌, ◌<◌, Bool, false, if◌then◌else◌, List, [], ◌∷◌, ◌++◌, map, length, Option, Some, None, IsSome, slice_index_or}
use Rattle.std.specs.List.{All}
use Rattle.logic4.specs.Vector.{Vector}
use Rattle.model.specs.declared.entry.Entry.{Entry}
use Rattle.model.specs.declared.entry.Entry.TheVariants as entries
use Rattle.model.specs.Design.{Trigger}
use Rattle.model.specs.Expressions.{Store}
use Rattle.model.specs.Turns.{contains}
use Rattle.model.specs.Turns as turns
use Rattle.model.specs.States.{Action, Evaluate, Continuation, State, triggers_of}
use Rattle.model.specs.Runs.{action_in, has_any, turn_of, refusal, step}
use Rattle.design.specs.Compiled.{Compiled, design_of}
use Rattle.design.specs.Fits.{FitsRegister}
use Rattle.turn.specs.Reads.{registers}
use Rattle.turn.specs.TurnLogs.{LogView, assignment_of, wait_of}
use Rattle.regions.specs.Evaluations.{made_event}
use Rattle.regions.specs.Machine.{MachineView, most_entries, state_at, IsChange, IsNotTaken}
use Rattle.regions.specs.MadeEvents.{made_events}
use Rattle.regions.specs.StepLogs.{IsTaken}
use Rattle.loose.specs.declared.transition.LooseTransition.TheVariants.{Process}
use Rattle.footprints.specs.Footprints.{RegisterChange, Footprint, changes_made, woken_by_changes, awaited_by_all, assigned, written_registers, turn_footprint, footprint}
use Rattle.certificates.specs.Notes.{NoteView, TellsOf}
use Rattle.heldmoves.specs.WithoutHeld.{without_held}
use Rattle.noted.specs.declared.fault.NotedFault.{NotedFault}
use Rattle.noted.specs.declared.fault.NotedFault.TheVariants.{NotTaken, NoteMemory, NoEvent}

-- the note that says what a footprint says, and no more
abbrev pub note_of : Footprint → NoteView
note_of f =
    record {
      owner = f.owner;
      uses = f.uses;
      writes = written_registers f;
      changes = f.changes;
      awaits = f.awaits;
      woken = f.woken;
      ended = f.ended;
      assigns = f.assigns;
      prints = has_any f.lines;
      strobes = f.strobes;
      finishes = f.finishes;
    }

-- In a state an entry has a footprint, the note is that footprint's, and it tells of it.
pub record IsEntryNoted (class : ℕ → ℕ) (code : Compiled) (s : State) (entry : Entry) (note : NoteView) : Type 0 where
  pub own : Footprint
  pub own_is : footprint class (design_of code) s entry ≡ Some own
  pub is : note ≡ note_of own
  pub tells : TellsOf note own

-- an entry takes no event of a process that is held
abbrev pub IsOfOther : (ℕ → Bool) → State → Entry → Type 0
IsOfOther held s (entries.Turn number) = (p : ℕ) → action_in s.active number ≡ Some (Evaluate p) → held p ≡ false
IsOfOther held s entry = Unit {0}

-- Why an entry isn't taken with a note: the machine doesn't take it; or memory is refused to the note, and it has a step; or it is a
-- change of the regions.
abbrev pub IsNotNoted : MachineView → Entry → NotedFault → Type 0
IsNotNoted p entry (NotTaken fault) = IsNotTaken p entry fault
IsNotNoted p entry NoteMemory = IsSome (step (design_of p.code) (state_at p) entry)
IsNotNoted p entry NoEvent = IsChange entry

-- A machine took an entry with a note: it is one step of the rules, which the machine counts and of which it tells the events that came, and
-- the note is the entry's footprint where the machine stood, without what is held.
pub record IsTakenNoted (class : ℕ → ℕ) (held : ℕ → Bool) (old : MachineView) (entry : Entry) (new : MachineView) (note : NoteView) : Type 0 where
  pub taken : IsTaken old.code (state_at old) old.lines entry (state_at new) new.lines
  pub noted : IsEntryNoted class old.code (without_held held (state_at old)) entry note
  pub entries : new.core.entries ≡ old.core.entries + 1
  pub made : map made_event new.made ≡ made_events old.core new.core
  pub code : new.code ≡ old.code
  pub few : old.core.entries < most_entries

-- An entry wasn't taken, for a reason, and the machine stands where it stood.
pub record IsLeftOut (old : MachineView) (entry : Entry) (new : MachineView) (fault : NotedFault) : Type 0 where
  pub stop : IsNotNoted old entry fault
  pub same : new ≡ record old { made = new.made }

-- each value that is written is one of its register, which the store has
abbrev pub AreWritesOf : Store → List (ℕ × Vector) → Type 0
AreWritesOf store writes = All (λ w. FitsRegister (map length store) w.0 w.1) writes

-- each change keeps the width of its register
abbrev pub KeepWidths : List RegisterChange → Type 0
KeepWidths changes = All (λ c. length c.before ≡ length c.after) changes

-- what the process with a number waits for
abbrev pub awaited_at : List Continuation → ℕ → List Trigger
awaited_at processes p = (slice_index_or processes p (record { remainder = []; triggers = [] })).triggers

-- what is there where a process isn't among these
abbrev pub unless_among : {A : Type 0} → List ℕ → ℕ → Option A → Option A
unless_among held p found = if contains held p then None else found

-- nothing is noted of writes
abbrev pub HasNoEffects : NoteView → Type 0
HasNoEffects note = record { writes : note.writes ≡ []; changes : note.changes ≡ []; woken : note.woken ≡ [] }

-- a note, and what writes do in a state
abbrev pub with_effects : NoteView → State → List (ℕ × Vector) → NoteView
with_effects note s writes =
    record note {
      writes = map (λ w. w.0) writes;
      changes = changes_made s.store writes;
      woken = woken_by_changes (changes_made s.store writes) s.processes;
      ended = note.ended ++ awaited_by_all s.processes (woken_by_changes (changes_made s.store writes) s.processes);
    }

-- a note of what a turn has of its own, by its log and the triggers of the event controls
abbrev pub own_note : (ℕ → ℕ) → List (List Trigger) → State → ℕ → LogView → NoteView
own_note class controls s p log =
    record {
      owner = Process p;
      uses = registers log.reads;
      writes = [];
      changes = [];
      awaits = triggers_of (wait_of controls log.suspend);
      woken = [];
      ended = awaited_by_all s.processes (p ∷ []);
      assigns = assigned class (map assignment_of log.nbas);
      prints = has_any log.lines;
      strobes = has_any log.strobes;
      finishes = log.finish;
    }

-- a process has a short turn in a state, and the note is that of its footprint
pub record IsTurnNoted (class : ℕ → ℕ) (code : Compiled) (s : State) (p : ℕ) (note : NoteView) : Type 0 where
  pub turn : turns.Turn
  pub is_turn : turn_of (design_of code) s p ≡ Some turn
  pub is : note ≡ note_of (turn_footprint class s p turn)

-- the rules permit the update with a number, which gives a register of the design a value of its width
pub record IsFirstUpdated (code : Compiled) (s : State) (number : ℕ) (x : ℕ × Vector) : Type 0 where
  pub permitted : refusal s (entries.Update number) ≡ None
  pub action : action_in s.active number ≡ Some (Action.Update x.0 x.1)
  pub fits : FitsRegister code.widths x.0 x.1
