-- Steps of a machine that are taken while combinational processes are held, and the way through all that is active behind which these are
-- taken.
use Rattle.std.specs.Prelude.{◌≡◌, ℕ, ◌+◌, ◌<◌, ◌⊎◌, true, false, List, [], ◌∷◌, ◌++◌, length, Some, slice_get, slice_index_or}
use Rattle.std.specs.List.{All}
use Rattle.model.specs.declared.end.Limits.{Limits}
use Rattle.model.specs.Turns.{contains}
use Rattle.orders.specs.Alike.{IsInOrder}
use Rattle.phases.specs.Phase.{IsActive, SettleBetween}
use Rattle.design.specs.Compiled.{design_of}
use Rattle.combinational.specs.declared.block.Logic.{Logic}
use Rattle.combinational.specs.declared.network.Network.{Network}
use Rattle.regions.specs.declared.queue.Evaluation.{Evaluation}
use Rattle.regions.specs.Machine.{MachineView, state_at}
use Rattle.regions.specs.StepLogs.{IsTaken}
use Rattle.settling.specs.declared.sleepers.Sleeper.{Sleeper}
use Rattle.settling.specs.Settling.{block_at, MayBeHeld, AreSleepers, sleeping, HaveOutputs}
use Rattle.settling.specs.Settled.{IsBeginOf}
use Rattle.settling.specs.Waiting.{WaitsForNone}
use Rattle.loose.specs.declared.transition.LooseTransition.{LooseTransition}
use Rattle.traces.specs.Traces.{IsRunOfMoves}
use Rattle.footprints.specs.Footprints.{Footprint, changed_registers}
use Rattle.certificates.specs.Notes.{NoteView, TellOfAll}
use Rattle.certificates.specs.Certified.{Certify}
use Rattle.certificates.specs.CertificateLaws.{NobodyWaits}
use Rattle.heldmoves.specs.WithoutHeld.{without_held}
use Rattle.heldmoves.specs.HeldMoves.{held_moves}
use Rattle.noted.specs.NotedSteps.{IsEntryNoted, note_of}
use Rattle.passing.specs.SleepThroughNotes.{SleepThroughNotes}
use Rattle.loosewalks.specs.declared.active.NamedEntry.{NamedEntry}
use Rattle.loosewalks.specs.declared.held.HeldStart.{HeldStart}
use Rattle.loosewalks.specs.LooseWalking.{TakesMoves, HasPassedBy}

-- an evaluation is one of these, and of a process that isn't held
abbrev pub IsUnheldOf : List ℕ → List Evaluation → Evaluation → Type 0
IsUnheldOf held evaluations e =
    (place : ℕ) × (place < length evaluations) × (e ≡ slice_index_or evaluations place e) × (contains held e.process ≡ false)

-- each of these evaluations is of a process that is held
abbrev pub AllAreHeld : List ℕ → List Evaluation → Type 0
AllAreHeld held evaluations =
    (place : ℕ) (d : Evaluation) → place < length evaluations → contains held (slice_index_or evaluations place d).process ≡ true

-- The outputs of a process are in a cone if it is pending, or waits for a register that is touched, or for one in the cone.
pub record HasConeAt (network : Network) (pending touched cone : List ℕ) (p : ℕ) : Type 0 where
  pub begins :
      (r : ℕ) (logic : Logic) → slice_get network.logics.items p ≡ Some (Some logic) → contains pending p ≡ true
      → contains logic.outputs.items r ≡ true → contains cone r ≡ true
  pub goes_on :
      (q r : ℕ) (logic : Logic) → slice_get network.logics.items p ≡ Some (Some logic) → contains logic.inputs.items q ≡ true
      → (contains touched q ≡ true) ⊎ (contains cone q ≡ true) → contains logic.outputs.items r ≡ true → contains cone r ≡ true

-- A noted step keeps off some outputs: it uses none in a cone, writes none, doesn't go on to wait for one, and doesn't finish. What it
-- changes is touched.
pub record NoteKeepsOff (outputs cone touched : List ℕ) (note : NoteView) : Type 0 where
  pub uses : (r : ℕ) → contains note.uses r ≡ true → contains cone r ≡ false
  pub writes : (r : ℕ) → contains note.writes r ≡ true → contains outputs r ≡ false
  pub waits : WaitsForNone note.awaits outputs
  pub goes_on : note.finishes ≡ false
  pub changes : (r : ℕ) → contains (changed_registers note.changes) r ≡ true → contains touched r ≡ true

-- noted steps keep off what is held, of which these processes were pending, with this cone
pub record KeptOff (network : Network) (held pending touched cone : List ℕ) (notes : List NoteView) : Type 0 where
  pub outputs : List ℕ
  pub outputs_are : HaveOutputs network held outputs
  pub has_cone : (p : ℕ) → contains held p ≡ true → HasConeAt network pending touched cone p
  pub each : All (NoteKeepsOff outputs cone touched) notes

-- A machine took an entry while processes are held. Its note stands behind others, and its transition behind others.
pub record HasAddedHeldNote (class : ℕ → ℕ) (held : List ℕ) (old : MachineView) (named : NamedEntry) (new : MachineView) (notes more : List NoteView) (way longer : List LooseTransition) : Type 0 where
  pub note : NoteView
  pub noted : IsEntryNoted class old.code (without_held (contains held) (state_at old)) named.entry note
  pub taken : IsTaken old.code (state_at old) old.lines named.entry (state_at new) new.lines
  pub count : new.core.entries ≡ old.core.entries + 1
  pub notes_are : more ≡ notes ++ note ∷ []
  pub way_is : longer ≡ way ++ named.transition ∷ []

-- notes say what the footprints of these steps say, and no more
abbrev pub AreNotesOf : List NoteView → List (LooseTransition × Footprint) → Type 0
AreNotesOf [] [] = Unit {0}
AreNotesOf (note ∷ notes) (x ∷ w) = (note ≡ note_of x.1) × AreNotesOf notes w
AreNotesOf _ _ = ⊥

-- the steps of a machine, while processes are held, are those of which these notes tell
pub record AreOthersSteps (class : ℕ → ℕ) (held : List ℕ) (old : MachineView) (order : IsInOrder (state_at old)) (notes : List NoteView) (new : MachineView) : Type 0 where
  pub steps : List (LooseTransition × Footprint)
  pub new_order : IsInOrder (state_at new)
  pub runs : IsRunOfMoves (held_moves class (design_of old.code) (contains held)) (state_at old, order) steps (state_at new, new_order)
  pub tells : TellOfAll notes steps
  pub exact : AreNotesOf notes steps

-- a machine took the events of these moves while processes are held, with these notes
pub record TakesOthers (class : ℕ → ℕ) (limits : Limits) (held : List ℕ) (old : MachineView) (notes : List NoteView) (moves : List LooseTransition) (new : MachineView) : Type 0 where
  pub takes : TakesMoves class limits old moves new
  pub noted : (order : IsInOrder (state_at old)) → AreOthersSteps class held old order notes new

-- a machine did so until nothing else was active, with notes that certify
pub record HasTakenOthers (class : ℕ → ℕ) (limits : Limits) (held : List ℕ) (old : MachineView) (notes : List NoteView) (moves : List LooseTransition) (new : MachineView) : Type 0 where
  pub others : TakesOthers class limits held old notes moves new
  pub certify : Certify notes
  pub over : NobodyWaits class (without_held (contains held) (state_at new))

-- wherever a machine took the events of some moves to come to where it stood, it takes those of more moves to come to where it stands
abbrev pub TakesOn : (ℕ → ℕ) → MachineView → List LooseTransition → MachineView → List LooseTransition → Type 0
TakesOn class old moves new more =
    (limits : Limits) (begun : MachineView) → old.code ≡ begun.code → TakesMoves class limits begun moves old
    → TakesMoves class limits begun more new

-- What is kept of where a machine stood with processes that are held: which were pending, which others sleep, both that are left aside, the
-- time, and the values.
pub record IsHeldStart (old : MachineView) (network : Network) (held : List ℕ) (start : HeldStart) : Type 0 where
  pub active : (p : ℕ) → IsActive (state_at old) p → contains start.pending.items p ≡ true
  pub sleepers : AreSleepers old.code (state_at old) network held start.sleepers.items
  pub aside : start.aside.items ≡ held ++ sleeping start.sleepers.items
  pub time : start.time ≡ (state_at old).time
  pub begins : IsBeginOf old start.begin

-- A machine took the events of these moves until none was active. The first of them were taken while processes were held, and others slept;
-- their notes certify, they kept off what is held, and the sleepers sleep through that.
pub record HasHeld (class : ℕ → ℕ) (limits : Limits) (old : MachineView) (network : Network) (held : List ℕ) (moves : List LooseTransition) (new : MachineView) : Type 0 where
  pub mid : MachineView
  pub notes : List NoteView
  pub first : List LooseTransition
  pub pending : List ℕ
  pub may : MayBeHeld old.code (state_at old) network held
  pub sleepers : List Sleeper
  pub are_sleepers : AreSleepers old.code (state_at old) network held sleepers
  pub others : HasTakenOthers class limits (held ++ sleeping sleepers) old notes first mid
  pub active : (p : ℕ) → IsActive (state_at old) p → contains pending p ≡ true
  pub touched : List ℕ
  pub cone : List ℕ
  pub off : KeptOff network held pending touched cone notes
  pub asleep : SleepThroughNotes old.code network held cone (state_at old).store (state_at old).time notes sleepers
  pub passed : HasPassedBy class limits old moves new

-- From wherever processes may be held from such a start, and others took steps with these notes to where a machine stood, all that was active
-- there was taken to where the machine stands.
abbrev pub HasTakenHeld : (ℕ → ℕ) → Network → List ℕ → HeldStart → MachineView → List NoteView → List LooseTransition → MachineView → List LooseTransition → Type 0
HasTakenHeld class network held start mid notes first new moves =
    (limits : Limits) (old : MachineView) → IsHeldStart old network held start → MayBeHeld old.code (state_at old) network held → mid.code ≡ old.code
    → HasTakenOthers class limits (held ++ sleeping start.sleepers.items) old notes first mid → HasHeld class limits old network held moves new

-- a machine did so, and what is held settles from where it stood to where it stands, if it is the same time
pub record HasHeldUntilSettled (class : ℕ → ℕ) (limits : Limits) (old : MachineView) (network : Network) (held : List ℕ) (moves : List LooseTransition) (new : MachineView) : Type 0 where
  pub through : HasHeld class limits old network held moves new
  pub settle :
      (state_at new).time ≡ (state_at old).time
      → SettleBetween (design_of old.code) held (block_at old.code network) (state_at old) (state_at new)
