-- What comes of a loose transition that a machine takes, and why it takes none.
use Rattle.std.specs.Prelude.{◌≡◌, ℕ, List, ◌++◌, None, Some}
use Rattle.std.specs.Option.{IsSome}
use Rattle.model.specs.declared.entry.Entry.{Entry}
use Rattle.model.specs.States.{State}
use Rattle.model.specs.Runs.{Effect, refusal}
use Rattle.design.specs.Compiled.{Compiled, design_of}
use Rattle.regions.specs.declared.machine.TakeFault.{TakeFault}
use Rattle.regions.specs.declared.machine.TakeFault.TheVariants as fault
use Rattle.regions.specs.Machine.{MachineView, state_at, most_entries, IsTurnEntry}
use Rattle.loose.specs.declared.transition.LooseTransition.{LooseTransition}
use Rattle.loose.specs.Loose.{AlikeIn, loose_transition_of, loose_refusal, loose_step}

-- A loose step of this transition leads from one state to one that is alike in classes to another, and its lines stand behind others.
pub record IsTakenLoosely (class : ℕ → ℕ) (code : Compiled) (old : State) (before : List ℕ) (transition : LooseTransition) (new : State) (behind : List ℕ) : Type 0 where
  pub entry : Entry
  pub effect : Effect
  pub transition_is : loose_transition_of class old entry ≡ Some transition
  pub is_step : loose_step class (design_of code) old entry ≡ Some effect
  pub alike : AlikeIn class effect.state new
  pub lines_are : behind ≡ before ++ effect.lines

-- The entry is one of a transition, and the rules permit it in a state that is alike to the one before; if it is a turn, in that one.
pub record IsEntryFor (class : ℕ → ℕ) (old new : State) (transition : LooseTransition) (entry : Entry) : Type 0 where
  pub transition_is : loose_transition_of class new entry ≡ Some transition
  pub permitted : refusal new entry ≡ None
  pub same : IsTurnEntry entry → new ≡ old

-- A transition may be taken where some entry of it is permitted loosely, whatever its turn does.
abbrev pub MayBeTaken : (ℕ → ℕ) → State → LooseTransition → Type 0
MayBeTaken class s transition =
    (entry : Entry) × (loose_transition_of class s entry ≡ Some transition) × (loose_refusal class s entry ≡ None)

-- no entry of it is permitted loosely
abbrev pub MayNotBeTaken : (ℕ → ℕ) → State → LooseTransition → Type 0
MayNotBeTaken class s transition = (entry : Entry) → loose_transition_of class s entry ≡ Some transition → IsSome (loose_refusal class s entry)

-- some entry of a transition is permitted loosely, and P holds of it
abbrev pub IsPermittedWith : (ℕ → ℕ) → State → LooseTransition → (Entry → Type 0) → Type 0
IsPermittedWith class s transition P =
    (entry : Entry) × (loose_transition_of class s entry ≡ Some transition) × (loose_refusal class s entry ≡ None) × P entry

-- Why a transition isn't taken: no entry of it is permitted loosely; or one is permitted and has no short turn; or the machine took as
-- many entries as it takes; or memory is refused where one is applied that has a loose step; or memory is refused to a turn that is
-- permitted.
abbrev pub IsNotTakenLoosely : (ℕ → ℕ) → MachineView → LooseTransition → TakeFault → Type 0
IsNotTakenLoosely class p transition (fault.Refused r) = MayNotBeTaken class (state_at p) transition
IsNotTakenLoosely class p transition fault.TooLong =
    IsPermittedWith class (state_at p) transition (λ entry. loose_step class (design_of p.code) (state_at p) entry ≡ None)
IsNotTakenLoosely class p transition fault.TooMany = p.core.entries ≡ most_entries
IsNotTakenLoosely class p transition fault.ApplyMemory =
    IsPermittedWith class (state_at p) transition (λ entry. IsSome (loose_step class (design_of p.code) (state_at p) entry))
IsNotTakenLoosely class p transition fault.Memory = IsPermittedWith class (state_at p) transition IsTurnEntry
