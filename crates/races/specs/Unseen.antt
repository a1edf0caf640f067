-- Registers that have other values in two runs which print the same and end alike.
use Rattle.std.specs.Prelude.{◌≡◌, ℕ, ◌+◌, ◌<◌, ◌≤◌, Bool, true, false, List, [], ◌∷◌, length, take, Option, Some, None, IfSome, IsTrue, slice_get}
use Rattle.logic4.specs.Vector.{Vector}
use Rattle.logic4.specs.Operators.{same_vector}
use Rattle.model.specs.declared.entry.Entry.{Entry}
use Rattle.model.specs.declared.entry.Entry.TheVariants.{Turn, Update, ActivateInactive, ActivateNba, ActivateMonitor, Advance}
use Rattle.model.specs.declared.end.End.{End}
use Rattle.model.specs.declared.end.End.TheVariants.{Quiet, Running, Stopped}
use Rattle.model.specs.declared.end.Why.{Why}
use Rattle.model.specs.declared.end.Why.TheVariants.{Finish, Until, Entries, TooLong, Time, Memory}
use Rattle.model.specs.declared.end.Limits.{Limits}
use Rattle.model.specs.Design.{Design}
use Rattle.model.specs.States.{State}
use Rattle.model.specs.Runs.{after}
use Rattle.design.specs.Compiled.{Compiled, design_of}
use Rattle.regions.specs.Machine.{MachineView, state_at}
use Rattle.runs.specs.declared.run.RunRecord.{RunRecord}
use Rattle.runs.specs.RunRecords.{IsRun}
use Rattle.runs.specs.Compared.{AreLike}
use Rattle.accesses.specs.declared.pair.Pair.{Pair}
use Rattle.accesses.specs.Roles.{HasBothOrders}
use Rattle.races.specs.declared.unseen.UnseenDifference.{UnseenDifference}

-- a register before others, unless its two values are the same
abbrev pub with_register : Bool → ℕ → List ℕ → List ℕ
with_register true r rs = rs
with_register false r rs = r ∷ rs

-- the registers from one number on that have one value here and another there
abbrev pub other_values : ℕ → List Vector → List Vector → List ℕ
other_values r (one ∷ firsts) (other ∷ seconds) = with_register (same_vector one other) r (other_values (r + 1) firsts seconds)
other_values r _ _ = []

-- A time passes in a state before an entry that advances past it. Before no entry it passes where the run has come to it and hasn't met
-- `$finish`.
abbrev pub PassesBefore : ℕ → State → Option Entry → Type 0
PassesBefore time s None = (s.finished ≡ false) × (s.time ≡ time)
PassesBefore time s (Some (Turn number)) = ⊥
PassesBefore time s (Some (Update number)) = ⊥
PassesBefore time s (Some ActivateInactive) = ⊥
PassesBefore time s (Some ActivateNba) = ⊥
PassesBefore time s (Some ActivateMonitor) = ⊥
PassesBefore time s (Some (Advance next)) = (s.time ≤ time) × (time < next)

-- so many entries of a journal lead to this state
abbrev pub LeadTo : Design → List Entry → ℕ → State → Type 0
LeadTo design journal count s = (count ≤ length journal) × (after design (take count journal) ≡ Some s)

-- in the run of a journal a time passes in this state
pub record PassesIn (design : Design) (journal : List Entry) (time : ℕ) (s : State) : Type 0 where
  pub count : ℕ
  pub led : LeadTo design journal count s
  pub passes : PassesBefore time s (slice_get journal count)

-- When this time passes in the runs of two journals, these registers have other values in the one than in the other. There is one at least, and
-- no further register has.
pub record DifferWhenPassing (code : Compiled) (one other : List Entry) (difference : UnseenDifference) : Type 0 where
  pub first : State
  pub passes_first : PassesIn (design_of code) one difference.time first
  pub second : State
  pub passes_second : PassesIn (design_of code) other difference.time second
  pub some : 0 < length difference.registers.items
  pub registers_are : difference.registers.items ≡ other_values 0 first.store second.store

-- a run that was stopped for this has no more to do at its last time, or met `$finish`
abbrev pub is_stopped_at_rest : Why → Bool
is_stopped_at_rest Finish = true
is_stopped_at_rest Until = true
is_stopped_at_rest Time = true
is_stopped_at_rest Entries = false
is_stopped_at_rest (TooLong process) = false
is_stopped_at_rest Memory = false

-- so does a run with this end
abbrev pub is_at_rest : End → Bool
is_at_rest Quiet = true
is_at_rest Running = false
is_at_rest (Stopped why) = is_stopped_at_rest why

-- where two entries are told, they come in both orders in two runs, and do what is said of them
abbrev pub ComeInBothOrders : Compiled → RunRecord → RunRecord → Option Pair → Type 0
ComeInBothOrders code original exchanged pair =
    IfSome pair (λ p. HasBothOrders (design_of code) original.journal.items exchanged.journal.items p.site p.time p.first p.second)

-- When this time passes in two runs, these registers have other values; and where two entries are told, they come in both orders in them.
pub record DifferByPair (code : Compiled) (original exchanged : RunRecord) (difference : UnseenDifference) : Type 0 where
  pub differ : DifferWhenPassing code original.journal.items exchanged.journal.items difference
  pub orders : ComeInBothOrders code original exchanged difference.pair

-- Another run of the design within the limits prints what the first one prints and ends like it, at rest; and when this time passes, these registers
-- have other values. Where two entries are told, they come in both orders in the two.
pub record IsUnseen (code : Compiled) (limits : Limits) (original : RunRecord) (difference : UnseenDifference) : Type 0 where
  pub exchanged : RunRecord
  pub run : IsRun code limits exchanged
  pub alike : AreLike original exchanged
  pub rests : IsTrue (is_at_rest exchanged.end)
  pub differ : DifferByPair code original exchanged difference

-- a machine of the design stands behind so many entries of a journal
abbrev pub StandsInRun : Compiled → List Entry → ℕ → MachineView → Type 0
StandsInRun code journal count p = (p.code ≡ code) × LeadTo (design_of code) journal count (state_at p)

-- an unseen difference, if one is kept, is one still
abbrev pub KeepsUnseen : Compiled → Limits → RunRecord → Option UnseenDifference → Option UnseenDifference → Type 0
KeepsUnseen code limits original old new = IfSome old (IsUnseen code limits original) → IfSome new (IsUnseen code limits original)
