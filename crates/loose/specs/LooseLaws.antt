-- Laws of loose orders.
use Rattle.std.specs.Prelude.{◌≡◌, ◌≢◌, ◌↔◌, ℕ, ◌<◌, List, length, Some}
use Rattle.model.specs.declared.entry.Entry.{Entry}
use Rattle.model.specs.declared.end.Limits.{Limits}
use Rattle.model.specs.declared.end.Why.TheVariants.{Entries}
use Rattle.model.specs.declared.end.End.{End}
use Rattle.model.specs.declared.end.End.TheVariants.{Stopped}
use Rattle.model.specs.Design.{Design}
use Rattle.model.specs.States.{State}
use Rattle.model.specs.Runs.{Effect, step, run, AreTimely, EndsIn}
use Rattle.orders.specs.Alike.{Alike, IsInOrder}
use Rattle.loose.specs.Loose.{AlikeIn, IsLooseStep, loose_step, loose_run, loose_run_from, loose_transition_of}

-- `loose_step` computes the relation
abbrev pub LooseStepIsExact : Type 0
LooseStepIsExact =
    (class : ℕ → ℕ) (design : Design) (s : State) (entry : Entry) (e : Effect)
    → (loose_step class design s entry ≡ Some e) ↔ IsLooseStep class design s entry e

-- where all registers are of one class, the loose steps are the steps
abbrev pub OneClassIsStrict : Type 0
OneClassIsStrict =
    (design : Design) (s : State) (entry : Entry) → loose_step (λ r. 0) design s entry ≡ step design s entry

-- where an entry has a step, it has the same loose step
abbrev pub StepIsLoose : Type 0
StepIsLoose =
    (class : ℕ → ℕ) (design : Design) (s : State) (entry : Entry) (f : Effect) → step design s entry ≡ Some f
    → loose_step class design s entry ≡ Some f

-- what comes of a lawful journal comes of it loosely
abbrev pub RunIsLoose : Type 0
RunIsLoose =
    (class : ℕ → ℕ) (design : Design) (journal : List Entry) (e : Effect) → run design journal ≡ Some e
    → loose_run class design journal ≡ Some e

-- each state is like itself, and likeness in classes goes both ways and on through a third state
abbrev pub AlikeInIsEquivalence : Type 0
AlikeInIsEquivalence =
    (class : ℕ → ℕ)
    → ((s : State) → AlikeIn class s s) × ((s t : State) → AlikeIn class s t → AlikeIn class t s)
    × ((s t u : State) → AlikeIn class s t → AlikeIn class t u → AlikeIn class s u)

-- alike states are alike in classes
abbrev pub AlikeIsAlikeIn : Type 0
AlikeIsAlikeIn = (class : ℕ → ℕ) (s t : State) → Alike s t → AlikeIn class s t

-- where all registers are of one class, states that are alike in classes are alike
abbrev pub OneClassIsAlike : Type 0
OneClassIsAlike = (s t : State) → AlikeIn (λ r. 0) s t → Alike s t

-- a loose step keeps the events in the order of their numbers
abbrev pub LooseStepKeepsOrder : Type 0
LooseStepKeepsOrder =
    (class : ℕ → ℕ) (design : Design) (s : State) (entry : Entry) (f : Effect) → IsInOrder s
    → loose_step class design s entry ≡ Some f → IsInOrder f.state

-- and so do loose runs
abbrev pub LooseRunKeepsOrder : Type 0
LooseRunKeepsOrder =
    (class : ℕ → ℕ) (design : Design) (e f : Effect) (entries : List Entry) → IsInOrder e.state
    → loose_run_from class design e entries ≡ Some f → IsInOrder f.state

-- two effects are alike in classes if they have the same lines and changes, and lead to states that are
abbrev pub AreAlikeEffectsIn : (ℕ → ℕ) → Effect → Effect → Type 0
AreAlikeEffectsIn class f g = (f.lines ≡ g.lines) × (f.changes ≡ g.changes) × AlikeIn class f.state g.state

-- Where an entry leads loosely from one of two states that are alike in classes, an entry of the same loose transition leads from
-- the other, and what comes of them is alike.
abbrev pub AlikeInStatesStepAlike : Type 0
AlikeInStatesStepAlike =
    (class : ℕ → ℕ) (design : Design) (s t : State) (entry : Entry) (f : Effect) → IsInOrder s → IsInOrder t → AlikeIn class s t
    → loose_step class design s entry ≡ Some f
    → (other : Entry) × (g : Effect) × (loose_transition_of class t other ≡ loose_transition_of class s entry)
    × (loose_step class design t other ≡ Some g) × AreAlikeEffectsIn class f g

-- what comes of entries of one loose transition, from states that are alike in classes, is alike
abbrev pub LooseTransitionHasOneOutcome : Type 0
LooseTransitionHasOneOutcome =
    (class : ℕ → ℕ) (design : Design) (s t : State) (entry other : Entry) (f g : Effect) → IsInOrder s → IsInOrder t → AlikeIn class s t
    → loose_transition_of class t other ≡ loose_transition_of class s entry → loose_step class design s entry ≡ Some f
    → loose_step class design t other ≡ Some g → AreAlikeEffectsIn class f g

-- a run that may end in one of two such states may end so in the other, but for the most entries
abbrev pub AlikeInStatesEndAlike : Type 0
AlikeInStatesEndAlike =
    (class : ℕ → ℕ) (design : Design) (limits : Limits) (n m : ℕ) (s t : State) (end : End) → IsInOrder s → IsInOrder t
    → AlikeIn class s t → end ≢ Stopped Entries → (n < limits.max_entries → m < limits.max_entries)
    → EndsIn design limits n s end → EndsIn design limits m t end

-- two effects are one loose node if they have the same lines, and lead to states that are alike in classes
abbrev pub IsOneLooseNode : (ℕ → ℕ) → Effect → Effect → Type 0
IsOneLooseNode class e f = (e.lines ≡ f.lines) × AlikeIn class e.state f.state

-- Where a run goes on loosely and in time from one of two effects that are one loose node, it goes on so from the other by as many
-- entries, and comes to one loose node again.
abbrev pub OneLooseNodeGoesOn : Type 0
OneLooseNodeGoesOn =
    (class : ℕ → ℕ) (design : Design) (limits : Limits) (e f g : Effect) (entries : List Entry) → IsInOrder e.state → IsInOrder f.state
    → IsOneLooseNode class e f → loose_run_from class design e entries ≡ Some g → AreTimely limits entries
    → (others : List Entry) × (k : Effect) × (length others ≡ length entries) × AreTimely limits others
    × (loose_run_from class design f others ≡ Some k) × IsOneLooseNode class g k
