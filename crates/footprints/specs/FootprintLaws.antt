-- Laws of footprints.
use Rattle.std.specs.Prelude.{◌≡◌, ◌⊎◌, ℕ, true, false, [], ◌∷◌, ◌++◌, map, Some}
use Rattle.model.specs.declared.entry.Entry.{Entry}
use Rattle.model.specs.Design.{Design}
use Rattle.model.specs.Turns.{contains}
use Rattle.model.specs.States.{Action, Evaluate, State}
use Rattle.model.specs.Runs.{Effect, action_in, taken}
use Rattle.model.specs.Laws.{times_in}
use Rattle.orders.specs.Alike.{IsInOrder}
use Rattle.loose.specs.Loose.{AlikeIn, loose_step, loose_transition_of}
use Rattle.footprints.specs.Footprints.{RegisterChange, Footprint, matches_any, footprint, Disjoint, concerned, AreApart}

-- a step that is apart from another has that one apart from it
abbrev pub ApartIsSymmetric : Type 0
ApartIsSymmetric = (f g : Footprint) → AreApart f g → AreApart g f

-- from a state an entry is a loose step with this footprint, and this comes of it
abbrev pub IsStepWith : (ℕ → ℕ) → Design → State → Entry → Footprint → Effect → Type 0
IsStepWith class design s entry f x = (loose_step class design s entry ≡ Some x) × (footprint class design s entry ≡ Some f)

-- A footprint tells the loose transition of its entry, what is printed and changed, and whether the run is finished then.
abbrev pub FootprintTells : Type 0
FootprintTells =
    (class : ℕ → ℕ) (design : Design) (s : State) (d : Entry) (f : Footprint) (x : Effect) → IsInOrder s → IsStepWith class design s d f x
    → (loose_transition_of class s d ≡ Some f.owner) × (x.lines ≡ f.lines)
    × (x.changes ≡ map (λ (c : RegisterChange). (c.register, c.after)) f.changes) × (x.state.finished ≡ f.finishes)

-- Where two steps from one state concern different processes, no change of the second matches a trigger for which a process that the first
-- concerns waits before it.
abbrev pub EndedIsKnown : Type 0
EndedIsKnown =
    (class : ℕ → ℕ) (design : Design) (s : State) (d e : Entry) (f g : Footprint) (x y : Effect) → IsStepWith class design s d f x
    → IsStepWith class design s e g y → Disjoint (concerned f) (concerned g) → matches_any f.ended g.changes ≡ false

-- two effects have the same lines and the same changes
abbrev pub HasSameOutput : Effect → Effect → Type 0
HasSameOutput x y = (x.lines ≡ y.lines) × (x.changes ≡ y.changes)

-- Two steps that are apart, and neither of which finishes, may be taken in either order: each is there after the other, with the same
-- footprint, lines and changes, and both orders have the same lines and lead to states that are alike but for the order of updates of
-- different classes.
abbrev pub StepsApartCommute : Type 0
StepsApartCommute =
    (class : ℕ → ℕ) (design : Design) (s : State) (d e : Entry) (f g : Footprint) (x y : Effect) → IsInOrder s
    → IsStepWith class design s d f x → IsStepWith class design s e g y → AreApart f g → f.finishes ≡ false → g.finishes ≡ false
    → (u : Effect) × (v : Effect) × IsStepWith class design x.state e g u × IsStepWith class design y.state d f v × HasSameOutput u y
    × HasSameOutput v x × (x.lines ++ u.lines ≡ y.lines ++ v.lines) × AlikeIn class u.state v.state

-- A step is there too after another that is apart from it and doesn't finish, with the same footprint, lines and changes, and
-- finishes where it did. Where it does, the other one has printed nothing.
abbrev pub FrameAtTheEnd : Type 0
FrameAtTheEnd =
    (class : ℕ → ℕ) (design : Design) (s : State) (d e : Entry) (f g : Footprint) (x y : Effect) → IsInOrder s
    → IsStepWith class design s d f x → IsStepWith class design s e g y → AreApart f g → g.finishes ≡ false
    → (v : Effect) × IsStepWith class design y.state d f v × HasSameOutput v x × (v.state.finished ≡ x.state.finished)
    × (x.state.finished ≡ true → y.lines ≡ [])

-- an active event that a step doesn't take stays active
abbrev pub WaitingStays : Type 0
WaitingStays =
    (class : ℕ → ℕ) (design : Design) (s : State) (d : Entry) (f : Footprint) (x : Effect) (number : ℕ) (action : Action) → IsInOrder s
    → IsStepWith class design s d f x → action_in s.active number ≡ Some action → times_in number (taken (d ∷ [])) ≡ 0
    → action_in x.state.active number ≡ Some action

-- an event that is active after a step was active before it and isn't what it took, or evaluates a process that the step woke
abbrev pub WaitingIsGiven : Type 0
WaitingIsGiven =
    (class : ℕ → ℕ) (design : Design) (s : State) (d : Entry) (f : Footprint) (x : Effect) (number : ℕ) (action : Action) → IsInOrder s
    → IsStepWith class design s d f x → action_in x.state.active number ≡ Some action
    → ((action_in s.active number ≡ Some action) × (times_in number (taken (d ∷ [])) ≡ 0))
    ⊎ ((p : ℕ) × (action ≡ Evaluate p) × (contains f.woken p ≡ true))

-- each process that a step woke has an active evaluation after it
abbrev pub WokenWaits : Type 0
WokenWaits =
    (class : ℕ → ℕ) (design : Design) (s : State) (d : Entry) (f : Footprint) (x : Effect) (p : ℕ) → IsInOrder s
    → IsStepWith class design s d f x → contains f.woken p ≡ true → (number : ℕ) × (action_in x.state.active number ≡ Some (Evaluate p))

-- in states that are alike but for the order of updates of different classes, steps of one loose transition have one footprint
abbrev pub FootprintIsAlike : Type 0
FootprintIsAlike =
    (class : ℕ → ℕ) (design : Design) (s t : State) (d e : Entry) (f : Footprint) (x y : Effect) → IsInOrder s → IsInOrder t
    → AlikeIn class s t → IsStepWith class design s d f x → loose_step class design t e ≡ Some y
    → loose_transition_of class t e ≡ loose_transition_of class s d → footprint class design t e ≡ Some f
