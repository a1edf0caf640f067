-- From one loose node loose runs go on alike.
use Rattle.std.proofs.Common.{◌≡◌, ℕ, List, [], ◌∷◌, ◌++◌, length, Option, Some, None, refl, ap, ◌∙◌, arith}
use Rattle.std.proofs.lemmas.Option.{option_and_then_some}
use Rattle.std.proofs.lemmas.List.Elements.{All-nil, All-cons, All-head, All-tail}
use Rattle.model.specs.declared.entry.Entry.{Entry}
use Rattle.model.specs.declared.entry.Entry.TheVariants.{Update, ActivateInactive, ActivateNba, ActivateMonitor, Advance}
use Rattle.model.specs.declared.end.Limits.{Limits}
use Rattle.model.specs.Design.{Design}
use Rattle.model.specs.States.{State, Action, Evaluate}
use Rattle.model.specs.Runs.{Effect, action_in, joined, IsTimely, AreTimely}
use Rattle.orders.proofs.SearchLaws.{then_some}
use Rattle.loose.specs.declared.transition.LooseTransition.TheVariants.{Change}
use Rattle.loose.specs.Loose.{loose_step, loose_run_from, loose_transition_of_action, loose_transition_of}
use Rattle.loose.specs.LooseLaws.{IsOneLooseNode, OneLooseNodeGoesOn}
use Rattle.loose.proofs.LooseSteps.{loose_step_keeps_order}
use Rattle.loose.proofs.ClassSteps.{alike_in_states_step_alike}

-- an entry of the same transition is in time too

no_change : (class : ℕ → ℕ) (o : Option Action) (limits : Limits) (d : Entry) → Some (Change d) ≡ loose_transition_of_action class o → IsTimely limits d
no_change class None limits d h = cc
no_change class (Some (Evaluate p)) limits d h = cc
no_change class (Some (Action.Update r v)) limits d h = cc

timely_change : (class : ℕ → ℕ) (s : State) (limits : Limits) (d entry : Entry) → Some (Change d) ≡ loose_transition_of class s entry → IsTimely limits entry → IsTimely limits d
timely_change class s limits d (Entry.Turn n) transition h = no_change class (action_in s.active n) limits d transition
timely_change class s limits d (Update n) transition h = no_change class (action_in s.active n) limits d transition
timely_change class s limits d ActivateInactive transition h = let same : d ≡ ActivateInactive = cc in rw same h
timely_change class s limits d ActivateNba transition h = let same : d ≡ ActivateNba = cc in rw same h
timely_change class s limits d ActivateMonitor transition h = let same : d ≡ ActivateMonitor = cc in rw same h
timely_change class s limits d (Advance time) transition h = let same : d ≡ Advance time = cc in rw same h

pub timely_loose_transition : (class : ℕ → ℕ) (s t : State) (limits : Limits) (other entry : Entry) → loose_transition_of class t other ≡ loose_transition_of class s entry → IsTimely limits entry → IsTimely limits other
timely_loose_transition class s t limits (Entry.Turn n) entry transition h = tt
timely_loose_transition class s t limits (Update n) entry transition h = tt
timely_loose_transition class s t limits ActivateInactive entry transition h = tt
timely_loose_transition class s t limits ActivateNba entry transition h = tt
timely_loose_transition class s t limits ActivateMonitor entry transition h = tt
timely_loose_transition class s t limits (Advance time) entry transition h =
    timely_change class s limits (Advance time) entry transition h

-- what a run comes to from another effect of the same node
abbrev GoesOn : (ℕ → ℕ) → Design → Limits → Effect → Effect → List Entry → Type 0
GoesOn class design limits f g entries =
    (others : List Entry) × (k : Effect) × (length others ≡ length entries) × AreTimely limits others
    × (loose_run_from class design f others ≡ Some k) × IsOneLooseNode class g k

one_more : (class : ℕ → ℕ) (design : Design) (limits : Limits) (f y g : Effect) (other entry : Entry) (entries : List Entry) → loose_step class design f.state other ≡ Some y → IsTimely limits other
    → GoesOn class design limits (joined f y) g entries → GoesOn class design limits f g (entry ∷ entries)
one_more class design limits f y g other entry entries at_y timely (others, k, same, rest, goes, node) =
    (other ∷ others, k, omega (arith, same), All-cons (IsTimely limits) other others timely rest, then_some (λ x. loose_run_from class design (joined f x) others) (loose_step class design f.state other) y k at_y goes, node)

pub one_loose_node_goes_on : OneLooseNodeGoesOn
one_loose_node_goes_on class design limits e f g [] i j node is timely =
    let same : e ≡ g = cc in
    ([], f, refl, All-nil (IsTimely limits), refl, rw (← same) node)
one_loose_node_goes_on class design limits e f g (entry ∷ entries) i j (lines, alike) is timely =
    let now = All-head (IsTimely limits) entry entries timely in
    option_and_then_some (λ x. loose_run_from class design (joined e x) entries) (loose_step class design e.state entry) g is
    (λ x at_x later.
    let (other, y, transition, at_y, (lines', changes, alike')) = alike_in_states_step_alike class design e.state f.state entry x i j alike at_x in
    let node : IsOneLooseNode class (joined e x) (joined f y) = (ap (λ ls. ls ++ x.lines) lines ∙ ap (λ ls. f.lines ++ ls) lines', alike') in
    one_more class design limits f y g other entry entries at_y (timely_loose_transition class e.state f.state limits other entry transition now)
    (one_loose_node_goes_on class design limits (joined e x) (joined f y) g entries (loose_step_keeps_order class design e.state entry x i at_x) (loose_step_keeps_order class design f.state other y j at_y) node later (All-tail (IsTimely limits) entry entries timely)))
