-- Time rises by advances alone along loose runs, and where it may pass in a state, nothing else may happen.
use Rattle.std.proofs.Common.{◌≡◌, ◌⊎◌, ℕ, ◌≤◌, ◌<◌, Bool, true, false, not, ◌||◌, List, [], ◌∷◌, Option, Some, None, inl, inr, refl, sym, ap, ◌∙◌, subst, arith}
use Rattle.std.specs.Prelude.{option_map, option_and_then}
use Rattle.std.specs.List.{All}
use Rattle.std.proofs.lemmas.List.Elements.{All-nil, All-cons, All-head, All-tail}
use Rattle.std.proofs.lemmas.Option.{option_and_then_some}
use Rattle.model.specs.declared.entry.Entry.{Entry}
use Rattle.model.specs.declared.entry.Entry.TheVariants.{Update, ActivateInactive, ActivateNba, ActivateMonitor, Advance}
use Rattle.model.specs.declared.entry.Refusal.TheVariants.{NotDue}
use Rattle.model.specs.Design.{Design}
use Rattle.model.specs.States.{State, Event, Action, start}
use Rattle.model.specs.Runs.{Effect, silent, joined, has_any, has_earlier, Inactive, Nonblocking, Monitor, least_time, time_refusal}
use Rattle.model.specs.Laws.{evaluates}
use Rattle.model.proofs.RunLaws.{where_none, either_false}
use Rattle.orders.specs.Alike.{IsInOrder}
use Rattle.orders.proofs.StatesInOrder.{start_is_in_order}
use Rattle.loose.specs.declared.transition.LooseTransition.{LooseTransition}
use Rattle.loose.specs.declared.transition.LooseTransition.TheVariants.{Process, FirstOf, Change}
use Rattle.loose.specs.Loose.{updates_class, loose_transition_of, loose_step}
use Rattle.looseruns.specs.LooseMoves.{first_number, move, moves_from, moves_run}
use Rattle.looseruns.specs.ObservedMoves.{StaysInTime}
use Rattle.looseruns.specs.ObservedCover.{TimePassesAlone}
use Rattle.looseruns.proofs.FutureTimes.{IsAhead, IsAheadAt, time_after, advance_due, loose_step_taken, ahead_loose_step, ahead_still, advance_later}
use Rattle.looseruns.proofs.Moves.{move_is_loose_step, move_keeps_order}

-- a transition lets no time pass, or it is an advance
abbrev pub KindOf : LooseTransition → Type 0
KindOf transition = StaysInTime transition ⊎ ((time : ℕ) × (transition ≡ Change (Advance time)))

change_kind : (entry : Entry) → KindOf (Change entry)
change_kind (Entry.Turn n) = inl tt
change_kind (Update n) = inl tt
change_kind ActivateInactive = inl tt
change_kind ActivateNba = inl tt
change_kind ActivateMonitor = inl tt
change_kind (Advance time) = inr (time, refl)

pub kind_of : (transition : LooseTransition) → KindOf transition
kind_of (Process p) = inl tt
kind_of (FirstOf c) = inl tt
kind_of (Change entry) = change_kind entry

-- an entry whose transition lets no time pass leaves the time
entry_stays : (class : ℕ → ℕ) (s : State) (entry : Entry) (transition : LooseTransition) → loose_transition_of class s entry ≡ Some transition → StaysInTime transition → time_after s entry ≡ s.time
entry_stays class s (Entry.Turn n) transition its stays = refl
entry_stays class s (Update n) transition its stays = refl
entry_stays class s ActivateInactive transition its stays = refl
entry_stays class s ActivateNba transition its stays = refl
entry_stays class s ActivateMonitor transition its stays = refl
entry_stays class s (Advance time) transition its stays =
    let same : Change (Advance time) ≡ transition = cc in
    absurd (subst StaysInTime (sym same) stays)

-- so does its move
move_stays : (class : ℕ → ℕ) (design : Design) (s : State) (transition : LooseTransition) (f : Effect) → IsInOrder s → IsAhead s → move class design s transition ≡ Some f → StaysInTime transition → (f.state.time ≡ s.time) × IsAhead f.state
move_stays class design s transition f i ahead moved stays =
    let (entry, its, at_f) = move_is_loose_step class design s transition f i moved in
    let at : IsAheadAt (time_after s entry) f.state = ahead_loose_step class design s entry f at_f ahead in
    (at.0 ∙ entry_stays class s entry transition its stays, ahead_still (time_after s entry) f.state at)

-- an advance goes to its time, which is later
pub move_passes : (class : ℕ → ℕ) (design : Design) (s : State) (time : ℕ) (f : Effect) → IsAhead s → move class design s (Change (Advance time)) ≡ Some f → (s.time < time) × (f.state.time ≡ time) × IsAhead f.state
move_passes class design s time f ahead moved =
    let at : IsAheadAt time f.state = ahead_loose_step class design s (Advance time) f moved ahead in
    (advance_later class design s time f moved ahead, at.0, ahead_still time f.state at)

-- where moves lead it is no earlier, and later where one of them is an advance
abbrev pub IsNoEarlier : ℕ → Effect → List LooseTransition → Type 0
IsNoEarlier time g transitions = (time ≤ g.state.time) × (All StaysInTime transitions ⊎ (time < g.state.time)) × IsAhead g.state

stays_on : (time later : ℕ) (transition : LooseTransition) (more : List LooseTransition) (t : ℕ) → StaysInTime transition → time ≡ t → All StaysInTime more ⊎ (t < later) → All StaysInTime (transition ∷ more) ⊎ (time < later)
stays_on time later transition more t stays same (inl all) = inl (All-cons StaysInTime transition more stays all)
stays_on time later transition more t stays same (inr less) = inr (omega (arith, same, less))

rises_on : (class : ℕ → ℕ) (design : Design) (s : State) (transition : LooseTransition) (more : List LooseTransition) (x g : Effect) → KindOf transition → IsInOrder s → IsAhead s → move class design s transition ≡ Some x
    → (IsAhead x.state → IsNoEarlier x.state.time g more) → IsNoEarlier s.time g (transition ∷ more)
rises_on class design s transition more x g (inl stays) i ahead moved later =
    let (same, ahead') = move_stays class design s transition x i ahead moved stays in
    let (le, which, last) = later ahead' in
    (omega (arith, same, le), stays_on s.time g.state.time transition more x.state.time stays (sym same) which, last)
rises_on class design s transition more x g (inr (time, is)) i ahead moved later =
    let (less, at_time, ahead') = move_passes class design s time x ahead (subst (λ t. move class design s t ≡ Some x) is moved) in
    let (le, which, last) = later ahead' in
    (omega (arith, less, at_time, le), inr (omega (arith, less, at_time, le)), last)

pub times_rise : (class : ℕ → ℕ) (design : Design) (e g : Effect) (transitions : List LooseTransition) → IsInOrder e.state → IsAhead e.state → moves_from class design e transitions ≡ Some g → IsNoEarlier e.state.time g transitions
times_rise class design e g [] i ahead is =
    let same : e ≡ g = cc in
    subst (λ x. IsNoEarlier e.state.time x []) same (omega arith, inl (All-nil StaysInTime), ahead)
times_rise class design e g (transition ∷ more) i ahead is =
    option_and_then_some (λ x. moves_from class design (joined e x) more) (move class design e.state transition) g is
    (λ x at_x later.
    rises_on class design e.state transition more x g (kind_of transition) i ahead at_x
    (λ ahead'. times_rise class design (joined e x) g more (move_keeps_order class design e.state transition x i at_x) ahead' later))

-- where it is as early as before, none of them is an advance
all_stay : (time : ℕ) (g : Effect) (transitions : List LooseTransition) → g.state.time ≡ time → All StaysInTime transitions ⊎ (time < g.state.time) → All StaysInTime transitions
all_stay time g transitions same (inl all) = all
all_stay time g transitions same (inr less) = absurd (omega (arith, same, less))

pub stayed : (class : ℕ → ℕ) (design : Design) (e g : Effect) (transitions : List LooseTransition) → IsInOrder e.state → IsAhead e.state → moves_from class design e transitions ≡ Some g → g.state.time ≡ e.state.time → All StaysInTime transitions
stayed class design e g transitions i ahead is same =
    all_stay e.state.time g transitions same (times_rise class design e g transitions i ahead is).1

-- where none of them is an advance, the time is left
pub stay_in_time : (class : ℕ → ℕ) (design : Design) (e g : Effect) (transitions : List LooseTransition) → IsInOrder e.state → IsAhead e.state → All StaysInTime transitions → moves_from class design e transitions ≡ Some g → g.state.time ≡ e.state.time
stay_in_time class design e g [] i ahead stay is =
    let same : e ≡ g = cc in
    ap (λ x. x.state.time) (sym same)
stay_in_time class design e g (transition ∷ more) i ahead stay is =
    option_and_then_some (λ x. moves_from class design (joined e x) more) (move class design e.state transition) g is
    (λ x at_x later.
    let (same, ahead') = move_stays class design e.state transition x i ahead at_x (All-head StaysInTime transition more stay) in
    stay_in_time class design (joined e x) g more (move_keeps_order class design e.state transition x i at_x) ahead' (All-tail StaysInTime transition more stay) later ∙ same)

-- every future event is later than the time where a loose run leads
pub run_ahead : (class : ℕ → ℕ) (design : Design) (run : List LooseTransition) (e : Effect) → moves_run class design run ≡ Some e → IsAhead e.state
run_ahead class design run e is =
    (times_rise class design (silent (start design)) e run (start_is_in_order design) (tt, tt) is).2

-- where time may pass, nothing else may happen

-- no region but the future has events
abbrev IsIdle : State → Type 0
IsIdle s = (has_any s.active ≡ false) × (has_any s.inactive ≡ false) × (has_any s.nonblocking ≡ false) × (has_any s.monitor ≡ false)

-- a step of an entry from a state
abbrev Steps : (ℕ → ℕ) → Design → State → Entry → Effect → Type 0
Steps class design s entry f = loose_step class design s entry ≡ Some f

idle : (class : ℕ → ℕ) (design : Design) (s : State) (time : ℕ) (f : Effect) → Steps class design s (Advance time) f → IsIdle s
idle class design s time f h =
    let (none, comes) = loose_step_taken class design s (Advance time) f h in
    let empty : (has_any s.active || has_any s.inactive || has_any s.nonblocking || has_any s.monitor) ≡ false =
    (where_none (has_any s.active || has_any s.inactive || has_any s.nonblocking || has_any s.monitor) NotDue (time_refusal time (least_time s)) none).0 in
    let (three, monitor) = either_false (has_any s.active || has_any s.inactive || has_any s.nonblocking) (has_any s.monitor) empty in
    let (two, nonblocking) = either_false (has_any s.active || has_any s.inactive) (has_any s.nonblocking) three in
    let (active, inactive) = either_false (has_any s.active) (has_any s.inactive) two in
    (active, inactive, nonblocking, monitor)

none_first : (test : Action → Bool) (es : List Event) → has_any es ≡ false → first_number test es ≡ None
none_first test [] none = refl
none_first test (e ∷ es) none = cc

no_move : {P : Type 0} (o : Option Effect) (g : Effect) → o ≡ None → o ≡ Some g → P
no_move o g none some = cc

not_due : {P : Type 0} (earlier here : Bool) → here ≡ false → (earlier || not here) ≡ false → P
not_due earlier here none due =
    let there : not here ≡ false = (either_false earlier (not here) due).1 in
    let bad : true ≡ false = sym (ap not none) ∙ there in
    cc

one_due : (s : State) (time due : ℕ) → least_time s ≡ Some time → least_time s ≡ Some due → due ≡ time
one_due s time due is is' = cc

idle_change : (class : ℕ → ℕ) (design : Design) (s : State) (time : ℕ) (entry : Entry) (f g : Effect) → Steps class design s (Advance time) f → IsIdle s → move class design s (Change entry) ≡ Some g → Change entry ≡ Change (Advance time)
idle_change class design s time (Entry.Turn n) f g h none moved = cc
idle_change class design s time (Update n) f g h none moved = cc
idle_change class design s time ActivateInactive f g h none moved =
    let (free, comes) = loose_step_taken class design s ActivateInactive g moved in
    not_due (has_earlier Inactive s) (has_any s.inactive) none.1 (where_none (has_earlier Inactive s || not (has_any s.inactive)) NotDue None free).0
idle_change class design s time ActivateNba f g h none moved =
    let (free, comes) = loose_step_taken class design s ActivateNba g moved in
    not_due (has_earlier Nonblocking s) (has_any s.nonblocking) none.2 (where_none (has_earlier Nonblocking s || not (has_any s.nonblocking)) NotDue None free).0
idle_change class design s time ActivateMonitor f g h none moved =
    let (free, comes) = loose_step_taken class design s ActivateMonitor g moved in
    not_due (has_earlier Monitor s) (has_any s.monitor) none.3 (where_none (has_earlier Monitor s || not (has_any s.monitor)) NotDue None free).0
idle_change class design s time (Advance due) f g h none moved =
    let (free, comes) = loose_step_taken class design s (Advance time) f h in
    let (free', comes') = loose_step_taken class design s (Advance due) g moved in
    let same : due ≡ time = one_due s time due (advance_due s time free) (advance_due s due free') in
    ap (λ n. Change (Advance n)) same

pub time_passes_alone : TimePassesAlone
time_passes_alone class design s time (Process p) f g h moved =
    let none = none_first (evaluates p) s.active (idle class design s time f h).0 in
    no_move (move class design s (Process p)) g (ap (λ o. option_and_then (loose_step class design s) (option_map Entry.Turn o)) none) moved
time_passes_alone class design s time (FirstOf c) f g h moved =
    let none = none_first (updates_class class c) s.active (idle class design s time f h).0 in
    no_move (move class design s (FirstOf c)) g (ap (λ o. option_and_then (loose_step class design s) (option_map Update o)) none) moved
time_passes_alone class design s time (Change entry) f g h moved =
    idle_change class design s time entry f g h (idle class design s time f h) moved
