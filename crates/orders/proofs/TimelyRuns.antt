-- Entries and journals in time.
use Rattle.std.proofs.Common.{◌≡◌, ◌≤◌, List, [], ◌∷◌, ◌++◌, Option, Some, None, sym, subst}
use Rattle.std.proofs.lemmas.Option.{option_and_then_some}
use Rattle.std.proofs.lemmas.List.Elements.{All-nil, All-cons, All-head, All-tail}
use Rattle.model.specs.declared.entry.Entry.{Entry}
use Rattle.model.specs.declared.entry.Entry.TheVariants.{Update, ActivateInactive, ActivateNba, ActivateMonitor, Advance}
use Rattle.model.specs.declared.end.Limits.{Limits}
use Rattle.model.specs.Design.{Design}
use Rattle.model.specs.States.{State, Action, Evaluate, start}
use Rattle.model.specs.Runs.{action_in, Effect, silent, joined, step, run_from, most_time, IsTimely, AreTimely}
use Rattle.model.proofs.StepLaws.{step_is_exact}
use Rattle.orders.specs.Alike.{Change, transition_of_action, transition_of}
use Rattle.orders.specs.SearchLaws.{UnlimitedRunIsTimely}

-- an entry of the same transition is in time too
no_change : (o : Option Action) (limits : Limits) (d : Entry) → Some (Change d) ≡ transition_of_action o → IsTimely limits d
no_change None limits d h = cc
no_change (Some (Evaluate p)) limits d h = cc
no_change (Some (Action.Update r v)) limits d h = cc

timely_change : (s : State) (limits : Limits) (d entry : Entry) → Some (Change d) ≡ transition_of s entry → IsTimely limits entry → IsTimely limits d
timely_change s limits d (Entry.Turn n) transition h = no_change (action_in s.active n) limits d transition
timely_change s limits d (Update n) transition h = cc
timely_change s limits d ActivateInactive transition h = let same : d ≡ ActivateInactive = cc in rw same h
timely_change s limits d ActivateNba transition h = let same : d ≡ ActivateNba = cc in rw same h
timely_change s limits d ActivateMonitor transition h = let same : d ≡ ActivateMonitor = cc in rw same h
timely_change s limits d (Advance time) transition h = let same : d ≡ Advance time = cc in rw same h

pub timely_transition : (s t : State) (limits : Limits) (other entry : Entry) → transition_of t other ≡ transition_of s entry → IsTimely limits entry → IsTimely limits other
timely_transition s t limits (Entry.Turn n) entry transition h = tt
timely_transition s t limits (Update n) entry transition h = tt
timely_transition s t limits ActivateInactive entry transition h = timely_change s limits ActivateInactive entry transition h
timely_transition s t limits ActivateNba entry transition h = timely_change s limits ActivateNba entry transition h
timely_transition s t limits ActivateMonitor entry transition h = timely_change s limits ActivateMonitor entry transition h
timely_transition s t limits (Advance time) entry transition h = timely_change s limits (Advance time) entry transition h

-- both parts of a journal in time are in time
pub timely_after : (limits : Limits) (before after : List Entry) → AreTimely limits (before ++ after) → AreTimely limits after
timely_after limits [] after h = h
timely_after limits (b ∷ before) after h = timely_after limits before after (All-tail (IsTimely limits) b (before ++ after) h)

pub timely_before : (limits : Limits) (before after : List Entry) → AreTimely limits (before ++ after) → AreTimely limits before
timely_before limits [] after h = All-nil (IsTimely limits)
timely_before limits (b ∷ before) after h =
    All-cons (IsTimely limits) b before (All-head (IsTimely limits) b (before ++ after) h)
    (timely_before limits before after (All-tail (IsTimely limits) b (before ++ after) h))

-- no step goes past the last time
step_is_timely : (design : Design) (limits : Limits) (s : State) (entry : Entry) (f : Effect) → limits.until ≡ None → step design s entry ≡ Some f → IsTimely limits entry
step_is_timely design limits s (Entry.Turn n) f none is = tt
step_is_timely design limits s (Update n) f none is = tt
step_is_timely design limits s ActivateInactive f none is = tt
step_is_timely design limits s ActivateNba f none is = tt
step_is_timely design limits s ActivateMonitor f none is = tt
step_is_timely design limits s (Advance time) f none is =
    let (going, (active, inactive, nonblocking, monitor, least, early, made)) = (step_is_exact design s (Advance time) f).0 is in
    subst (λ o. time ≤ most_time o) (sym none) early

run_from_is_timely : (design : Design) (limits : Limits) (e g : Effect) (journal : List Entry) → limits.until ≡ None → run_from design e journal ≡ Some g → AreTimely limits journal
run_from_is_timely design limits e g [] none is = All-nil (IsTimely limits)
run_from_is_timely design limits e g (entry ∷ entries) none is =
    option_and_then_some (λ f. run_from design (joined e f) entries) (step design e.state entry) g is
    (λ f at_f later.
    All-cons (IsTimely limits) entry entries (step_is_timely design limits e.state entry f none at_f)
    (run_from_is_timely design limits (joined e f) g entries none later))

pub unlimited_run_is_timely : UnlimitedRunIsTimely
unlimited_run_is_timely design limits journal e none is = run_from_is_timely design limits (silent (start design)) e journal none is
