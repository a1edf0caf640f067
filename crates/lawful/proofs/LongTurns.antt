-- Loose steps, and turns that aren't short.
use Rattle.std.proofs.Common.{◌≡◌, ℕ, true, false, Bool, Option, Some, None, List, [], ◌∷◌, refl, sym, ap, ◌∙◌}
use Rattle.std.specs.Prelude.{option_map}
use Rattle.model.specs.declared.entry.Entry.{Entry}
use Rattle.model.specs.declared.entry.Entry.TheVariants.{Turn, Update, ActivateInactive, ActivateNba, ActivateMonitor, Advance}
use Rattle.model.specs.declared.entry.Refusal.{Refusal}
use Rattle.model.specs.declared.entry.Refusal.TheVariants.{Finished, NotActive}
use Rattle.model.specs.declared.end.Limits.{Limits}
use Rattle.model.specs.Design.{Design}
use Rattle.model.specs.Turns as turns
use Rattle.model.specs.States.{Action, Event, Evaluate, State}
use Rattle.model.specs.Runs.{Effect, action_in, has_any, turn_refusal, refused_where, turn_of, turn_effect, action_effect, effect, unless_refused, IsTimely, HasLongTurn}
use Rattle.model.proofs.RunLaws.{where_none}
use Rattle.design.specs.Compiled.{Compiled, design_of}
use Rattle.loose.specs.declared.transition.LooseTransition.{LooseTransition}
use Rattle.loose.specs.declared.transition.LooseTransition.TheVariants.{Process}
use Rattle.loose.specs.Loose.{loose_transition_of_action, loose_transition_of, loose_update_refusal, loose_entry_refusal, loose_refusal, loose_step}
use Rattle.runs.specs.Halting.{MayBeNext}
use Rattle.runs.proofs.Permits.{active_next}
use Rattle.lawful.specs.LooseNodes.{StepsLoosely}

-- what has a loose step is permitted loosely
permitted_if : (o : Option Refusal) (x : Option Effect) (f : Effect) → unless_refused o x ≡ Some f → o ≡ None
permitted_if None x f is = refl
permitted_if (Some reason) x f is = cc

pub step_is_permitted_loosely : (class : ℕ → ℕ) (design : Design) (s : State) (entry : Entry) (f : Effect) → loose_step class design s entry ≡ Some f → loose_refusal class s entry ≡ None
step_is_permitted_loosely class design s entry f at_f = permitted_if (loose_refusal class s entry) (effect design s entry) f at_f

-- the action of the turn of a process
action_of_turn : (class : ℕ → ℕ) (p : ℕ) (o : Option Action) → loose_transition_of_action class o ≡ Some (Process p) → o ≡ Some (Evaluate p)
action_of_turn class p None is = cc
action_of_turn class p (Some (Evaluate q)) is =
    let same : q ≡ p = cc in
    ap (λ n. Some (Evaluate n)) same
action_of_turn class p (Some (Action.Update r v)) is = cc

nothing : (o : Option Refusal) → unless_refused o None ≡ None
nothing None = refl
nothing (Some reason) = refl

refused : (b : Bool) (x : Option Effect) → unless_refused (refused_where b Finished (Some NotActive)) x ≡ None
refused true x = refl
refused false x = refl

turn_is_stuck : (class : ℕ → ℕ) (design : Design) (s : State) (n p : ℕ) → action_in s.active n ≡ Some (Evaluate p) → turn_of design s p ≡ None → loose_step class design s (Turn n) ≡ None
turn_is_stuck class design s n p there long =
    let none : effect design s (Turn n) ≡ None = ap (action_effect design s n) there ∙ ap (option_map (turn_effect s n p)) long in
    ap (unless_refused (loose_refusal class s (Turn n))) none ∙ nothing (loose_refusal class s (Turn n))

update_is_stuck : (class : ℕ → ℕ) (design : Design) (s : State) (n p : ℕ) → action_in s.active n ≡ Some (Evaluate p) → loose_step class design s (Update n) ≡ None
update_is_stuck class design s n p there =
    ap (λ o. unless_refused (refused_where s.finished Finished (loose_update_refusal class s n o)) (effect design s (Update n))) there ∙ refused s.finished (effect design s (Update n))

no_step : (o : Option Effect) (f : Effect) → o ≡ None → o ≡ Some f → ⊥
no_step o f none is = cc

-- an entry of the turn of a process that isn't short has no loose step
long_has_no_step : (class : ℕ → ℕ) (design : Design) (s : State) (entry : Entry) (p : ℕ) (f : Effect) → loose_transition_of class s entry ≡ Some (Process p) → turn_of design s p ≡ None → loose_step class design s entry ≡ Some f → ⊥
long_has_no_step class design s (Turn n) p f its long at_f =
    no_step (loose_step class design s (Turn n)) f (turn_is_stuck class design s n p (action_of_turn class p (action_in s.active n) its) long) at_f
long_has_no_step class design s (Update n) p f its long at_f =
    no_step (loose_step class design s (Update n)) f (update_is_stuck class design s n p (action_of_turn class p (action_in s.active n) its)) at_f
long_has_no_step class design s ActivateInactive p f its long at_f = cc
long_has_no_step class design s ActivateNba p f its long at_f = cc
long_has_no_step class design s ActivateMonitor p f its long at_f = cc
long_has_no_step class design s (Advance time) p f its long at_f = cc

pub stepping_is_short : (class : ℕ → ℕ) (code : Compiled) (s : State) (transition : LooseTransition) (p : ℕ) → StepsLoosely class code s transition → transition ≡ Process p → HasLongTurn (design_of code) s p → ⊥
stepping_is_short class code s transition p (entry, f, its, at_f) is (n, there, long) =
    long_has_no_step class (design_of code) s entry p f (its ∙ ap (λ t. Some t) is) long at_f

-- what is permitted, and has no loose step, has no effect
stuck_effect : (o : Option Refusal) (x : Option Effect) → o ≡ None → unless_refused o x ≡ None → x ≡ None
stuck_effect None x is stuck = stuck
stuck_effect (Some reason) x is stuck = cc

no_turn : (s : State) (n p : ℕ) (o : Option turns.Turn) → option_map (turn_effect s n p) o ≡ None → o ≡ None
no_turn s n p None is = refl
no_turn s n p (Some turn) is = cc

stuck_turn : (class : ℕ → ℕ) (design : Design) (s : State) (n p : ℕ) → action_in s.active n ≡ Some (Evaluate p) → loose_refusal class s (Turn n) ≡ None → loose_step class design s (Turn n) ≡ None → HasLongTurn design s p
stuck_turn class design s n p there permitted stuck =
    let none : effect design s (Turn n) ≡ None = stuck_effect (loose_refusal class s (Turn n)) (effect design s (Turn n)) permitted stuck in
    (n, there, no_turn s n p (turn_of design s p) (sym (ap (action_effect design s n) there) ∙ none))

clash : (class : ℕ → ℕ) (s : State) (n p : ℕ) → action_in s.active n ≡ Some (Evaluate p) → loose_refusal class s (Update n) ≡ None → ⊥
clash class s n p there permitted =
    let own : loose_update_refusal class s n (action_in s.active n) ≡ None = (where_none s.finished Finished (loose_update_refusal class s n (action_in s.active n)) permitted).1 in
    let some : Some NotActive ≡ None = sym (ap (loose_update_refusal class s n) there) ∙ own in
    cc

-- a turn of a process that is permitted loosely, and has no loose step, is long
pub stuck_is_long : (class : ℕ → ℕ) (design : Design) (s : State) (entry : Entry) (p : ℕ) → loose_transition_of class s entry ≡ Some (Process p) → loose_refusal class s entry ≡ None → loose_step class design s entry ≡ None → HasLongTurn design s p
stuck_is_long class design s (Turn n) p its permitted stuck = stuck_turn class design s n p (action_of_turn class p (action_in s.active n) its) permitted stuck
stuck_is_long class design s (Update n) p its permitted stuck = absurd (clash class s n p (action_of_turn class p (action_in s.active n) its) permitted)
stuck_is_long class design s ActivateInactive p its permitted stuck = cc
stuck_is_long class design s ActivateNba p its permitted stuck = cc
stuck_is_long class design s ActivateMonitor p its permitted stuck = cc
stuck_is_long class design s (Advance time) p its permitted stuck = cc

-- nothing is permitted loosely once the run is finished
pub permitted_goes_on : (class : ℕ → ℕ) (s : State) (entry : Entry) → loose_refusal class s entry ≡ None → s.finished ≡ false
permitted_goes_on class s entry permitted = (where_none s.finished Finished (loose_entry_refusal class s entry) permitted).0

-- a long turn that may be taken
pub long_may_be_taken : (class : ℕ → ℕ) (s : State) (n p : ℕ) → s.finished ≡ false → action_in s.active n ≡ Some (Evaluate p) → (loose_transition_of class s (Turn n) ≡ Some (Process p)) × (loose_refusal class s (Turn n) ≡ None)
long_may_be_taken class s n p going there =
    let permitted : loose_refusal class s (Turn n) ≡ None = ap (λ b. refused_where b Finished (turn_refusal (action_in s.active n))) going ∙ ap turn_refusal there in
    (ap (loose_transition_of_action class) there, permitted)

some_active : (es : List Event) (n : ℕ) (o : Option Action) → action_in es n ≡ o → has_any es ≡ false → o ≡ None
some_active [] n o is none = sym is
some_active (e ∷ es) n o is none = cc

active_there : (class : ℕ → ℕ) (s : State) (n : ℕ) (b : Bool) → has_any s.active ≡ b → loose_update_refusal class s n (action_in s.active n) ≡ None → has_any s.active ≡ true
active_there class s n true is permitted = is
active_there class s n false is permitted =
    let none : action_in s.active n ≡ None = some_active s.active n (action_in s.active n) refl is in
    let some : Some NotActive ≡ None = sym (ap (loose_update_refusal class s n) none) ∙ permitted in
    cc

-- where an entry may be next loosely, some entry may be next
pub some_may_be_next : (class : ℕ → ℕ) (limits : Limits) (s : State) (entry : Entry) → loose_refusal class s entry ≡ None → IsTimely limits entry → (other : Entry) × MayBeNext limits s other
some_may_be_next class limits s (Turn n) permitted timely = (Turn n, (permitted, timely))
some_may_be_next class limits s (Update n) permitted timely =
    let (going, own) = where_none s.finished Finished (loose_update_refusal class s n (action_in s.active n)) permitted in
    active_next limits s going (active_there class s n (has_any s.active) refl own)
some_may_be_next class limits s ActivateInactive permitted timely = (ActivateInactive, (permitted, timely))
some_may_be_next class limits s ActivateNba permitted timely = (ActivateNba, (permitted, timely))
some_may_be_next class limits s ActivateMonitor permitted timely = (ActivateMonitor, (permitted, timely))
some_may_be_next class limits s (Advance time) permitted timely = (Advance time, (permitted, timely))
