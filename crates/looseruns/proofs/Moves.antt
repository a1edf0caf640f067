-- Moves are loose steps, and whatever loose steps do, moves do.
use Rattle.std.proofs.Common.{◌≡◌, ℕ, List, [], ◌∷◌, ◌++◌, length, Option, Some, None, option_map, refl, sym, ap, ◌∙◌, subst, arith}
use Rattle.std.specs.Prelude.{option_and_then, find}
use Rattle.std.proofs.lemmas.Option.{option_and_then_some}
use Rattle.std.proofs.lemmas.List.Elements.{All-nil, All-cons, All-head, All-tail}
use Rattle.model.specs.declared.entry.Entry.{Entry}
use Rattle.model.specs.declared.entry.Entry.TheVariants.{Update, ActivateInactive, ActivateNba, ActivateMonitor, Advance}
use Rattle.model.specs.declared.end.Limits.{Limits}
use Rattle.model.specs.Design.{Design}
use Rattle.model.specs.States.{State, Event, Action, Evaluate}
use Rattle.model.specs.Runs.{Effect, joined, action_in, turn_effect, IsTimely, AreTimely}
use Rattle.model.specs.Laws.{evaluates}
use Rattle.orders.specs.Alike.{IsInOrder}
use Rattle.orders.proofs.SearchLaws.{then_some}
use Rattle.loose.specs.declared.transition.LooseTransition.{LooseTransition}
use Rattle.loose.specs.declared.transition.LooseTransition.TheVariants.{Process, FirstOf, Change}
use Rattle.loose.specs.Loose.{AlikeIn, updates_class, loose_transition_of_action, loose_transition_of, loose_step, loose_run_from, IsPermittedLoosely}
use Rattle.loose.specs.LooseLaws.{AreAlikeEffectsIn}
use Rattle.loose.proofs.LooseSteps.{from_loose, to_loose, loose_step_keeps_order}
use Rattle.loose.proofs.ClassSteps.{alike_in_states_step_alike, loose_transition_has_one_outcome, effects_in-same, effects_in-trans}
use Rattle.loose.proofs.ClassStates.{states_in-same}
use Rattle.looseruns.specs.LooseMoves.{region_entry, entry_for, move, moves_from, IsTimelyMove, AreTimelyMoves}
use Rattle.looseruns.specs.LooseMoveLaws.{EntryHasTransition, MoveIsLooseStep, LooseStepHasMove, AlikeInStatesMoveAlike, TransitionIsTimely, MovesKeepOrder, MovesAreLooseRun, OneLooseNodeMovesOn, LooseRunHasMoves}
use Rattle.looseruns.proofs.FirstEvents.{found_there, some_found, is_evaluation_of, evaluates_own, is_update_of, updates_own, first_found}

-- the entry of a transition has it

turn_has : (class : ℕ → ℕ) (s : State) (p : ℕ) (entry : Entry) (o : Option Event) → IsInOrder s → find (λ e. evaluates p e.1) s.active ≡ o → option_map Entry.Turn (option_map (λ e. e.0) o) ≡ Some entry
    → loose_transition_of class s entry ≡ Some (Process p)
turn_has class s p entry None i found is = cc
turn_has class s p entry (Some x) i found is =
    let (at_x, passes) = found_there (evaluates p) 0 s.next_event x s.active i.active found in
    let same : Entry.Turn x.0 ≡ entry = cc in
    let there : action_in s.active x.0 ≡ Some (Evaluate p) = at_x ∙ ap Some (is_evaluation_of p x.1 passes) in
    subst (λ d. loose_transition_of class s d ≡ Some (Process p)) same (ap (loose_transition_of_action class) there)

update_has : (class : ℕ → ℕ) (s : State) (c : ℕ) (entry : Entry) (o : Option Event) → IsInOrder s → find (λ e. updates_class class c e.1) s.active ≡ o → option_map Update (option_map (λ e. e.0) o) ≡ Some entry
    → loose_transition_of class s entry ≡ Some (FirstOf c)
update_has class s c entry None i found is = cc
update_has class s c entry (Some x) i found is =
    let (at_x, passes) = found_there (updates_class class c) 0 s.next_event x s.active i.active found in
    let (r, v, update, own) = is_update_of class c x.1 passes in
    let same : Update x.0 ≡ entry = cc in
    let there : loose_transition_of_action class (action_in s.active x.0) ≡ Some (FirstOf (class r)) = ap (loose_transition_of_action class) (at_x ∙ ap Some update) in
    subst (λ d. loose_transition_of class s d ≡ Some (FirstOf c)) same (there ∙ ap (λ k. Some (FirstOf k)) own)

change_has : (class : ℕ → ℕ) (s : State) (d entry : Entry) → region_entry d ≡ Some entry → loose_transition_of class s entry ≡ Some (Change d)
change_has class s (Entry.Turn n) entry is = cc
change_has class s (Update n) entry is = cc
change_has class s ActivateInactive entry is =
    let same : ActivateInactive ≡ entry = cc in
    subst (λ d. loose_transition_of class s d ≡ Some (Change ActivateInactive)) same refl
change_has class s ActivateNba entry is =
    let same : ActivateNba ≡ entry = cc in
    subst (λ d. loose_transition_of class s d ≡ Some (Change ActivateNba)) same refl
change_has class s ActivateMonitor entry is =
    let same : ActivateMonitor ≡ entry = cc in
    subst (λ d. loose_transition_of class s d ≡ Some (Change ActivateMonitor)) same refl
change_has class s (Advance time) entry is =
    let same : Advance time ≡ entry = cc in
    subst (λ d. loose_transition_of class s d ≡ Some (Change (Advance time))) same refl

pub entry_has_transition : EntryHasTransition
entry_has_transition class s (Process p) entry i is =
    turn_has class s p entry (find (λ e. evaluates p e.1) s.active) i refl is
entry_has_transition class s (FirstOf c) entry i is =
    update_has class s c entry (find (λ e. updates_class class c e.1) s.active) i refl is
entry_has_transition class s (Change d) entry i is = change_has class s d entry is

pub move_is_loose_step : MoveIsLooseStep
move_is_loose_step class design s transition f i is =
    option_and_then_some (loose_step class design s) (entry_for class s transition) f is
    (λ entry named at_f. (entry, entry_has_transition class s transition entry i named, at_f))

-- each loose step has its move

-- what comes of a transition is alike to what came of an entry of it
abbrev HasMove : (ℕ → ℕ) → Design → State → Entry → Effect → LooseTransition → Type 0
HasMove class design s entry f transition =
    (g : Effect) × (loose_transition_of class s entry ≡ Some transition) × (move class design s transition ≡ Some g) × AreAlikeEffectsIn class f g

turn_moves : (class : ℕ → ℕ) (design : Design) (s : State) (n : ℕ) (f : Effect) → IsInOrder s → loose_step class design s (Entry.Turn n) ≡ Some f → (p : ℕ) × HasMove class design s (Entry.Turn n) f (Process p)
turn_moves class design s n f i at_f =
    let (going, (p, turn, is, exact, short, same)) = from_loose class design s (Entry.Turn n) f at_f in
    let (x, found) = some_found (evaluates p) n (Evaluate p) s.active is (evaluates_own p) in
    let (at_x, passes) = found_there (evaluates p) 0 s.next_event x s.active i.active found in
    let there : action_in s.active x.0 ≡ Some (Evaluate p) = at_x ∙ ap Some (is_evaluation_of p x.1 passes) in
    let g : Effect = turn_effect s x.0 p turn in
    let permitted : IsPermittedLoosely class design s (Entry.Turn x.0) g = (p, turn, there, exact, short, refl) in
    let at_g : loose_step class design s (Entry.Turn x.0) ≡ Some g = to_loose class design s (Entry.Turn x.0) g (going, permitted) in
    let moved : move class design s (Process p) ≡ Some g = ap (λ o. option_and_then (loose_step class design s) (option_map Entry.Turn (option_map (λ (e : Event). e.0) o))) found ∙ at_g in
    let one : loose_transition_of class s (Entry.Turn x.0) ≡ loose_transition_of class s (Entry.Turn n) = ap (loose_transition_of_action class) (there ∙ sym is) in
    let alike : AreAlikeEffectsIn class f g = loose_transition_has_one_outcome class design s s (Entry.Turn n) (Entry.Turn x.0) f g i i (states_in-same class s) one at_f at_g in
    (p, (g, ap (loose_transition_of_action class) is, moved, alike))

update_moves : (class : ℕ → ℕ) (design : Design) (s : State) (n : ℕ) (f : Effect) → IsInOrder s → loose_step class design s (Update n) ≡ Some f → (c : ℕ) × HasMove class design s (Update n) f (FirstOf c)
update_moves class design s n f i at_f =
    let (going, (r, v, is, first, same)) = from_loose class design s (Update n) f at_f in
    let (x, found, number) = first_found class (class r) n 0 s.next_event (Action.Update r v) s.active i.active is (updates_own class r v) first in
    let moved : move class design s (FirstOf (class r)) ≡ Some f =
    ap (λ o. option_and_then (loose_step class design s) (option_map Update (option_map (λ (e : Event). e.0) o))) found
    ∙ (ap (λ m. loose_step class design s (Update m)) number ∙ at_f) in
    (class r, (f, ap (loose_transition_of_action class) is, moved, effects_in-same class f))

pub loose_step_has_move : LooseStepHasMove
loose_step_has_move class design s (Entry.Turn n) f i at_f =
    let (p, (g, transition, moved, alike)) = turn_moves class design s n f i at_f in
    (Process p, g, transition, moved, alike)
loose_step_has_move class design s (Update n) f i at_f =
    let (c, (g, transition, moved, alike)) = update_moves class design s n f i at_f in
    (FirstOf c, g, transition, moved, alike)
loose_step_has_move class design s ActivateInactive f i at_f = (Change ActivateInactive, f, refl, at_f, effects_in-same class f)
loose_step_has_move class design s ActivateNba f i at_f = (Change ActivateNba, f, refl, at_f, effects_in-same class f)
loose_step_has_move class design s ActivateMonitor f i at_f = (Change ActivateMonitor, f, refl, at_f, effects_in-same class f)
loose_step_has_move class design s (Advance time) f i at_f = (Change (Advance time), f, refl, at_f, effects_in-same class f)

-- an entry has one transition
pub one_transition : (P : LooseTransition → Type 0) (o : Option LooseTransition) (a b : LooseTransition) → o ≡ Some a → o ≡ Some b → P a → P b
one_transition P o a b is is' h =
    let same : a ≡ b = cc in
    subst P same h

-- a loose step of this transition has the move of this transition
pub step_has_move : (class : ℕ → ℕ) (design : Design) (s : State) (entry : Entry) (f : Effect) (transition : LooseTransition) → IsInOrder s → loose_step class design s entry ≡ Some f → loose_transition_of class s entry ≡ Some transition
    → (g : Effect) × (move class design s transition ≡ Some g) × AreAlikeEffectsIn class f g
step_has_move class design s entry f transition i at_f is =
    let (found, g, its, moved, alike) = loose_step_has_move class design s entry f i at_f in
    (g, one_transition (λ t. move class design s t ≡ Some g) (loose_transition_of class s entry) found transition its is moved, alike)

pub alike_in_states_move_alike : AlikeInStatesMoveAlike
alike_in_states_move_alike class design s t transition f i j alike moved =
    let (entry, is, at_f) = move_is_loose_step class design s transition f i moved in
    let (other, g, same, at_g, like) = alike_in_states_step_alike class design s t entry f i j alike at_f in
    let (k, moved', like') = step_has_move class design t other g transition j at_g (same ∙ is) in
    (k, moved', effects_in-trans class f g k like like')

-- time

action_timely : (class : ℕ → ℕ) (limits : Limits) (o : Option Action) (transition : LooseTransition) → loose_transition_of_action class o ≡ Some transition → IsTimelyMove limits transition
action_timely class limits None transition is = cc
action_timely class limits (Some (Evaluate p)) transition is =
    let same : Process p ≡ transition = cc in
    subst (IsTimelyMove limits) same tt
action_timely class limits (Some (Action.Update r v)) transition is =
    let same : FirstOf (class r) ≡ transition = cc in
    subst (IsTimelyMove limits) same tt

-- both go together where the transition is this change
timely_together : (limits : Limits) (entry : Entry) (transition : LooseTransition) → Some (Change entry) ≡ Some transition → (IsTimely limits entry → IsTimelyMove limits transition) × (IsTimelyMove limits transition → IsTimely limits entry)
timely_together limits entry transition is =
    let same : Change entry ≡ transition = cc in
    (λ h. subst (IsTimelyMove limits) same h, λ h. subst (IsTimelyMove limits) (sym same) h)

pub transition_is_timely : TransitionIsTimely
transition_is_timely class limits s (Entry.Turn n) transition is = (λ h. action_timely class limits (action_in s.active n) transition is, λ h. tt)
transition_is_timely class limits s (Update n) transition is = (λ h. action_timely class limits (action_in s.active n) transition is, λ h. tt)
transition_is_timely class limits s ActivateInactive transition is = timely_together limits ActivateInactive transition is
transition_is_timely class limits s ActivateNba transition is = timely_together limits ActivateNba transition is
transition_is_timely class limits s ActivateMonitor transition is = timely_together limits ActivateMonitor transition is
transition_is_timely class limits s (Advance time) transition is = timely_together limits (Advance time) transition is

-- runs of moves

pub move_keeps_order : (class : ℕ → ℕ) (design : Design) (s : State) (transition : LooseTransition) (f : Effect) → IsInOrder s → move class design s transition ≡ Some f → IsInOrder f.state
move_keeps_order class design s transition f i moved =
    let (entry, is, at_f) = move_is_loose_step class design s transition f i moved in
    loose_step_keeps_order class design s entry f i at_f

pub moves_keep_order : MovesKeepOrder
moves_keep_order class design e f [] i is =
    let same : e ≡ f = cc in
    rw (← same) i
moves_keep_order class design e f (transition ∷ more) i is =
    option_and_then_some (λ g. moves_from class design (joined e g) more) (move class design e.state transition) f is
    (λ g moved later. moves_keep_order class design (joined e g) f more (move_keeps_order class design e.state transition g i moved) later)

pub moves_are_loose_run : MovesAreLooseRun
moves_are_loose_run class design limits e f [] i is = ([], refl, λ h. All-nil (IsTimely limits), is)
moves_are_loose_run class design limits e f (transition ∷ more) i is =
    option_and_then_some (λ g. moves_from class design (joined e g) more) (move class design e.state transition) f is
    (λ g moved later.
    let (entry, its, at_g) = move_is_loose_step class design e.state transition g i moved in
    let (entries, same, timely, goes) = moves_are_loose_run class design limits (joined e g) f more (loose_step_keeps_order class design e.state entry g i at_g) later in (
      entry ∷ entries,
      omega (arith, same),
      λ (h : AreTimelyMoves limits (transition ∷ more)). All-cons (IsTimely limits) entry entries ((transition_is_timely class limits e.state entry transition its).1 (All-head (IsTimelyMove limits) transition more h)) (timely (All-tail (IsTimelyMove limits) transition more h)),
      then_some (λ x. loose_run_from class design (joined e x) entries) (loose_step class design e.state entry) g f at_g goes,
    ))

-- from another effect in a state that is alike the same moves lead to one that is
abbrev pub MoveOnToo : (ℕ → ℕ) → Design → Effect → Effect → Effect → List LooseTransition → Type 0
MoveOnToo class design e f g transitions =
    (k : Effect) × (moves_from class design f transitions ≡ Some k) × AlikeIn class g.state k.state × (e.lines ≡ f.lines → g.lines ≡ k.lines)

pub alike_moves_on : (class : ℕ → ℕ) (design : Design) (e f g : Effect) (transitions : List LooseTransition) → IsInOrder e.state → IsInOrder f.state → AlikeIn class e.state f.state → moves_from class design e transitions ≡ Some g
    → MoveOnToo class design e f g transitions
alike_moves_on class design e f g [] i j alike is =
    let same : e ≡ g = cc in
    (f, refl, rw (← same) alike, λ h. ap (λ x. x.lines) (sym same) ∙ h)
alike_moves_on class design e f g (transition ∷ more) i j alike is =
    option_and_then_some (λ x. moves_from class design (joined e x) more) (move class design e.state transition) g is
    (λ x at_x later.
    let (y, at_y, (printed, changes, alike')) = alike_in_states_move_alike class design e.state f.state transition x i j alike at_x in
    let (k, goes, near, lines) = alike_moves_on class design (joined e x) (joined f y) g more (move_keeps_order class design e.state transition x i at_x) (move_keeps_order class design f.state transition y j at_y) alike' later in
    (k, then_some (λ z. moves_from class design (joined f z) more) (move class design f.state transition) y k at_y goes, near, λ (h : e.lines ≡ f.lines). lines (ap (λ ls. ls ++ x.lines) h ∙ ap (λ ls. f.lines ++ ls) printed)))

pub one_loose_node_moves_on : OneLooseNodeMovesOn
one_loose_node_moves_on class design e f g transitions i j (lines, alike) is =
    let (k, goes, near, printed) = alike_moves_on class design e f g transitions i j alike is in
    (k, goes, (printed lines, near))

-- what the moves of loose entries come to from another effect in a state that is alike
abbrev pub MovesOn : (ℕ → ℕ) → Design → Limits → Effect → Effect → Effect → List Entry → Type 0
MovesOn class design limits e f g entries =
    (transitions : List LooseTransition) × (k : Effect) × (length transitions ≡ length entries) × AreTimelyMoves limits transitions
    × (moves_from class design f transitions ≡ Some k) × AlikeIn class g.state k.state × (e.lines ≡ f.lines → g.lines ≡ k.lines)

one_more : (class : ℕ → ℕ) (design : Design) (limits : Limits) (e f x y g : Effect) (transition : LooseTransition) (entry : Entry) (entries : List Entry) → move class design f.state transition ≡ Some y → IsTimelyMove limits transition
    → x.lines ≡ y.lines → MovesOn class design limits (joined e x) (joined f y) g entries → MovesOn class design limits e f g (entry ∷ entries)
one_more class design limits e f x y g transition entry entries at_y timely printed (transitions, k, same, rest, goes, alike, lines) = (
  transition ∷ transitions,
  k,
  omega (arith, same),
  All-cons (IsTimelyMove limits) transition transitions timely rest,
  then_some (λ z. moves_from class design (joined f z) transitions) (move class design f.state transition) y k at_y goes,
  alike,
  λ h. lines (ap (λ ls. ls ++ x.lines) h ∙ ap (λ ls. f.lines ++ ls) printed),
)

pub entries_have_moves : (class : ℕ → ℕ) (design : Design) (limits : Limits) (e f g : Effect) (entries : List Entry) → IsInOrder e.state → IsInOrder f.state → AlikeIn class e.state f.state → loose_run_from class design e entries ≡ Some g → AreTimely limits entries
    → MovesOn class design limits e f g entries
entries_have_moves class design limits e f g [] i j alike is timely =
    let same : e ≡ g = cc in
    ([], f, refl, All-nil (IsTimelyMove limits), refl, rw (← same) alike, λ h. ap (λ x. x.lines) (sym same) ∙ h)
entries_have_moves class design limits e f g (entry ∷ entries) i j alike is timely =
    option_and_then_some (λ x. loose_run_from class design (joined e x) entries) (loose_step class design e.state entry) g is
    (λ x at_x later.
    let (transition, y, its, at_y, like) = loose_step_has_move class design e.state entry x i at_x in
    let (z, at_z, like') = alike_in_states_move_alike class design e.state f.state transition y i j alike at_y in
    let (printed, changes, alike') = effects_in-trans class x y z like like' in
    let now = (transition_is_timely class limits e.state entry transition its).0 (All-head (IsTimely limits) entry entries timely) in
    one_more class design limits e f x z g transition entry entries at_z now printed
    (entries_have_moves class design limits (joined e x) (joined f z) g entries (loose_step_keeps_order class design e.state entry x i at_x) (move_keeps_order class design f.state transition z j at_z) alike' later (All-tail (IsTimely limits) entry entries timely)))

pub loose_run_has_moves : LooseRunHasMoves
loose_run_has_moves class design limits e f g entries i j (lines, alike) is timely =
    let (transitions, k, same, timely', goes, alike', printed) = entries_have_moves class design limits e f g entries i j alike is timely in
    (transitions, k, same, timely', goes, (printed lines, alike'))
