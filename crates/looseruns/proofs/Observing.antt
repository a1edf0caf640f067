-- Observed moves: what comes of moves, with what is seen at them, and alike from states that are alike in classes.
use Rattle.std.proofs.Common.{◌≡◌, ℕ, List, [], ◌∷◌, ◌++◌, Option, Some, None, option_map, refl, sym, ap, ◌∙◌, subst}
use Rattle.std.proofs.lemmas.Option.{option_and_then_some}
use Rattle.model.specs.declared.entry.Entry.{Entry}
use Rattle.model.specs.declared.entry.Entry.TheVariants.{Update, ActivateInactive, ActivateNba, ActivateMonitor, Advance}
use Rattle.model.specs.declared.end.Limits.{Limits}
use Rattle.model.specs.Design.{Design}
use Rattle.model.specs.States.{State, Action, Evaluate}
use Rattle.model.specs.Runs.{Effect, joined, action_in, step, IsTimely, AreTimely}
use Rattle.std.proofs.lemmas.List.Elements.{All-nil, All-cons, All-head, All-tail}
use Rattle.orders.specs.Alike.{IsInOrder}
use Rattle.orders.proofs.SearchLaws.{then_some}
use Rattle.loose.specs.declared.transition.LooseTransition.{LooseTransition}
use Rattle.loose.specs.declared.transition.LooseTransition.TheVariants.{Process, FirstOf, Change}
use Rattle.loose.specs.Loose.{AlikeIn, loose_transition_of_action, loose_transition_of}
use Rattle.loose.specs.LooseLaws.{AreAlikeEffectsIn, IsOneLooseNode}
use Rattle.loose.proofs.LooseSteps.{step_is_loose, loose_step_keeps_order}
use Rattle.loose.proofs.ClassSteps.{effects_in-trans}
use Rattle.looseruns.specs.LooseMoves.{move, IsTimelyMove, AreTimelyMoves}
use Rattle.looseruns.specs.ObservedJournals.{Observer, seen_at, effect_with_seen, observed_step, observed_run_from}
use Rattle.looseruns.specs.ObservedMoves.{SeesAlike, seen_at_move, observed_move, observed_moves_from}
use Rattle.looseruns.proofs.Moves.{loose_step_has_move, alike_in_states_move_alike, transition_is_timely, move_keeps_order}

-- what something comes to without what was seen before it
pub unseen : (seen : List ℕ) (o : Option Effect) (g : Effect) → option_map (effect_with_seen seen) o ≡ Some g → (f : Effect) × (o ≡ Some f) × (effect_with_seen seen f ≡ g)
unseen seen None g is = cc
unseen seen (Some f) g is = (f, refl, cc)

-- an observed move is the move, with what is seen
pub observed_move_is_move : (class : ℕ → ℕ) (design : Design) (observe : Observer) (s : State) (transition : LooseTransition) (g : Effect) → observed_move class design observe s transition ≡ Some g
    → (f : Effect) × (move class design s transition ≡ Some f) × (effect_with_seen (seen_at_move observe s transition) f ≡ g)
observed_move_is_move class design observe s transition g is =
    unseen (seen_at_move observe s transition) (move class design s transition) g is

pub move_is_observed : (class : ℕ → ℕ) (design : Design) (observe : Observer) (s : State) (transition : LooseTransition) (f : Effect) → move class design s transition ≡ Some f
    → observed_move class design observe s transition ≡ Some (effect_with_seen (seen_at_move observe s transition) f)
move_is_observed class design observe s transition f is = ap (option_map (effect_with_seen (seen_at_move observe s transition))) is

-- the same is seen in states that are alike

entry_seen_alike : (class : ℕ → ℕ) (observe : Observer) (s t : State) (entry : Entry) → SeesAlike observe → AlikeIn class s t → seen_at observe s entry ≡ seen_at observe t entry
entry_seen_alike class observe s t (Entry.Turn n) sees alike = refl
entry_seen_alike class observe s t (Update n) sees alike = refl
entry_seen_alike class observe s t ActivateInactive sees alike = refl
entry_seen_alike class observe s t ActivateNba sees alike = refl
entry_seen_alike class observe s t ActivateMonitor sees alike = refl
entry_seen_alike class observe s t (Advance time) sees alike = sees class s t alike

pub move_seen_alike : (class : ℕ → ℕ) (observe : Observer) (s t : State) (transition : LooseTransition) → SeesAlike observe → AlikeIn class s t → seen_at_move observe s transition ≡ seen_at_move observe t transition
move_seen_alike class observe s t (Process p) sees alike = refl
move_seen_alike class observe s t (FirstOf c) sees alike = refl
move_seen_alike class observe s t (Change entry) sees alike = entry_seen_alike class observe s t entry sees alike

-- the same is seen before what is alike
pub alike_behind : (class : ℕ → ℕ) (seen seen' : List ℕ) (f g : Effect) → seen ≡ seen' → AreAlikeEffectsIn class f g → AreAlikeEffectsIn class (effect_with_seen seen f) (effect_with_seen seen' g)
alike_behind class seen seen' f g same (lines, changes, alike) = (ap (λ l. l ++ f.lines) same ∙ ap (λ l. seen' ++ l) lines, changes, alike)

pub alike_in_states_observed : (class : ℕ → ℕ) (design : Design) (observe : Observer) (s t : State) (transition : LooseTransition) (f : Effect) → SeesAlike observe → IsInOrder s → IsInOrder t → AlikeIn class s t
    → observed_move class design observe s transition ≡ Some f → (g : Effect) × (observed_move class design observe t transition ≡ Some g) × AreAlikeEffectsIn class f g
alike_in_states_observed class design observe s t transition f sees i j alike moved =
    let (x, at_x, same) = observed_move_is_move class design observe s transition f moved in
    let (y, at_y, near) = alike_in_states_move_alike class design s t transition x i j alike at_x in
    let seen = move_seen_alike class observe s t transition sees alike in
    let g : Effect = effect_with_seen (seen_at_move observe t transition) y in
    (g, move_is_observed class design observe t transition y at_y, subst (λ z. AreAlikeEffectsIn class z g) same (alike_behind class (seen_at_move observe s transition) (seen_at_move observe t transition) x y seen near))

-- what is seen at an entry is seen at its transition

action_seen : (class : ℕ → ℕ) (observe : Observer) (s : State) (o : Option Action) (transition : LooseTransition) → loose_transition_of_action class o ≡ Some transition → seen_at_move observe s transition ≡ []
action_seen class observe s None transition is = cc
action_seen class observe s (Some (Evaluate p)) transition is =
    let same : Process p ≡ transition = cc in
    ap (seen_at_move observe s) (sym same)
action_seen class observe s (Some (Action.Update r v)) transition is =
    let same : FirstOf (class r) ≡ transition = cc in
    ap (seen_at_move observe s) (sym same)

change_seen : (observe : Observer) (s : State) (entry : Entry) (transition : LooseTransition) → Some (Change entry) ≡ Some transition → seen_at_move observe s transition ≡ seen_at observe s entry
change_seen observe s entry transition is =
    let same : Change entry ≡ transition = cc in
    ap (seen_at_move observe s) (sym same)

pub entry_is_seen : (class : ℕ → ℕ) (observe : Observer) (s : State) (entry : Entry) (transition : LooseTransition) → loose_transition_of class s entry ≡ Some transition → seen_at_move observe s transition ≡ seen_at observe s entry
entry_is_seen class observe s (Entry.Turn n) transition is = action_seen class observe s (action_in s.active n) transition is
entry_is_seen class observe s (Update n) transition is = action_seen class observe s (action_in s.active n) transition is
entry_is_seen class observe s ActivateInactive transition is = change_seen observe s ActivateInactive transition is
entry_is_seen class observe s ActivateNba transition is = change_seen observe s ActivateNba transition is
entry_is_seen class observe s ActivateMonitor transition is = change_seen observe s ActivateMonitor transition is
entry_is_seen class observe s (Advance time) transition is = change_seen observe s (Advance time) transition is

-- the events stay in the order of their numbers

pub observed_move_keeps_order : (class : ℕ → ℕ) (design : Design) (observe : Observer) (s : State) (transition : LooseTransition) (f : Effect) → IsInOrder s → observed_move class design observe s transition ≡ Some f → IsInOrder f.state
observed_move_keeps_order class design observe s transition f i moved =
    let (x, at_x, same) = observed_move_is_move class design observe s transition f moved in
    subst (λ (z : Effect). IsInOrder z.state) same (move_keeps_order class design s transition x i at_x)

pub observed_moves_keep_order : (class : ℕ → ℕ) (design : Design) (observe : Observer) (e f : Effect) (transitions : List LooseTransition) → IsInOrder e.state → observed_moves_from class design observe e transitions ≡ Some f → IsInOrder f.state
observed_moves_keep_order class design observe e f [] i is =
    let same : e ≡ f = cc in
    rw (← same) i
observed_moves_keep_order class design observe e f (transition ∷ more) i is =
    option_and_then_some (λ g. observed_moves_from class design observe (joined e g) more) (observed_move class design observe e.state transition) f is
    (λ g moved later. observed_moves_keep_order class design observe (joined e g) f more (observed_move_keeps_order class design observe e.state transition g i moved) later)

-- from another effect in a state that is alike the same observed moves lead to one that is
abbrev pub ObservedOnToo : (ℕ → ℕ) → Design → Observer → Effect → Effect → Effect → List LooseTransition → Type 0
ObservedOnToo class design observe e f g transitions =
    (k : Effect) × (observed_moves_from class design observe f transitions ≡ Some k) × AlikeIn class g.state k.state × (e.lines ≡ f.lines → g.lines ≡ k.lines)

pub alike_observed_on : (class : ℕ → ℕ) (design : Design) (observe : Observer) (e f g : Effect) (transitions : List LooseTransition) → SeesAlike observe → IsInOrder e.state → IsInOrder f.state → AlikeIn class e.state f.state
    → observed_moves_from class design observe e transitions ≡ Some g → ObservedOnToo class design observe e f g transitions
alike_observed_on class design observe e f g [] sees i j alike is =
    let same : e ≡ g = cc in
    (f, refl, rw (← same) alike, λ h. ap (λ x. x.lines) (sym same) ∙ h)
alike_observed_on class design observe e f g (transition ∷ more) sees i j alike is =
    option_and_then_some (λ x. observed_moves_from class design observe (joined e x) more) (observed_move class design observe e.state transition) g is
    (λ x at_x later.
    let (y, at_y, (printed, changes, alike')) = alike_in_states_observed class design observe e.state f.state transition x sees i j alike at_x in
    let (k, goes, near, lines) =
    alike_observed_on class design observe (joined e x) (joined f y) g more sees (observed_move_keeps_order class design observe e.state transition x i at_x) (observed_move_keeps_order class design observe f.state transition y j at_y) alike' later in
    (k, then_some (λ z. observed_moves_from class design observe (joined f z) more) (observed_move class design observe f.state transition) y k at_y goes, near, λ (h : e.lines ≡ f.lines). lines (ap (λ ls. ls ++ x.lines) h ∙ ap (λ ls. f.lines ++ ls) printed)))

pub one_node_observed_on : (class : ℕ → ℕ) (design : Design) (observe : Observer) (e f g : Effect) (transitions : List LooseTransition) → SeesAlike observe → IsInOrder e.state → IsInOrder f.state → IsOneLooseNode class e f
    → observed_moves_from class design observe e transitions ≡ Some g → (k : Effect) × (observed_moves_from class design observe f transitions ≡ Some k) × IsOneLooseNode class g k
one_node_observed_on class design observe e f g transitions sees i j (lines, alike) is =
    let (k, goes, near, printed) = alike_observed_on class design observe e f g transitions sees i j alike is in
    (k, goes, (printed lines, near))

-- an observed step of an entry has an observed move

-- what comes of a transition and is seen at it is alike to what came of an entry of it
abbrev HasObservedMove : (ℕ → ℕ) → Design → Observer → State → Entry → Effect → LooseTransition → Type 0
HasObservedMove class design observe s entry f transition =
    (g : Effect) × (loose_transition_of class s entry ≡ Some transition) × (observed_move class design observe s transition ≡ Some g) × AreAlikeEffectsIn class f g × IsInOrder f.state

observed_step_has_move : (class : ℕ → ℕ) (design : Design) (observe : Observer) (s : State) (entry : Entry) (f : Effect) → IsInOrder s → observed_step design observe s entry ≡ Some f
    → (transition : LooseTransition) × HasObservedMove class design observe s entry f transition
observed_step_has_move class design observe s entry f i is =
    let (x, at_x, same) = unseen (seen_at observe s entry) (step design s entry) f is in
    let loosely = step_is_loose class design s entry x at_x in
    let (transition, y, its, at_y, near) = loose_step_has_move class design s entry x i loosely in
    let g : Effect = effect_with_seen (seen_at_move observe s transition) y in
    let alike : AreAlikeEffectsIn class (effect_with_seen (seen_at observe s entry) x) g =
    alike_behind class (seen_at observe s entry) (seen_at_move observe s transition) x y (sym (entry_is_seen class observe s entry transition its)) near in
    let order : IsInOrder x.state = loose_step_keeps_order class design s entry x i loosely in
    (transition, (g, its, move_is_observed class design observe s transition y at_y, subst (λ z. AreAlikeEffectsIn class z g) same alike, subst (λ (z : Effect). IsInOrder z.state) same order))

-- what the observed moves of lawful entries come to from another effect in a state that is alike
abbrev pub ObservedOn : (ℕ → ℕ) → Design → Limits → Observer → Effect → Effect → Effect → Type 0
ObservedOn class design limits observe e f g =
    (transitions : List LooseTransition) × (k : Effect) × AreTimelyMoves limits transitions
    × (observed_moves_from class design observe f transitions ≡ Some k) × AlikeIn class g.state k.state × (e.lines ≡ f.lines → g.lines ≡ k.lines)

one_more : (class : ℕ → ℕ) (design : Design) (limits : Limits) (observe : Observer) (e f x y g : Effect) (transition : LooseTransition) → observed_move class design observe f.state transition ≡ Some y → IsTimelyMove limits transition
    → x.lines ≡ y.lines → ObservedOn class design limits observe (joined e x) (joined f y) g → ObservedOn class design limits observe e f g
one_more class design limits observe e f x y g transition at_y timely printed (transitions, k, rest, goes, alike, lines) = (
  transition ∷ transitions,
  k,
  All-cons (IsTimelyMove limits) transition transitions timely rest,
  then_some (λ z. observed_moves_from class design observe (joined f z) transitions) (observed_move class design observe f.state transition) y k at_y goes,
  alike,
  λ h. lines (ap (λ ls. ls ++ x.lines) h ∙ ap (λ ls. f.lines ++ ls) printed),
)

pub entries_have_observed_moves : (class : ℕ → ℕ) (design : Design) (limits : Limits) (observe : Observer) (e f g : Effect) (entries : List Entry) → SeesAlike observe → IsInOrder e.state → IsInOrder f.state → AlikeIn class e.state f.state
    → observed_run_from design observe e entries ≡ Some g → AreTimely limits entries → ObservedOn class design limits observe e f g
entries_have_observed_moves class design limits observe e f g [] sees i j alike is timely =
    let same : e ≡ g = cc in
    ([], f, All-nil (IsTimelyMove limits), refl, rw (← same) alike, λ h. ap (λ x. x.lines) (sym same) ∙ h)
entries_have_observed_moves class design limits observe e f g (entry ∷ entries) sees i j alike is timely =
    option_and_then_some (λ x. observed_run_from design observe (joined e x) entries) (observed_step design observe e.state entry) g is
    (λ x at_x later.
    let (transition, (y, its, at_y, near, order)) = observed_step_has_move class design observe e.state entry x i at_x in
    let (z, at_z, near') = alike_in_states_observed class design observe e.state f.state transition y sees i j alike at_y in
    let (printed, changes, alike') = effects_in-trans class x y z near near' in
    let now = (transition_is_timely class limits e.state entry transition its).0 (All-head (IsTimely limits) entry entries timely) in
    one_more class design limits observe e f x z g transition at_z now printed
    (entries_have_observed_moves class design limits observe (joined e x) (joined f z) g entries sees order (observed_move_keeps_order class design observe f.state transition z j at_z) alike' later (All-tail (IsTimely limits) entry entries timely)))
