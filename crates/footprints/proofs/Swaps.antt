-- Of loose steps that are apart, one that is taken after the other may be taken first.
use Rattle.std.proofs.Common.{◌≡◌, ◌≢◌, ◌⊎◌, ℕ, zero, suc, Bool, true, false, ◌&&◌, List, ◌∷◌, ◌++◌, Some, refl, sym, ap, subst, ◌∙◌, ◌==◌, eq-eqb, eqb-true, true≢false, inl, inr}
use Rattle.std.specs.Prelude.{cond}
use Rattle.std.specs.List.{enumerate_from}
use Rattle.logic4.specs.Vector.{Vector}
use Rattle.model.specs.declared.entry.Entry.{Entry}
use Rattle.model.specs.declared.entry.Entry.TheVariants.{Update, ActivateInactive, ActivateNba, ActivateMonitor, Advance}
use Rattle.model.specs.Design.{Design}
use Rattle.model.specs.Turns.{Turn, contains}
use Rattle.model.specs.States.{Evaluate, Event, State, without}
use Rattle.model.specs.Runs.{Effect, action_in, turn_of, turn_effect, update_effect}
use Rattle.orders.specs.Alike.{IsInOrder, updates_in}
use Rattle.orders.proofs.EventLists.{updates-append, updates_left}
use Rattle.orders.proofs.Stores.{append-none}
use Rattle.orders.proofs.TurnFrame.{contains_right}
use Rattle.loose.specs.declared.transition.LooseTransition.{LooseTransition}
use Rattle.loose.specs.declared.transition.LooseTransition.TheVariants.{Process, FirstOf, Change}
use Rattle.loose.specs.Loose.{of_class, updates_of_class}
use Rattle.loose.proofs.ClassLists.{HasFirstOf, find_first, class_taken}
use Rattle.footprints.specs.Footprints.{Footprint, turn_footprint, update_footprint, changed_registers, AreApart, process_of_actor, concerned}
use Rattle.footprints.specs.FootprintLaws.{IsStepWith}
use Rattle.footprints.specs.Moves.{OrderedState, IsWaiting, IsMove, GivesTo, LooseStepsHaveSwaps}
use Rattle.footprints.proofs.Waking.{evaluations_made, made_updates}
use Rattle.footprints.proofs.Deeds.{Deed, Done, changes_by, turn_deed, update_deed}
use Rattle.footprints.proofs.Exchange.{Differ, Leaves, changes_kept}
use Rattle.footprints.proofs.Steps.{Acts, step_acts, acts_step, acts_done, Matches, acts_match, turn_was, turn_print_stays, update_print_stays}
use Rattle.footprints.proofs.StepsApart.{IsOfDeed, leaves, differ_of, writes_apart, uses_apart}
use Rattle.footprints.proofs.AlikeFootprints.{first_of_class, is_of_process}
use Rattle.footprints.proofs.LooseMoves.{step_order}

-- two actors are one, or they differ

abbrev kind_of : Entry → ℕ
kind_of (Entry.Turn n) = 0
kind_of (Update n) = 1
kind_of ActivateInactive = 2
kind_of ActivateNba = 3
kind_of ActivateMonitor = 4
kind_of (Advance time) = 5

abbrev number_of : Entry → ℕ
number_of (Entry.Turn n) = n
number_of (Update n) = n
number_of ActivateInactive = 0
number_of ActivateNba = 0
number_of ActivateMonitor = 0
number_of (Advance time) = time

abbrev entry_with : ℕ → ℕ → Entry
entry_with zero n = Entry.Turn n
entry_with (suc zero) n = Update n
entry_with (suc (suc zero)) n = ActivateInactive
entry_with (suc (suc (suc zero))) n = ActivateNba
entry_with (suc (suc (suc (suc zero)))) n = ActivateMonitor
entry_with (suc (suc (suc (suc (suc k))))) n = Advance n

same_again : (a : Entry) → entry_with (kind_of a) (number_of a) ≡ a
same_again (Entry.Turn n) = refl
same_again (Update n) = refl
same_again ActivateInactive = refl
same_again ActivateNba = refl
same_again ActivateMonitor = refl
same_again (Advance time) = refl

decide_entries : (a b : Entry) (k n : Bool) → (kind_of a == kind_of b) ≡ k → (number_of a == number_of b) ≡ n → (a ≡ b) ⊎ (a ≢ b)
decide_entries a b true true kinds numbers =
    inl (sym (same_again a) ∙ ap (λ k. entry_with k (number_of a)) (eqb-true (kind_of a) (kind_of b) kinds) ∙ ap (entry_with (kind_of b)) (eqb-true (number_of a) (number_of b) numbers) ∙ same_again b)
decide_entries a b true false kinds numbers = inr (λ same. true≢false (sym (eq-eqb (number_of a) (number_of b) (ap number_of same)) ∙ numbers))
decide_entries a b false n kinds numbers = inr (λ same. true≢false (sym (eq-eqb (kind_of a) (kind_of b) (ap kind_of same)) ∙ kinds))

abbrev number_in : LooseTransition → ℕ
number_in (Process p) = p
number_in (FirstOf c) = c
number_in (Change entry) = 0

abbrev entry_in : LooseTransition → Entry
entry_in (Process p) = ActivateInactive
entry_in (FirstOf c) = ActivateInactive
entry_in (Change entry) = entry

numbers_decide : (a b : LooseTransition) (same : Bool) → (number_in a == number_in b) ≡ same → (number_in a ≡ number_in b → a ≡ b) → (a ≡ b) ⊎ (a ≢ b)
numbers_decide a b true is one = inl (one (eqb-true (number_in a) (number_in b) is))
numbers_decide a b false is one = inr (λ same. true≢false (sym (eq-eqb (number_in a) (number_in b) (ap number_in same)) ∙ is))

entries_decide : (a b : Entry) → (a ≡ b) ⊎ (a ≢ b) → (Change a ≡ Change b) ⊎ (Change a ≢ Change b)
entries_decide a b (inl same) = inl (ap Change same)
entries_decide a b (inr differ) = inr (λ same. differ (ap entry_in same))

decides : (a b : LooseTransition) → (a ≡ b) ⊎ (a ≢ b)
decides (Process p) (Process q) = numbers_decide (Process p) (Process q) (p == q) refl (λ same. ap Process same)
decides (Process p) (FirstOf c) = inr (λ same. cc)
decides (Process p) (Change e) = inr (λ same. cc)
decides (FirstOf c) (Process p) = inr (λ same. cc)
decides (FirstOf c) (FirstOf k) = numbers_decide (FirstOf c) (FirstOf k) (c == k) refl (λ same. ap FirstOf same)
decides (FirstOf c) (Change e) = inr (λ same. cc)
decides (Change d) (Process p) = inr (λ same. cc)
decides (Change d) (FirstOf c) = inr (λ same. cc)
decides (Change d) (Change e) = entries_decide d e (decide_entries d e (kind_of d == kind_of e) (number_of d == number_of e) refl refl)

-- the updates of a class of which a step takes none

left_if : (class : ℕ → ℕ) (c q : ℕ) (w : Vector) (us : List (ℕ × Vector)) (b : Bool) → (class q == c) ≡ b → class q ≢ c → cond b ((q, w) ∷ of_class class c us) (of_class class c us) ≡ of_class class c us
left_if class c q w us true is other = absurd (other (eqb-true (class q) c is))
left_if class c q w us false is other = refl

class_left : (class : ℕ → ℕ) (design : Design) (s : State) (entry : Entry) (d : Deed) (x : Effect) (f : Footprint) (c : ℕ) → IsInOrder s → Acts class design s entry d x f → f.owner ≢ FirstOf c
    → updates_of_class class c s.active ≡ updates_of_class class c (without d.number s.active)
class_left class design s (Entry.Turn n) d x f c order (p, t, is, found, same_d, same_x, same_f) other =
    ap (of_class class c) (updates_left n p 0 s.next_event s.active order.active is) ∙ ap (λ e. updates_of_class class c (without e.number s.active)) (sym same_d)
class_left class design s (Update n) d x f c order (q, w, is, first, same_d, same_x, same_f) other =
    let differ : class q ≢ c = λ same. other (ap (λ g. g.owner) same_f ∙ ap FirstOf same) in
    class_taken class c n q 0 s.next_event w s.active order.active is first ∙ left_if class c q w (updates_in (without n s.active)) (class q == c) refl differ
    ∙ ap (λ e. updates_of_class class c (without e.number s.active)) (sym same_d)
class_left class design s ActivateInactive d x f c order acts other = absurd acts
class_left class design s ActivateNba d x f c order acts other = absurd acts
class_left class design s ActivateMonitor d x f c order acts other = absurd acts
class_left class design s (Advance time) d x f c order acts other = absurd acts

-- what is active after a step has the same updates of such a class
class_kept : (class : ℕ → ℕ) (design : Design) (s : State) (entry : Entry) (d : Deed) (x : Effect) (f : Footprint) (c : ℕ) → IsInOrder s → Acts class design s entry d x f → Done s d x.state → f.owner ≢ FirstOf c
    → updates_of_class class c s.active ≡ updates_of_class class c x.state.active
class_kept class design s entry d x f c order acts done other =
    let old : List Event = without d.number s.active in
    let new : List Event = enumerate_from s.next_event (evaluations_made (changes_by s d) s.processes) in
    let same : updates_in x.state.active ≡ updates_in old =
    ap updates_in done.active ∙ updates-append old new ∙ ap (λ us. updates_in old ++ us) (made_updates s.next_event (changes_by s d) s.processes) ∙ append-none (updates_in old) in
    class_left class design s entry d x f c order acts other ∙ ap (of_class class c) (sym same)

-- the second step, before the first

-- an actor takes a step with this footprint from a state
abbrev Takes : (ℕ → ℕ) → Design → State → Footprint → Type 0
Takes class design s g = (entry : Entry) × (y : Effect) × IsStepWith class design s entry g y

turn_first : (class : ℕ → ℕ) (design : Design) (s : State) (d : Deed) (x : Effect) (f g : Footprint) (m q : ℕ) (u : Turn) → s.finished ≡ false → Done s d x.state → Matches class s d x f → AreApart f g
    → action_in s.active m ≡ Some (Evaluate q) → turn_of design x.state q ≡ Some u → g ≡ turn_footprint class x.state q u → Takes class design s g
turn_first class design s d x f g m q u going done match apart is found same =
    let e : Deed = turn_deed m q u in
    let writes : g.writes ≡ e.writes = ap (λ h. h.writes) same in
    let kept : changes_by x.state e ≡ changes_by s e = changes_kept s x.state d e done (writes_apart class s d x f g e.writes match writes apart) in
    let of : IsOfDeed s e g = record { writes = writes; changes = ap (λ h. h.changes) same ∙ kept; own = (ap (λ h. h.owner) same, ap (λ h. h.awaits) same) } in
    let off : Leaves s d e = leaves class s d e x f g match of apart in
    let differ : Differ d.own e.own = differ_of f g d.own e.own match.own of.own apart in
    let used : (r : ℕ) → contains u.uses r ≡ true → contains (changed_registers (changes_by s d)) r ≡ false = λ r h. uses_apart class s d x f g match apart r (ap (λ h. contains h.uses r) same ∙ h) in
    let acts : Acts class design s (Entry.Turn m) e (turn_effect s m q u) g =
    (q, u, is, turn_was design s x.state d q u done differ used found, refl, refl, same ∙ turn_print_stays class s x.state d m q u done off differ) in
    (Entry.Turn m, turn_effect s m q u, acts_step class design s (Entry.Turn m) e (turn_effect s m q u) g going acts)

update_first : (class : ℕ → ℕ) (design : Design) (s : State) (d : Deed) (x : Effect) (f g : Footprint) (r : ℕ) (v : Vector) → s.finished ≡ false → Done s d x.state → Matches class s d x f → AreApart f g
    → HasFirstOf class (class r) s.active r v → g ≡ update_footprint class x.state r v → Takes class design s g
update_first class design s d x f g r v going done match apart (m, is, first) same =
    let e : Deed = update_deed m r v in
    let writes : g.writes ≡ e.writes = ap (λ h. h.writes) same in
    let kept : changes_by x.state e ≡ changes_by s e = changes_kept s x.state d e done (writes_apart class s d x f g e.writes match writes apart) in
    let of : IsOfDeed s e g = record { writes = writes; changes = ap (λ h. h.changes) same ∙ kept; own = tt } in
    let off : Leaves s d e = leaves class s d e x f g match of apart in
    let acts : Acts class design s (Update m) e (update_effect s m r v) g = (r, v, is, first, refl, refl, same ∙ update_print_stays class s x.state d m r v done off) in
    (Update m, update_effect s m r v, acts_step class design s (Update m) e (update_effect s m r v) g going acts)

takes_first : (class : ℕ → ℕ) (design : Design) (s : State) (b : LooseTransition) (a e : Entry) (d h : Deed) (x y : Effect) (f g : Footprint) → IsInOrder s → s.finished ≡ false → Acts class design s a d x f → Acts class design x.state e h y g
    → AreApart f g → g.owner ≡ b → IsWaiting class s b → Takes class design s g
takes_first class design s b a (Entry.Turn n) d h x y f g order going acts (q, u, is, found, same_h, same_y, same_g) apart owner (m, action, at_m, own) =
    let process : Process q ≡ b = sym (ap (λ z. z.owner) same_g) ∙ owner in
    let at_q : action_in s.active m ≡ Some (Evaluate q) = at_m ∙ is_of_process class q (Some action) (own ∙ ap Some (sym process)) in
    turn_first class design s d x f g m q u going (acts_done class design s a d x f order going acts) (acts_match class design s a d x f acts) apart at_q found same_g
takes_first class design s b a (Update n) d h x y f g order going acts (r, v, is, first, same_h, same_y, same_g) apart owner waits =
    let done : Done s d x.state = acts_done class design s a d x f order going acts in
    let other : f.owner ≢ FirstOf (class r) = λ same. apart.owners (same ∙ sym (ap (λ z. z.owner) same_g)) in
    let (us, head) = first_of_class class n r 0 x.state.next_event v x.state.active done.order.active is first in
    let at_s : updates_of_class class (class r) s.active ≡ (r, v) ∷ us = class_kept class design s a d x f (class r) order acts done other ∙ head in
    update_first class design s d x f g r v going done (acts_match class design s a d x f acts) apart (find_first class (class r) r 0 s.next_event v s.active us order.active at_s) same_g
takes_first class design s b a ActivateInactive d h x y f g order going acts acts' apart owner waits = absurd acts'
takes_first class design s b a ActivateNba d h x y f g order going acts acts' apart owner waits = absurd acts'
takes_first class design s b a ActivateMonitor d h x y f g order going acts acts' apart owner waits = absurd acts'
takes_first class design s b a (Advance time) d h x y f g order going acts acts' apart owner waits = absurd acts'

before : (class : ℕ → ℕ) (design : Design) (s m n : OrderedState) (a b : LooseTransition) (f g : Footprint) → IsMove class design s.0 a f m.0 → IsMove class design m.0 b g n.0 → IsWaiting class s.0 b → AreApart f g
    → (v : OrderedState) × IsMove class design s.0 b g v.0
before class design s m n a b f g (entry, x, step, owner, leads) (later, y, step', owner', leads') waits apart =
    let (going, (d, acts)) = step_acts class design s.0 entry x f step in
    let there : IsStepWith class design x.state later g y = subst (λ z. IsStepWith class design z later g y) (sym leads) step' in
    let (going', (e, acts')) = step_acts class design x.state later y g there in
    let (first, z, taken) = takes_first class design s.0 b entry later d e x y f g s.1 going acts acts' apart owner' waits in
    ((z.state, step_order class design s.0 first g z s.1 taken), (first, z, taken, owner', refl))

-- steps that are apart don't wake one process

gives_one : (f g : Footprint) (b : LooseTransition) → AreApart f g → GivesTo f b → GivesTo g b → ⊥
gives_one f g b apart (p, is, woken) (q, is', woken') =
    let one : q ≡ p = ap number_in (sym is' ∙ is) in
    let here : contains (concerned f) p ≡ true = contains_right (process_of_actor f.owner) f.woken p woken in
    let there : contains (concerned g) p ≡ true = contains_right (process_of_actor g.owner) g.woken p (ap (contains g.woken) (sym one) ∙ woken') in
    true≢false (sym (ap (λ c. c && contains (concerned g) p) here ∙ there) ∙ apart.processes p)

pub loose_steps_have_swaps : LooseStepsHaveSwaps
loose_steps_have_swaps class design =
    record {
      decides = decides;
      before = λ s m n a b f g differ move later waits apart. before class design s m n a b f g move later waits apart;
      gives_one = gives_one;
    }
