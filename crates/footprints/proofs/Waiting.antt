-- What is active after a step: what was, and the evaluations of those that it woke.
use Rattle.std.proofs.Common.{◌≡◌, ◌⊎◌, ℕ, ◌+◌, ◌≤◌, Bool, true, false, not, List, [], ◌∷◌, ◌++◌, length, Some, None, refl, sym, ap, ◌∙◌, if◌then◌else◌, ◌==◌, arith, eqb-true, inl, inr}
use Rattle.std.specs.Prelude.{cond}
use Rattle.std.specs.List.{enumerate_from}
use Rattle.logic4.specs.Vector.{Vector}
use Rattle.model.specs.declared.entry.Entry.{Entry}
use Rattle.model.specs.declared.entry.Entry.TheVariants.{Update, ActivateInactive, ActivateNba, ActivateMonitor, Advance}
use Rattle.model.specs.Design.{Design}
use Rattle.model.specs.Turns.{contains}
use Rattle.model.specs.States.{Action, Evaluate, Event, Continuation, State, without}
use Rattle.model.specs.Runs.{Effect, action_in, taken}
use Rattle.model.specs.Laws.{times_in, evaluations_in}
use Rattle.orders.specs.Alike.{with_update, updates_in}
use Rattle.orders.proofs.EventLists.{evaluations-append, evaluations-taken, own_evaluation, find_evaluation, rises-numbered}
use Rattle.orders.proofs.Commuting.{still_there}
use Rattle.footprints.specs.Footprints.{RegisterChange, Footprint}
use Rattle.footprints.specs.FootprintLaws.{WaitingStays, WaitingIsGiven, WokenWaits}
use Rattle.footprints.proofs.Waking.{wakes_process, one_where, evaluations_made, made_evaluations, made_updates, woken_is}
use Rattle.footprints.proofs.Deeds.{Deed, Done, changes_by}
use Rattle.footprints.proofs.Steps.{Acts, step_acts, acts_done, Matches, acts_match, stays_active}

-- the number that an entry takes

one_or_none : (b : Bool) → (if b then 1 else 0) + 0 ≡ 0 → b ≡ false
one_or_none true h = absurd (omega (arith, h))
one_or_none false h = refl

none_then : (b : Bool) → b ≡ false → (if b then 1 else 0) + 0 ≡ 0
none_then true h = cc
none_then false h = refl

not_taken : (class : ℕ → ℕ) (design : Design) (s : State) (entry : Entry) (d : Deed) (x : Effect) (f : Footprint) (m : ℕ) → Acts class design s entry d x f → times_in m (taken (entry ∷ [])) ≡ 0 → (d.number == m) ≡ false
not_taken class design s (Entry.Turn n) d x f m (p, t, is, found, same_d, same_x, same_f) h = ap (λ e. e.number == m) same_d ∙ one_or_none (n == m) h
not_taken class design s (Update n) d x f m (r, v, is, first, same_d, same_x, same_f) h = ap (λ e. e.number == m) same_d ∙ one_or_none (n == m) h
not_taken class design s ActivateInactive d x f m acts h = absurd acts
not_taken class design s ActivateNba d x f m acts h = absurd acts
not_taken class design s ActivateMonitor d x f m acts h = absurd acts
not_taken class design s (Advance time) d x f m acts h = absurd acts

takes_other : (class : ℕ → ℕ) (design : Design) (s : State) (entry : Entry) (d : Deed) (x : Effect) (f : Footprint) (m : ℕ) → Acts class design s entry d x f → (d.number == m) ≡ false → times_in m (taken (entry ∷ [])) ≡ 0
takes_other class design s (Entry.Turn n) d x f m (p, t, is, found, same_d, same_x, same_f) h = none_then (n == m) (sym (ap (λ e. e.number == m) same_d) ∙ h)
takes_other class design s (Update n) d x f m (r, v, is, first, same_d, same_x, same_f) h = none_then (n == m) (sym (ap (λ e. e.number == m) same_d) ∙ h)
takes_other class design s ActivateInactive d x f m acts h = absurd acts
takes_other class design s ActivateNba d x f m acts h = absurd acts
takes_other class design s ActivateMonitor d x f m acts h = absurd acts
takes_other class design s (Advance time) d x f m acts h = absurd acts

pub waiting_stays : WaitingStays
waiting_stays class design s entry f x m a order step is other =
    let (going, (d, acts)) = step_acts class design s entry x f step in
    stays_active s x.state d m a (acts_done class design s entry d x f order going acts) (not_taken class design s entry d x f m acts other) is

-- an event of two lists is one of either

split_if : (x : Event) (xs ys : List Event) (m : ℕ) (a : Action) (b : Bool) → (if b then Some x.1 else action_in (xs ++ ys) m) ≡ Some a
    → (action_in (xs ++ ys) m ≡ Some a → (action_in xs m ≡ Some a) ⊎ (action_in ys m ≡ Some a)) → ((if b then Some x.1 else action_in xs m) ≡ Some a) ⊎ (action_in ys m ≡ Some a)
split_if x xs ys m a true h later = inl h
split_if x xs ys m a false h later = later h

split : (xs ys : List Event) (m : ℕ) (a : Action) → action_in (xs ++ ys) m ≡ Some a → (action_in xs m ≡ Some a) ⊎ (action_in ys m ≡ Some a)
split [] ys m a h = inr h
split (x ∷ xs) ys m a h = split_if x xs ys m a (x.0 == m) h (split xs ys m a)

gone_if : (n : ℕ) (e : Event) (es : List Event) (b : Bool) → (e.0 == n) ≡ b → action_in es n ≡ None → action_in (cond (not b) (e ∷ es) es) n ≡ None
gone_if n e es true is h = h
gone_if n e es false is h = rw is h

gone : (n : ℕ) (es : List Event) → action_in (without n es) n ≡ None
gone n [] = refl
gone n (e ∷ es) = gone_if n e (without n es) (e.0 == n) refl (gone n es)

was_if : (n m : ℕ) (a : Action) (es : List Event) (b : Bool) → (n == m) ≡ b → action_in (without n es) m ≡ Some a → (action_in es m ≡ Some a) × ((n == m) ≡ false)
was_if n m a es true is h =
    let same : n ≡ m = eqb-true n m is in
    let none : None ≡ Some a = sym (gone n es) ∙ ap (action_in (without n es)) same ∙ h in
    cc
was_if n m a es false is h = (sym (still_there n m es is) ∙ h, is)

-- a new event evaluates a process that was woken

some_where : (b : Bool) → 1 ≤ one_where b → b ≡ true
some_where true h = refl
some_where false h = absurd (omega (arith, h))

no_update_first : (k : ℕ) (c : Action) (es : List Event) (m r : ℕ) (v : Vector) (b : Bool) → (if b then Some c else action_in es m) ≡ Some (Action.Update r v) → with_update c (updates_in es) ≡ []
    → (action_in es m ≡ Some (Action.Update r v) → updates_in es ≡ [] → ⊥) → ⊥
no_update_first k (Evaluate p) es m r v true is none later =
    let bad : Some (Evaluate p) ≡ Some (Action.Update r v) = is in
    cc
no_update_first k (Evaluate p) es m r v false is none later = later is none
no_update_first k (Action.Update q w) es m r v b is none later =
    let bad : (q, w) ∷ updates_in es ≡ [] = none in
    cc

no_update : (es : List Event) (m r : ℕ) (v : Vector) → action_in es m ≡ Some (Action.Update r v) → updates_in es ≡ [] → ⊥
no_update [] m r v is none = cc
no_update (e ∷ es) m r v is none = no_update_first e.0 e.1 es m r v (e.0 == m) is none (no_update es m r v)

new_wakes : (cs : List RegisterChange) (ps : List Continuation) (k m : ℕ) (a : Action) → action_in (enumerate_from k (evaluations_made cs ps)) m ≡ Some a → (p : ℕ) × (a ≡ Evaluate p) × (wakes_process cs ps p ≡ true)
new_wakes cs ps k m (Evaluate p) is =
    let made : List Action = evaluations_made cs ps in
    let new : List Event = enumerate_from k made in
    let sum : evaluations_in p new ≡ (if p == p then 1 else 0) + evaluations_in p (without m new) = evaluations-taken m p k (k + length made) (Evaluate p) new (rises-numbered k made) is in
    let some : 1 ≤ one_where (wakes_process cs ps p) = omega (arith, sum, own_evaluation p, made_evaluations p k cs ps) in
    (p, refl, some_where (wakes_process cs ps p) some)
new_wakes cs ps k m (Action.Update r v) is = absurd (no_update (enumerate_from k (evaluations_made cs ps)) m r v is (made_updates k cs ps))

pub waiting_is_given : WaitingIsGiven
waiting_is_given class design s entry f x m a order step is =
    let (going, (d, acts)) = step_acts class design s entry x f step in
    let done : Done s d x.state = acts_done class design s entry d x f order going acts in
    let match : Matches class s d x f = acts_match class design s entry d x f acts in
    let new : List Event = enumerate_from s.next_event (evaluations_made (changes_by s d) s.processes) in
    let there : action_in (without d.number s.active ++ new) m ≡ Some a = sym (ap (λ es. action_in es m) done.active) ∙ is in
    given d acts match (split (without d.number s.active) new m a there)
  where
    given : (d : Deed) → Acts class design s entry d x f → Matches class s d x f
        → (action_in (without d.number s.active) m ≡ Some a) ⊎ (action_in (enumerate_from s.next_event (evaluations_made (changes_by s d) s.processes)) m ≡ Some a)
        → ((action_in s.active m ≡ Some a) × (times_in m (taken (entry ∷ [])) ≡ 0)) ⊎ ((p : ℕ) × (a ≡ Evaluate p) × (contains f.woken p ≡ true))
    given d acts match (inl old) =
        let (was, other) = was_if d.number m a s.active (d.number == m) refl old in
        inl (was, takes_other class design s entry d x f m acts other)
    given d acts match (inr made) =
        let (p, evaluates, wakes) = new_wakes (changes_by s d) s.processes s.next_event m a made in
        inr (p, evaluates, ap (λ ws. contains ws p) match.woken ∙ woken_is (changes_by s d) s.processes p ∙ wakes)

pub woken_waits : WokenWaits
woken_waits class design s entry f x p order step woken =
    let (going, (d, acts)) = step_acts class design s entry x f step in
    let done : Done s d x.state = acts_done class design s entry d x f order going acts in
    let match : Matches class s d x f = acts_match class design s entry d x f acts in
    let old : List Event = without d.number s.active in
    let new : List Event = enumerate_from s.next_event (evaluations_made (changes_by s d) s.processes) in
    let wakes : wakes_process (changes_by s d) s.processes p ≡ true = sym (woken_is (changes_by s d) s.processes p) ∙ sym (ap (λ ws. contains ws p) match.woken) ∙ woken in
    let one : evaluations_in p new ≡ 1 = made_evaluations p s.next_event (changes_by s d) s.processes ∙ ap one_where wakes in
    let sum : evaluations_in p x.state.active ≡ evaluations_in p old + evaluations_in p new = ap (evaluations_in p) done.active ∙ evaluations-append p old new in
    find_evaluation p 0 x.state.next_event x.state.active done.order.active (omega (arith, sum, one))
