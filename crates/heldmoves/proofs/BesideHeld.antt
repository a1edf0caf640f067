-- A step of another while some processes are held, and the same step without what is held.
use Rattle.std.proofs.Common.{◌≡◌, ℕ, ◌+◌, Bool, true, false, List, ◌++◌, map, Option, Some, None, refl, sym, ap, subst, ◌∙◌, arith}
use Rattle.std.specs.Prelude.{option_map, slice_set}
use Rattle.std.specs.List.{enumerate_from}
use Rattle.model.specs.declared.entry.Refusal.TheVariants.{EarlierUpdate}
use Rattle.model.specs.declared.entry.Entry.{Entry}
use Rattle.model.specs.declared.entry.Entry.TheVariants.{Update, ActivateInactive, ActivateNba, ActivateMonitor, Advance}
use Rattle.model.specs.Design.{Design}
use Rattle.model.specs.Turns.{Turn}
use Rattle.model.specs.States.{Action, Evaluate, Event, Continuation, State, without}
use Rattle.model.specs.Runs.{Effect, action_in, turn_of, turn_effect, update_effect, turn_refusal}
use Rattle.model.specs.Laws.{evaluations_in}
use Rattle.model.proofs.RunLaws.{where_none}
use Rattle.orders.specs.Alike.{IsInOrder, updates_in}
use Rattle.orders.proofs.EventLists.{updates-append, evaluations-append}
use Rattle.orders.proofs.Stores.{append-none}
use Rattle.loose.specs.declared.transition.LooseTransition.{LooseTransition}
use Rattle.loose.specs.Loose.{of_class, has_earlier_of_class, AreAlikeIn, AlikeIn, loose_update_refusal, loose_entry_refusal, loose_step}
use Rattle.loose.proofs.LooseSteps.{loose_step_keeps_order}
use Rattle.footprints.specs.Footprints.{RegisterChange, Footprint, turn_footprint, update_footprint, action_footprint, footprint}
use Rattle.footprints.specs.FootprintLaws.{IsStepWith}
use Rattle.footprints.specs.Moves.{OrderedState, IsMove}
use Rattle.footprints.proofs.Waking.{woken_from, wakes_process, evaluations_made, one_where, made_evaluations, made_updates}
use Rattle.footprints.proofs.Deeds.{Deed, Done, placed, changes_by, turn_deed, update_deed}
use Rattle.footprints.proofs.Steps.{some_same, Acts, loose_parts, step_acts, acts_step, acts_done, Matches, acts_match}
use Rattle.heldmoves.specs.WithoutHeld.{asleep_from, others_among, without_held}
use Rattle.heldmoves.specs.HeldMoves.{IsHeldMove}
use Rattle.heldmoves.proofs.LeftAside.{was_there, earlier_same, updates_same, unless, evaluations_left, taken_same, in_order_without, turn_same, unless_held, wakes_left, all_woken, set_same}

-- the process of a deed, if it has one, isn't held
abbrev pub OwnIsOther : (ℕ → Bool) → Option (ℕ × Continuation) → Type 0
OwnIsOther held None = Unit {0}
OwnIsOther held (Some own) = held own.0 ≡ false

-- what a deed makes of a state, and of that without what is held

updates_made : (f : State) (left : List Event) (k : ℕ) (cs : List RegisterChange) (ps : List Continuation) → f.active ≡ left ++ enumerate_from k (evaluations_made cs ps) → updates_in f.active ≡ updates_in left
updates_made f left k cs ps is =
    ap updates_in is ∙ updates-append left (enumerate_from k (evaluations_made cs ps)) ∙ ap (λ us. updates_in left ++ us) (made_updates k cs ps) ∙ append-none (updates_in left)

evaluations_made_of : (p : ℕ) (f : State) (left : List Event) (k : ℕ) (cs : List RegisterChange) (ps : List Continuation) → f.active ≡ left ++ enumerate_from k (evaluations_made cs ps)
    → evaluations_in p f.active ≡ evaluations_in p left + one_where (wakes_process cs ps p)
evaluations_made_of p f left k cs ps is =
    ap (evaluations_in p) is ∙ evaluations-append p left (enumerate_from k (evaluations_made cs ps)) ∙ ap (λ n. evaluations_in p left + n) (made_evaluations p k cs ps)

both_left : (b woken : Bool) (n : ℕ) → unless b n + one_where (unless_held b woken) ≡ unless b (n + one_where woken)
both_left true woken n = omega arith
both_left false woken n = refl

processes_left : (held : ℕ → Bool) (cs : List RegisterChange) (o : Option (ℕ × Continuation)) (ps : List Continuation) → OwnIsOther held o
    → placed o (map (woken_from cs) (asleep_from held 0 ps)) ≡ asleep_from held 0 (placed o (map (woken_from cs) ps))
processes_left held cs None ps other = all_woken held cs ps
processes_left held cs (Some own) ps other =
    ap (λ xs. slice_set xs own.0 own.1) (all_woken held cs ps) ∙ set_same held own.0 own.1 (map (woken_from cs) ps) other

active_left : (class : ℕ → ℕ) (held : ℕ → Bool) (s f g : State) (d : Deed) → Done s d f → Done (without_held held s) d g → AreAlikeIn class g.active (others_among held f.active)
active_left class held s f g d h i =
    let cs : List RegisterChange = changes_by s d in
    let left : List Event = without d.number s.active in
    let same : others_among held left ≡ without d.number (others_among held s.active) = taken_same held d.number s.active in
    record {
      updates = λ c. ap (of_class class c)
          (updates_made g (without d.number (others_among held s.active)) s.next_event cs (asleep_from held 0 s.processes) i.active ∙ ap updates_in (sym same) ∙ updates_same held left
          ∙ sym (updates_made f left s.next_event cs s.processes h.active) ∙ sym (updates_same held f.active));
      evaluations = λ p.
          evaluations_made_of p g (without d.number (others_among held s.active)) s.next_event cs (asleep_from held 0 s.processes) i.active
          ∙ ap (λ es. evaluations_in p es + one_where (wakes_process cs (asleep_from held 0 s.processes) p)) (sym same)
          ∙ ap (λ n. n + one_where (wakes_process cs (asleep_from held 0 s.processes) p)) (evaluations_left held p left)
          ∙ ap (λ b. unless (held p) (evaluations_in p left) + one_where b) (wakes_left held cs s.processes p)
          ∙ both_left (held p) (wakes_process cs s.processes p) (evaluations_in p left)
          ∙ ap (unless (held p)) (sym (evaluations_made_of p f left s.next_event cs s.processes h.active)) ∙ sym (evaluations_left held p f.active);
    }

alike_left : (class : ℕ → ℕ) (held : ℕ → Bool) (s f g : State) (d : Deed) → OwnIsOther held d.own → Done s d f → Done (without_held held s) d g → AlikeIn class g (without_held held f)
alike_left class held s f g d other h i =
    record {
      time = i.time ∙ sym h.time;
      store = i.store ∙ sym h.store;
      processes = i.processes ∙ processes_left held (changes_by s d) d.own s.processes other ∙ ap (asleep_from held 0) (sym h.processes);
      active = active_left class held s f g d h i;
      inactive = record { updates = λ c. ap (of_class class c) (i.inactive_updates ∙ sym h.inactive_updates); evaluations = λ p. i.inactive p ∙ sym (h.inactive p) };
      nonblocking = record { updates = λ c. ap (of_class class c) (i.updates ∙ sym h.updates); evaluations = λ p. i.evaluations p ∙ sym (h.evaluations p) };
      monitor = i.monitor ∙ sym h.monitor;
      future_inactive = record {
        times = i.waits_times ∙ sym h.waits_times;
        due = λ t. record { updates = λ c. ap (of_class class c) (i.waits_updates t ∙ sym (h.waits_updates t)); evaluations = λ p. i.waits t p ∙ sym (h.waits t p) };
      };
      future_nonblocking = record {
        times = i.nbas_times ∙ sym h.nbas_times;
        due = λ t. record { updates = λ c. ap (of_class class c) (i.nbas_updates t ∙ sym (h.nbas_updates t)); evaluations = λ p. i.nbas_evaluations t p ∙ sym (h.nbas_evaluations t p) };
      };
      finished = i.finished ∙ sym h.finished;
    }

-- from a step to the step without what is held

abbrev ActsWithout : (ℕ → ℕ) → Design → (ℕ → Bool) → State → Entry → Footprint → Type 0
ActsWithout class design held s entry f = (d : Deed) × (y : Effect) × Acts class design (without_held held s) entry d y f

turn_without : (class : ℕ → ℕ) (design : Design) (held : ℕ → Bool) (s : State) (n p : ℕ) (f : Footprint) (o : Option Turn) → action_in (without_held held s).active n ≡ Some (Evaluate p)
    → turn_of design (without_held held s) p ≡ o → option_map (turn_footprint class (without_held held s) p) o ≡ Some f → ActsWithout class design held s (Entry.Turn n) f
turn_without class design held s n p f None at found is = cc
turn_without class design held s n p f (Some t) at found is =
    (turn_deed n p t, turn_effect (without_held held s) n p t, (p, t, at, found, refl, refl, sym (some_same (turn_footprint class (without_held held s) p t) f is)))

process_without : (class : ℕ → ℕ) (design : Design) (held : ℕ → Bool) (s : State) (n : ℕ) (f : Footprint) (o : Option Action) → IsInOrder s → action_in (without_held held s).active n ≡ o → turn_refusal (action_in s.active n) ≡ None
    → action_footprint class design (without_held held s) o ≡ Some f → ActsWithout class design held s (Entry.Turn n) f
process_without class design held s n f None order at none is = cc
process_without class design held s n f (Some (Evaluate p)) order at none is =
    turn_without class design held s n p f (turn_of design (without_held held s) p) at refl is
process_without class design held s n f (Some (Action.Update r v)) order at none is =
    let (was, other) = was_there held n 0 s.next_event (Action.Update r v) s.active order.active at in
    let bad : turn_refusal (Some (Action.Update r v)) ≡ None = sym (ap turn_refusal was) ∙ none in
    cc

update_without : (class : ℕ → ℕ) (design : Design) (held : ℕ → Bool) (s : State) (n : ℕ) (f : Footprint) (o : Option Action) → IsInOrder s → action_in (without_held held s).active n ≡ o
    → loose_update_refusal class s n (action_in s.active n) ≡ None → action_footprint class design (without_held held s) o ≡ Some f → ActsWithout class design held s (Update n) f
update_without class design held s n f None order at none is = cc
update_without class design held s n f (Some (Evaluate p)) order at none is =
    let (was, other) = was_there held n 0 s.next_event (Evaluate p) s.active order.active at in
    let bad : loose_update_refusal class s n (Some (Evaluate p)) ≡ None = sym (ap (loose_update_refusal class s n) was) ∙ none in
    cc
update_without class design held s n f (Some (Action.Update r v)) order at none is =
    let (was, other) = was_there held n 0 s.next_event (Action.Update r v) s.active order.active at in
    let none' : loose_update_refusal class s n (Some (Action.Update r v)) ≡ None = sym (ap (loose_update_refusal class s n) was) ∙ none in
    let first : has_earlier_of_class class (class r) s.active n ≡ false = (where_none (has_earlier_of_class class (class r) s.active n) EarlierUpdate None none').0 in
    (update_deed n r v, update_effect (without_held held s) n r v, (r, v, at, earlier_same class (class r) n held s.active ∙ first, refl, refl, sym (some_same (update_footprint class (without_held held s) r v) f is)))

acts_without : (class : ℕ → ℕ) (design : Design) (held : ℕ → Bool) (s : State) (entry : Entry) (f : Footprint) → IsInOrder s → loose_entry_refusal class s entry ≡ None
    → footprint class design (without_held held s) entry ≡ Some f → ActsWithout class design held s entry f
acts_without class design held s (Entry.Turn n) f order none is = process_without class design held s n f (action_in (without_held held s).active n) order refl none is
acts_without class design held s (Update n) f order none is = update_without class design held s n f (action_in (without_held held s).active n) order refl none is
acts_without class design held s ActivateInactive f order none is = cc
acts_without class design held s ActivateNba f order none is = cc
acts_without class design held s ActivateMonitor f order none is = cc
acts_without class design held s (Advance time) f order none is = cc

-- and back

abbrev ActsWith : (ℕ → ℕ) → Design → (ℕ → Bool) → State → Entry → Deed → Footprint → Type 0
ActsWith class design held s entry d f = (x : Effect) × (g : Footprint) × Acts class design s entry d x g × OwnIsOther held d.own × (g.lines ≡ f.lines)

acts_with : (class : ℕ → ℕ) (design : Design) (held : ℕ → Bool) (s : State) (entry : Entry) (d : Deed) (y : Effect) (f : Footprint) → IsInOrder s → Acts class design (without_held held s) entry d y f
    → ActsWith class design held s entry d f
acts_with class design held s (Entry.Turn n) d y f order (p, t, at, found, same_d, same_y, same_f) =
    let (was, other) = was_there held n 0 s.next_event (Evaluate p) s.active order.active at in (
      turn_effect s n p t,
      turn_footprint class s p t,
      (p, t, was, sym (turn_same design held s p) ∙ found, same_d, refl, refl),
      subst (λ (e : Deed). OwnIsOther held e.own) (sym same_d) other,
      sym (ap (λ (h : Footprint). h.lines) same_f),
    )
acts_with class design held s (Update n) d y f order (r, v, at, first, same_d, same_y, same_f) =
    let (was, other) = was_there held n 0 s.next_event (Action.Update r v) s.active order.active at in (
      update_effect s n r v,
      update_footprint class s r v,
      (r, v, was, sym (earlier_same class (class r) n held s.active) ∙ first, same_d, refl, refl),
      subst (λ (e : Deed). OwnIsOther held e.own) (sym same_d) tt,
      sym (ap (λ (h : Footprint). h.lines) same_f),
    )
acts_with class design held s ActivateInactive d y f order acts = absurd acts
acts_with class design held s ActivateNba d y f order acts = absurd acts
acts_with class design held s ActivateMonitor d y f order acts = absurd acts
acts_with class design held s (Advance time) d y f order acts = absurd acts

-- both steps lead to states that are alike without what is held
both_lead : (class : ℕ → ℕ) (design : Design) (held : ℕ → Bool) (s : State) (entry : Entry) (d : Deed) (x y : Effect) (f g : Footprint) → IsInOrder s → s.finished ≡ false → OwnIsOther held d.own → Acts class design s entry d x g
    → Acts class design (without_held held s) entry d y f → AlikeIn class y.state (without_held held x.state)
both_lead class design held s entry d x y f g order going other acts acts' =
    alike_left class held s x.state y.state d other (acts_done class design s entry d x g order going acts)
    (acts_done class design (without_held held s) entry d y f (in_order_without held s order) going acts')

-- a state without what is held, with the order of its events
abbrev pub low : (ℕ → Bool) → OrderedState → OrderedState
low held s = (without_held held s.0, in_order_without held s.0 s.1)

-- a step without what is held, which leads to what is alike without it
abbrev pub StepsLow : (ℕ → ℕ) → Design → (ℕ → Bool) → OrderedState → LooseTransition → Footprint → OrderedState → Type 0
StepsLow class design held s a f t =
    (u : OrderedState) × IsMove class design (low held s).0 a f u.0 × AlikeIn class u.0 (low held t).0

pub goes_low : (class : ℕ → ℕ) (design : Design) (held : ℕ → Bool) (s t : OrderedState) (a : LooseTransition) (f : Footprint) → IsHeldMove class design held s.0 a f t.0 → StepsLow class design held s a f t
goes_low class design held s t a f (entry, x, step, print, owner, leads) =
    let (going, none, made) = loose_parts class design s.0 entry x step in
    let (d, y, acts) = acts_without class design held s.0 entry f s.1 none print in
    let (z, g, acts', other, lines) = acts_with class design held s.0 entry d y f s.1 acts in
    let there : IsStepWith class design (without_held held s.0) entry f y = acts_step class design (without_held held s.0) entry d y f going acts in
    let step' : IsStepWith class design s.0 entry g z = acts_step class design s.0 entry d z g going acts' in
    let same : z.state ≡ t.0 = ap (λ (w : Effect). w.state) (some_same z x (sym step'.0 ∙ step)) ∙ leads in
    let near : AlikeIn class y.state (without_held held z.state) = both_lead class design held s.0 entry d z y f g s.1 going other acts' acts in
    ((y.state, loose_step_keeps_order class design (without_held held s.0) entry y (in_order_without held s.0 s.1) there.0), (entry, y, there, owner, refl), subst (λ q. AlikeIn class y.state (without_held held q)) same near)

-- and a step beside what is held, from one without it
abbrev pub StepsHeld : (ℕ → ℕ) → Design → (ℕ → Bool) → OrderedState → LooseTransition → Footprint → OrderedState → Type 0
StepsHeld class design held s a f u =
    (t : OrderedState) × IsHeldMove class design held s.0 a f t.0 × AlikeIn class u.0 (low held t).0

pub goes_high : (class : ℕ → ℕ) (design : Design) (held : ℕ → Bool) (s u : OrderedState) (a : LooseTransition) (f : Footprint) → IsMove class design (low held s).0 a f u.0 → StepsHeld class design held s a f u
goes_high class design held s u a f (entry, y, step, owner, leads) =
    let (going, (d, acts)) = step_acts class design (without_held held s.0) entry y f step in
    let (x, g, acts', other, lines) = acts_with class design held s.0 entry d y f s.1 acts in
    let step' : IsStepWith class design s.0 entry g x = acts_step class design s.0 entry d x g going acts' in
    let near : AlikeIn class y.state (without_held held x.state) = both_lead class design held s.0 entry d x y f g s.1 going other acts' acts in
    ((x.state, loose_step_keeps_order class design s.0 entry x s.1 step'.0), (entry, x, step'.0, step.1, owner, refl), subst (λ q. AlikeIn class q (without_held held x.state)) leads near)

-- a step beside what is held does a deed, whose changes and lines its footprint has
pub held_deed : (class : ℕ → ℕ) (design : Design) (held : ℕ → Bool) (s : State) (entry : Entry) (x : Effect) (f : Footprint) → IsInOrder s → loose_step class design s entry ≡ Some x
    → footprint class design (without_held held s) entry ≡ Some f → (d : Deed) × Done s d x.state × (f.changes ≡ changes_by s d) × (x.lines ≡ f.lines)
held_deed class design held s entry x f order step print =
    let (going, none, made) = loose_parts class design s entry x step in
    let (d, y, acts) = acts_without class design held s entry f order none print in
    let (z, g, acts', other, lines) = acts_with class design held s entry d y f order acts in
    let step' : IsStepWith class design s entry g z = acts_step class design s entry d z g going acts' in
    let same : z ≡ x = some_same z x (sym step'.0 ∙ step) in
    let match : Matches class (without_held held s) d y f = acts_match class design (without_held held s) entry d y f acts in
    let match' : Matches class s d z g = acts_match class design s entry d z g acts' in
    (d, subst (λ (w : Effect). Done s d w.state) same (acts_done class design s entry d z g order going acts'), match.changes, ap (λ (w : Effect). w.lines) (sym same) ∙ sym match'.lines ∙ lines)
