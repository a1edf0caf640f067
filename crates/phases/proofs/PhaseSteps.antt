-- A step in a phase leads on in it, prints nothing, and leaves what the phase doesn't touch.
use Rattle.std.proofs.Common.{◌≡◌, ◌≢◌, ℕ, zero, suc, ◌+◌, ◌<◌, ◌≤◌, Bool, true, false, eq-eqb, List, [], ◌∷◌, ◌++◌, ◌⊎◌, inl, inr, map, length, Some, refl, sym, ap, subst, ◌∙◌, ◌==◌, arith}
use Rattle.std.specs.Prelude.{slice_set, ◌||◌}
use Rattle.std.proofs.lemmas.Bool.{eqb-true}
use Rattle.std.proofs.lemmas.List.{get_or-set_same, get_or-set_other}
use Rattle.logic4.specs.Vector.{Vector}
use Rattle.model.specs.declared.entry.Entry.{Entry}
use Rattle.model.specs.declared.entry.Entry.TheVariants.{Update, ActivateInactive, ActivateNba, ActivateMonitor, Advance}
use Rattle.model.specs.Design.{Design}
use Rattle.model.specs.Expressions.{value_of}
use Rattle.model.specs.Turns.{contains, short_turn}
use Rattle.model.specs.Turns as turns
use Rattle.model.specs.States.{Action, Evaluate, Continuation, State, change_all, schedule_all, schedule_wait, taking, without, turned, updated, with_continuation, triggers_of}
use Rattle.model.specs.Runs.{Effect, action_in, has_earlier_update, remainder_of, turn_of, turn_effect, update_effect, step}
use Rattle.model.specs.Steps.{IsPermitted}
use Rattle.model.specs.Laws.{evaluations_in}
use Rattle.model.proofs.StepLaws.{step_is_exact}
use Rattle.model.proofs.TurnLaws.{short_turn_found}
use Rattle.orders.specs.Alike.{IsInOrder, updates_in}
use Rattle.orders.specs.Apart.{AgreeOn, all_given, written_by}
use Rattle.orders.proofs.EventLists.{updates_left, update_taken}
use Rattle.orders.proofs.TurnFrame.{turn_has_frame}
use Rattle.orders.proofs.Stores.{length_given, length_all, all_other}
use Rattle.phases.specs.Phase.{IsActive, Block, triggers, ComputesOutputs, IsBlock, IsConsistent, IsTurnPending, HasSettled, StandsSince, waits_for_register, updated_in, IsOutput, IsPhase, TakesEvent}
use Rattle.phases.proofs.Values.{all_both, written_again}
use Rattle.phases.proofs.Changes.{Changed, changed}
use Rattle.phases.proofs.Members.{Standing, stands_first, stands_now, stands_changed, unmoved}
use Rattle.phases.proofs.Events.{AllChanged, all_changed, stands_after, Unmoved, one_unmoved, all_unmoved, taken_other, taken_own, taken_update, stands_taken}

-- what a phase leaves as it is
abbrev pub Stays : List ℕ → (ℕ → Block) → State → State → Type 0
Stays members block s f =
    record {
      time : f.time ≡ s.time;
      registers : length f.store ≡ length s.store;
      count : length f.processes ≡ length s.processes;
      others : (q : ℕ) → contains members q ≡ false → Unmoved s q f;
      inactive : f.inactive ≡ s.inactive;
      nonblocking : f.nonblocking ≡ s.nonblocking;
      monitor : f.monitor ≡ s.monitor;
      future_inactive : f.future_inactive ≡ s.future_inactive;
      future_nonblocking : f.future_nonblocking ≡ s.future_nonblocking;
      finished : f.finished ≡ s.finished;
      values : (r : ℕ) → (IsOutput members block r → ⊥) → value_of (all_given f.store (updates_in f.active)) r ≡ value_of (all_given s.store (updates_in s.active)) r;
    }

-- how the members stand since an earlier state
abbrev pub AllStand : Design → List ℕ → (ℕ → Block) → State → State → Type 0
AllStand design members block start s = (p : ℕ) → contains members p ≡ true → StandsSince design start s p (block p)

pub all_first : (design : Design) (members : List ℕ) (block : ℕ → Block) (rank : ℕ → ℕ) (s : State) → IsPhase design s members block rank → AllStand design members block s s
all_first design members block rank s phase p member = stands_first design s p (block p) (phase.stands p member)

-- what stays a phase

inside_if : (members : List ℕ) (s f : State) (q : ℕ) (is : Bool) → contains members q ≡ is → ((q : ℕ) → contains members q ≡ false → Unmoved s q f)
    → ((q : ℕ) → IsActive s q → contains members q ≡ true) → IsActive f q → contains members q ≡ true
inside_if members s f q true is others inside active = is
inside_if members s f q false is others inside active =
    let same : evaluations_in q f.active ≡ evaluations_in q s.active = (others q is).1 in
    inside q (omega (arith, same, active))

pub phase_after : (design : Design) (members : List ℕ) (block : ℕ → Block) (rank : ℕ → ℕ) (start s f : State) → IsPhase design s members block rank → Stays members block s f
    → ((r : ℕ) → contains (updated_in f) r ≡ true → contains (updated_in s) r ≡ true) → AllStand design members block start f → IsPhase design f members block rank
phase_after design members block rank start s f phase stays fewer stand =
    record {
      goes_on = stays.finished ∙ phase.goes_on;
      inside = λ q active. inside_if members s f q (contains members q) refl stays.others phase.inside active;
      exist = λ p is. rw stays.count (phase.exist p is);
      blocks = phase.blocks;
      stands = λ p is. stands_now design start f p (block p) (stand p is);
      single = phase.single;
      updates = λ r is p member. phase.updates r (fewer r is) p member;
      order = phase.order;
      others = λ q r not_one touched. ap (λ x. waits_for_register x r) (stays.others q not_one).0 ∙ phase.others q r not_one (still r touched);
    }
  where
    still : (r : ℕ) → contains (updated_in f) r ≡ true ⊎ IsOutput members block r → contains (updated_in s) r ≡ true ⊎ IsOutput members block r
    still r (inl is) = inl (fewer r is)
    still r (inr out) = inr out

-- a member's turn

turn_leaves : (s : State) (n p : ℕ) (t : turns.Turn) (b : Block) → ComputesOutputs b t → turned s n p t ≡ with_continuation p t (change_all (taking n s) t.writes)
turn_leaves s n p t b c =
    ap (λ w. with_continuation p t (schedule_wait p w (schedule_all (change_all (taking n s) t.writes) t.nbas))) c.wait
    ∙ ap (λ ls. with_continuation p t (schedule_all (change_all (taking n s) t.writes) ls)) c.nbas

not_written : (b : Block) (t : turns.Turn) (r : ℕ) (is : Bool) → contains (written_by t) r ≡ is → ComputesOutputs b t → contains b.outputs r ≡ false → contains (written_by t) r ≡ false
not_written b t r true is c none =
    let bad : contains b.outputs r ≡ true = c.writes r is in
    cc
not_written b t r false is c none = is

no_output : (design : Design) (p : ℕ) (b : Block) (r : ℕ) (is : Bool) → contains b.outputs r ≡ is → IsBlock design p b → contains b.inputs r ≡ true → contains b.outputs r ≡ false
no_output design p b r true is block input =
    let bad : contains b.inputs r ≡ false = block.apart r is in
    cc
no_output design p b r false is block input = is

-- its own block is settled behind it
own_consistent : (design : Design) (s f : State) (p : ℕ) (b : Block) (t : turns.Turn) → IsBlock design p b → short_turn design p b.rest s.store s.time ≡ Some t → ComputesOutputs b t
    → f.time ≡ s.time → f.store ≡ all_given s.store t.writes → IsConsistent design f p b
own_consistent design s f p b t block at c time store turn is =
    let len : length s.store ≡ length f.store = sym (ap length store ∙ length_all s.store t.writes) in
    let agree : AgreeOn t.uses s.store f.store =
    λ r used.
    let none : contains b.outputs r ≡ false = no_output design p b r (contains b.outputs r) refl block (c.reads r used) in
    sym (ap (λ a. value_of a r) store ∙ all_other s.store t.writes r (not_written b t r (contains (written_by t) r) refl c none)) in
    let frame : short_turn design p b.rest f.store s.time ≡ Some t = turn_has_frame design p b.rest s.store f.store s.time t len at agree in
    let both : Some t ≡ Some turn = sym frame ∙ ap (λ now. short_turn design p b.rest f.store now) (sym time) ∙ is in
    let same : t ≡ turn = cc in
    let again : all_given f.store t.writes ≡ f.store = ap (λ a. all_given a t.writes) store ∙ written_again s.store t.writes ∙ sym store in
    subst (λ (x : turns.Turn). all_given f.store x.writes ≡ f.store) same again

settled_after : (design : Design) (s : State) (n p : ℕ) (b : Block) (t : turns.Turn) → IsInOrder s → action_in s.active n ≡ Some (Evaluate p) → p < length s.processes → IsBlock design p b
    → IsTurnPending s p b → short_turn design p b.rest s.store s.time ≡ Some t → ComputesOutputs b t → HasSettled design (with_continuation p t (change_all (taking n s) t.writes)) p b
settled_after design s n p b t order at exists block (one, continuation) is c =
    let x : State = change_all (taking n s) t.writes in
    let all : AllChanged (taking n s) t.writes x = all_changed (taking n s) t.writes in
    let still : Unmoved (taking n s) p x = all_unmoved (taking n s) t.writes p (λ r wrote. ap (λ y. waits_for_register y r) continuation) in
    let own : evaluations_in p s.active ≡ 1 + evaluations_in p (without n s.active) = taken_own s n p order at in
    let inside : p < length x.processes = rw all.count exists in
    let new : Continuation = record { remainder = t.rest; triggers = triggers_of t.wait } in
    let new_is : new ≡ record { remainder = b.rest; triggers = triggers b } = rw (c.rest, c.wait) refl in (
      omega (arith, one, own, still.1),
      get_or-set_same x.processes p new (record { remainder = []; triggers = [] }) inside ∙ new_is,
      own_consistent design s (with_continuation p t x) p b t block is c all.time all.store,
    )

with_other : (design : Design) (start x : State) (p q : ℕ) (t : turns.Turn) (b : Block) → q ≢ p → StandsSince design start x q b → StandsSince design start (with_continuation p t x) q b
with_other design start x p q t b other (inl (evaluations, continuation)) =
    inl (evaluations, get_or-set_other x.processes p q (record { remainder = t.rest; triggers = triggers_of t.wait }) (record { remainder = []; triggers = [] }) other ∙ continuation)
with_other design start x p q t b other (inr (inl (evaluations, continuation, consistent))) =
    inr (inl (evaluations, get_or-set_other x.processes p q (record { remainder = t.rest; triggers = triggers_of t.wait }) (record { remainder = []; triggers = [] }) other ∙ continuation, consistent))
with_other design start x p q t b other (inr (inr h)) =
    inr
    (inr
    (record {
      waits = (h.waits.0, get_or-set_other x.processes p q (record { remainder = t.rest; triggers = triggers_of t.wait }) (record { remainder = []; triggers = [] }) other ∙ h.waits.1);
      waited = h.waited;
      time = h.time;
      registers = h.registers;
      inputs = h.inputs;
      outputs = h.outputs;
    }))

no_value : (members : List ℕ) (block : ℕ → Block) (p r : ℕ) (t : turns.Turn) (is : Bool) → contains (written_by t) r ≡ is → contains members p ≡ true → ComputesOutputs (block p) t
    → (IsOutput members block r → ⊥) → contains (written_by t) r ≡ false
no_value members block p r t true is member c none = absurd (none (p, member, c.writes r is))
no_value members block p r t false is member c none = is

apart_from : (members : List ℕ) (p q : ℕ) (is : Bool) → (p == q) ≡ is → contains members p ≡ true → contains members q ≡ false → (p == q) ≡ false
apart_from members p q true is member other =
    let same : p ≡ q = eqb-true p q is in
    let bad : contains members p ≡ false = rw same other in
    cc
apart_from members p q false is member other = is

unequal : (p q : ℕ) → (p == q) ≡ false → q ≢ p
unequal p q is same =
    let bad : (p == q) ≡ true = eq-eqb p q (sym same) in
    cc

turn_stays : (design : Design) (members : List ℕ) (block : ℕ → Block) (rank : ℕ → ℕ) (s : State) (n p : ℕ) (t : turns.Turn) → IsInOrder s → IsPhase design s members block rank
    → action_in s.active n ≡ Some (Evaluate p) → contains members p ≡ true → ComputesOutputs (block p) t → Stays members block s (with_continuation p t (change_all (taking n s) t.writes))
turn_stays design members block rank s n p t order phase at member c =
    let x : State = change_all (taking n s) t.writes in
    let all : AllChanged (taking n s) t.writes x = all_changed (taking n s) t.writes in
    let updates : updates_in x.active ≡ updates_in s.active = all.updates ∙ sym (updates_left n p 0 s.next_event s.active order.active at) in
    record {
      time = all.time;
      registers = ap length all.store ∙ length_all s.store t.writes;
      count = length_continuation x.processes p (record { remainder = t.rest; triggers = triggers_of t.wait }) ∙ all.count;
      others = λ q is.
          let other : (p == q) ≡ false = apart_from members p q (p == q) refl member is in
          let (continuation, evaluations) = all_unmoved (taking n s) t.writes q (λ r wrote. phase.others q r is (inr (p, member, c.writes r wrote))) in (
            get_or-set_other x.processes p q (record { remainder = t.rest; triggers = triggers_of t.wait }) (record { remainder = []; triggers = [] }) (unequal p q other) ∙ continuation,
            evaluations ∙ taken_other s n p q s.next_event order at other,
          );
      inactive = all.inactive;
      nonblocking = all.nonblocking;
      monitor = ap (λ ms. x.monitor ++ ms) c.strobes ∙ no_more x.monitor ∙ all.monitor;
      future_inactive = all.future_inactive;
      future_nonblocking = all.future_nonblocking;
      finished = c.finish ∙ sym phase.goes_on;
      values = λ r none.
          let same : value_of x.store r ≡ value_of s.store r =
          ap (λ a. value_of a r) all.store ∙ all_other s.store t.writes r (no_value members block p r t (contains (written_by t) r) refl member c none) in
          ap (λ us. value_of (all_given x.store us) r) updates ∙ all_both x.store s.store (updates_in s.active) r (ap length all.store ∙ length_all s.store t.writes) same;
    }
  where
    no_more : {A : Type 0} → (xs : List A) → xs ++ [] ≡ xs
    no_more [] = refl
    no_more (x ∷ xs) = ap (λ ys. x ∷ ys) (no_more xs)

    length_continuation : (ps : List Continuation) (p : ℕ) (y : Continuation) → length (slice_set ps p y) ≡ length ps
    length_continuation [] p y = refl
    length_continuation (x ∷ ps) zero y = refl
    length_continuation (x ∷ ps) (suc p) y = ap suc (length_continuation ps p y)

stands_turned : (design : Design) (members : List ℕ) (block : ℕ → Block) (rank : ℕ → ℕ) (start s : State) (n p q : ℕ) (t : turns.Turn) (is : Bool) → (p == q) ≡ is → IsInOrder s
    → IsPhase design s members block rank → AllStand design members block start s → action_in s.active n ≡ Some (Evaluate p) → contains members p ≡ true → contains members q ≡ true → IsTurnPending s p (block p)
    → short_turn design p (block p).rest s.store s.time ≡ Some t → ComputesOutputs (block p) t → StandsSince design start (with_continuation p t (change_all (taking n s) t.writes)) q (block q)
stands_turned design members block rank start s n p q t true is order phase stand at member member' pending at_t c =
    let same : p ≡ q = eqb-true p q is in
    subst (λ k. StandsSince design start (with_continuation p t (change_all (taking n s) t.writes)) k (block k)) same
    (inr (inl (settled_after design s n p (block p) t order at (phase.exist p member) (phase.blocks p member) pending at_t c)))
stands_turned design members block rank start s n p q t false is order phase stand at member member' pending at_t c =
    let differ : q ≢ p = unequal p q is in
    let taken : StandsSince design start (taking n s) q (block q) = stands_taken design start s n q (block q) (taken_other s n p q s.next_event order at is) (stand q member') in
    let after : StandsSince design start (change_all (taking n s) t.writes) q (block q) =
    stands_after design start (taking n s) t.writes q (block q) (phase.blocks q member')
    (λ r wrote. phase.single p q r member member' (λ same. differ (sym same)) (c.writes r wrote)) taken in
    with_other design start (change_all (taking n s) t.writes) p q t (block q) differ after

-- what a step of a phase comes to
abbrev pub Steps : Design → List ℕ → (ℕ → Block) → (ℕ → ℕ) → State → State → Effect → Type 0
Steps design members block rank start s f =
    (f.lines ≡ []) × IsPhase design f.state members block rank × Stays members block s f.state × AllStand design members block start f.state

pending_one : (s : State) (p : ℕ) (b : Block) → 1 ≤ evaluations_in p s.active → Standing s p b → IsTurnPending s p b
pending_one s p b active (inl h) = h
pending_one s p b active (inr (none, continuation)) = absurd (omega (arith, active, none))

turn_steps : (design : Design) (members : List ℕ) (block : ℕ → Block) (rank : ℕ → ℕ) (start s : State) (n p : ℕ) (turn : turns.Turn) → IsInOrder s → IsPhase design s members block rank
    → AllStand design members block start s → action_in s.active n ≡ Some (Evaluate p) → turn_of design s p ≡ Some turn → Steps design members block rank start s (turn_effect s n p turn)
turn_steps design members block rank start s n p turn order phase stand at is =
    let own : evaluations_in p s.active ≡ 1 + evaluations_in p (without n s.active) = taken_own s n p order at in
    let active : 1 ≤ evaluations_in p s.active = omega (arith, own) in
    let member : contains members p ≡ true = phase.inside p active in
    let pending : IsTurnPending s p (block p) = pending_one s p (block p) active (phase.stands p member) in
    let (t, at_t, c) = (phase.blocks p member).turns s.store s.time in
    let found : turn_of design s p ≡ Some t = ap (λ (x : Continuation). short_turn design p x.remainder s.store s.time) pending.1 ∙ at_t in
    let both : Some t ≡ Some turn = sym found ∙ is in
    let same : t ≡ turn = cc in
    let f : State = with_continuation p t (change_all (taking n s) t.writes) in
    let here : turned s n p t ≡ f = turn_leaves s n p t (block p) c in
    let stays : Stays members block s f = turn_stays design members block rank s n p t order phase at member c in
    let updates : updates_in f.active ≡ updates_in s.active = (all_changed (taking n s) t.writes).updates ∙ sym (updates_left n p 0 s.next_event s.active order.active at) in
    let stand' : AllStand design members block start f = λ q member'. stands_turned design members block rank start s n p q t (p == q) refl order phase stand at member member' pending at_t c in
    let phase' : IsPhase design f members block rank =
    phase_after design members block rank start s f phase stays (λ r there. ap (λ us. contains (map (λ (u : ℕ × Vector). u.0) us) r) (sym updates) ∙ there) stand' in
    subst (λ (x : turns.Turn). Steps design members block rank start s (turn_effect s n p x)) same (
      c.lines,
      subst (λ x. IsPhase design x members block rank) (sym here) phase',
      subst (λ x. Stays members block s x) (sym here) stays,
      subst (λ x. AllStand design members block start x) (sym here) stand',
    )

-- an update

update_stays : (design : Design) (members : List ℕ) (block : ℕ → Block) (rank : ℕ → ℕ) (s : State) (n r : ℕ) (v : Vector) → IsInOrder s → IsPhase design s members block rank
    → action_in s.active n ≡ Some (Action.Update r v) → updates_in s.active ≡ (r, v) ∷ updates_in (without n s.active) → Stays members block s (updated s n r v)
update_stays design members block rank s n r v order phase at first =
    let x : State = updated s n r v in
    let c : Changed (taking n s) r v x = changed (taking n s) r v in
    record {
      time = c.time;
      registers = ap length c.store ∙ length_given s.store (r, v);
      count = c.count;
      others = λ q is.
          let touched : contains (updated_in s) r ≡ true = rw first (first_there r (updates_in (without n s.active))) in
          let (continuation, evaluations) = one_unmoved (taking n s) x r v q c (unmoved (taking n s) r v q (phase.others q r is (inl touched))) in
          (continuation, evaluations ∙ taken_update s n r q v order at);
      inactive = c.inactive;
      nonblocking = c.nonblocking;
      monitor = c.monitor;
      future_inactive = c.future_inactive;
      future_nonblocking = c.future_nonblocking;
      finished = c.finished;
      values = λ q none.
          ap (λ us. value_of (all_given x.store us) q) c.updates ∙ ap (λ a. value_of (all_given a (updates_in (without n s.active))) q) c.store
          ∙ ap (λ us. value_of (all_given s.store us) q) (sym first);
    }
  where
    first_there : (r : ℕ) (us : List (ℕ × Vector)) → (r == r || contains (map (λ (u : ℕ × Vector). u.0) us) r) ≡ true
    first_there r us =
        let own : (r == r) ≡ true = eq-eqb r r refl in
        rw own refl

or_right : (a b : Bool) → b ≡ true → (a || b) ≡ true
or_right true b h = refl
or_right false b h = h

update_steps : (design : Design) (members : List ℕ) (block : ℕ → Block) (rank : ℕ → ℕ) (start s : State) (n r : ℕ) (v : Vector) → IsInOrder s → IsPhase design s members block rank
    → AllStand design members block start s → action_in s.active n ≡ Some (Action.Update r v) → has_earlier_update s.active n ≡ false → Steps design members block rank start s (update_effect s n r v)
update_steps design members block rank start s n r v order phase stand at earliest =
    let first : updates_in s.active ≡ (r, v) ∷ updates_in (without n s.active) = update_taken n r 0 s.next_event v s.active order.active at earliest in
    let x : State = updated s n r v in
    let c : Changed (taking n s) r v x = changed (taking n s) r v in
    let stays : Stays members block s x = update_stays design members block rank s n r v order phase at first in
    let fewer : (q : ℕ) → contains (updated_in x) q ≡ true → contains (updated_in s) q ≡ true =
    λ q there.
    let later : contains (map (λ (u : ℕ × Vector). u.0) (updates_in (without n s.active))) q ≡ true = ap (λ us. contains (map (λ (u : ℕ × Vector). u.0) us) q) (sym c.updates) ∙ there in
    rw first (or_right (r == q) (contains (map (λ (u : ℕ × Vector). u.0) (updates_in (without n s.active))) q) later) in
    let touched : contains (updated_in s) r ≡ true = rw first (first_there r (updates_in (without n s.active))) in
    let stand' : AllStand design members block start x =
    λ p member.
    stands_changed design start (taking n s) x r v p (block p) (phase.blocks p member) (phase.updates r touched p member) c
    (stands_taken design start s n p (block p) (taken_update s n r p v order at) (stand p member)) in
    (refl, phase_after design members block rank start s x phase stays fewer stand', stays, stand')
  where
    first_there : (r : ℕ) (us : List (ℕ × Vector)) → (r == r || contains (map (λ (u : ℕ × Vector). u.0) us) r) ≡ true
    first_there r us =
        let own : (r == r) ≡ true = eq-eqb r r refl in
        rw own refl

-- a step

pub phase_steps : (design : Design) (members : List ℕ) (block : ℕ → Block) (rank : ℕ → ℕ) (start s : State) (entry : Entry) (f : Effect) → IsInOrder s → IsPhase design s members block rank
    → AllStand design members block start s → TakesEvent entry → step design s entry ≡ Some f → Steps design members block rank start s f
phase_steps design members block rank start s entry f order phase stand takes is = permitted entry takes ((step_is_exact design s entry f).0 is).1 is
  where
    found : (p : ℕ) (turn : turns.Turn) → turns.IsTurn design p (remainder_of s p) s.store s.time turn → turns.IsShort turn → turn_of design s p ≡ Some turn
    found p turn exact short = short_turn_found design p (remainder_of s p) s.store s.time turn exact short

    permitted : (entry : Entry) → TakesEvent entry → IsPermitted design s entry f → step design s entry ≡ Some f → Steps design members block rank start s f
    permitted (Entry.Turn n) takes (p, turn, at, exact, short, same) is =
        rw same (turn_steps design members block rank start s n p turn order phase stand at (found p turn exact short))
    permitted (Update n) takes (r, v, at, earliest, same) is =
        rw same (update_steps design members block rank start s n r v order phase stand at earliest)
    permitted ActivateInactive takes h is = absurd takes
    permitted ActivateNba takes h is = absurd takes
    permitted ActivateMonitor takes h is = absurd takes
    permitted (Advance time) takes h is = absurd takes
