-- A loose step in a phase leads on in it, prints nothing, and leaves what the phase doesn't touch.
use Rattle.std.proofs.Common.{◌≡◌, ℕ, Bool, true, false, eq-eqb, List, ◌∷◌, inl, map, length, Some, refl, sym, ap, ◌∙◌, ◌==◌}
use Rattle.std.specs.Prelude.{◌||◌}
use Rattle.logic4.specs.Vector.{Vector}
use Rattle.model.specs.declared.entry.Entry.{Entry}
use Rattle.model.specs.declared.entry.Entry.TheVariants.{Update, ActivateInactive, ActivateNba, ActivateMonitor, Advance}
use Rattle.model.specs.Design.{Design}
use Rattle.model.specs.Expressions.{value_of}
use Rattle.model.specs.Turns.{contains}
use Rattle.model.specs.States.{Action, State, taking, without, updated}
use Rattle.model.specs.Runs.{Effect, action_in, update_effect}
use Rattle.orders.specs.Alike.{IsInOrder, updates_in}
use Rattle.orders.specs.Apart.{all_given, of_register}
use Rattle.orders.proofs.Stores.{length_given, stores_same}
use Rattle.loose.specs.Loose.{loose_step}
use Rattle.loose.proofs.LooseSteps.{from_loose}
use Rattle.phases.specs.Phase.{Block, updated_in, IsPhase, TakesEvent}
use Rattle.phases.proofs.Changes.{Changed, changed}
use Rattle.phases.proofs.Members.{stands_changed, unmoved}
use Rattle.phases.proofs.Events.{one_unmoved, taken_update, stands_taken}
use Rattle.phases.proofs.PhaseSteps.{Stays, AllStand, Steps, phase_after, phase_steps}
use Rattle.loosephases.proofs.UpdatesTaken.{register_taken, listed_same}

-- the updates of each register stand as if an update stood first
abbrev pub IsFirstOfIts : State → ℕ → ℕ → Vector → Type 0
IsFirstOfIts s n r v =
    (q : ℕ) → of_register q (updates_in s.active) ≡ of_register q ((r, v) ∷ updates_in (without n s.active))

pub first_there : (r : ℕ) (us : List (ℕ × Vector)) → (r == r || contains (map (λ (u : ℕ × Vector). u.0) us) r) ≡ true
first_there r us =
    let own : (r == r) ≡ true = eq-eqb r r refl in
    rw own refl

or_right : (a b : Bool) → b ≡ true → (a || b) ≡ true
or_right true b h = refl
or_right false b h = h

pub is_updated : (s : State) (n r : ℕ) (v : Vector) → IsFirstOfIts s n r v → contains (updated_in s) r ≡ true
is_updated s n r v first =
    listed_same r (updates_in s.active) ((r, v) ∷ updates_in (without n s.active)) (first r) ∙ first_there r (updates_in (without n s.active))

update_stays : (design : Design) (members : List ℕ) (block : ℕ → Block) (rank : ℕ → ℕ) (s : State) (n r : ℕ) (v : Vector) → IsInOrder s → IsPhase design s members block rank
    → action_in s.active n ≡ Some (Action.Update r v) → IsFirstOfIts s n r v → Stays members block s (updated s n r v)
update_stays design members block rank s n r v order phase at first =
    let x : State = updated s n r v in
    let c : Changed (taking n s) r v x = changed (taking n s) r v in
    record {
      time = c.time;
      registers = ap length c.store ∙ length_given s.store (r, v);
      count = c.count;
      others = λ q is.
          let (continuation, evaluations) = one_unmoved (taking n s) x r v q c (unmoved (taking n s) r v q (phase.others q r is (inl (is_updated s n r v first)))) in
          (continuation, evaluations ∙ taken_update s n r q v order at);
      inactive = c.inactive;
      nonblocking = c.nonblocking;
      monitor = c.monitor;
      future_inactive = c.future_inactive;
      future_nonblocking = c.future_nonblocking;
      finished = c.finished;
      values = λ q none.
          ap (λ us. value_of (all_given x.store us) q) c.updates ∙ ap (λ a. value_of (all_given a (updates_in (without n s.active))) q) c.store
          ∙ ap (λ a. value_of a q) (sym (stores_same s.store (updates_in s.active) ((r, v) ∷ updates_in (without n s.active)) first));
    }

update_steps : (design : Design) (members : List ℕ) (block : ℕ → Block) (rank : ℕ → ℕ) (start s : State) (n r : ℕ) (v : Vector) → IsInOrder s → IsPhase design s members block rank
    → AllStand design members block start s → action_in s.active n ≡ Some (Action.Update r v) → IsFirstOfIts s n r v → Steps design members block rank start s (update_effect s n r v)
update_steps design members block rank start s n r v order phase stand at first =
    let x : State = updated s n r v in
    let c : Changed (taking n s) r v x = changed (taking n s) r v in
    let stays : Stays members block s x = update_stays design members block rank s n r v order phase at first in
    let touched : contains (updated_in s) r ≡ true = is_updated s n r v first in
    let fewer : (q : ℕ) → contains (updated_in x) q ≡ true → contains (updated_in s) q ≡ true =
    λ q there.
    let later : contains (map (λ (u : ℕ × Vector). u.0) (updates_in (without n s.active))) q ≡ true = ap (λ us. contains (map (λ (u : ℕ × Vector). u.0) us) q) (sym c.updates) ∙ there in
    listed_same q (updates_in s.active) ((r, v) ∷ updates_in (without n s.active)) (first q)
    ∙ or_right (r == q) (contains (map (λ (u : ℕ × Vector). u.0) (updates_in (without n s.active))) q) later in
    let stand' : AllStand design members block start x =
    λ p member.
    stands_changed design start (taking n s) x r v p (block p) (phase.blocks p member) (phase.updates r touched p member) c
    (stands_taken design start s n p (block p) (taken_update s n r p v order at) (stand p member)) in
    (refl, phase_after design members block rank start s x phase stays fewer stand', stays, stand')

pub loose_phase_steps : (class : ℕ → ℕ) (design : Design) (members : List ℕ) (block : ℕ → Block) (rank : ℕ → ℕ) (start s : State) (entry : Entry) (f : Effect) → IsInOrder s
    → IsPhase design s members block rank → AllStand design members block start s → TakesEvent entry → loose_step class design s entry ≡ Some f → Steps design members block rank start s f
loose_phase_steps class design members block rank start s (Entry.Turn n) f order phase stand takes is =
    phase_steps design members block rank start s (Entry.Turn n) f order phase stand takes is
loose_phase_steps class design members block rank start s (Update n) f order phase stand takes is =
    let (going, (r, v, at, first, same)) = from_loose class design s (Update n) f is in
    rw same (update_steps design members block rank start s n r v order phase stand at (λ q. register_taken class q n r 0 s.next_event v s.active order.active at first))
loose_phase_steps class design members block rank start s ActivateInactive f order phase stand takes is = absurd takes
loose_phase_steps class design members block rank start s ActivateNba f order phase stand takes is = absurd takes
loose_phase_steps class design members block rank start s ActivateMonitor f order phase stand takes is = absurd takes
loose_phase_steps class design members block rank start s (Advance time) f order phase stand takes is = absurd takes
