-- What one event of a phase makes of it: a member's turn, or an update.
use Rattle.std.proofs.Common.{◌≡◌, ℕ, ◌+◌, Bool, true, false, eq-eqb, List, [], ◌∷◌, inl, inr, map, length, Some, refl, ap, ◌∙◌, if◌then◌else◌, ◌==◌, arith}
use Rattle.std.specs.Prelude.{◌||◌}
use Rattle.logic4.specs.Vector.{Vector}
use Rattle.model.specs.Design.{Design}
use Rattle.model.specs.Turns.{contains}
use Rattle.model.specs.States.{Action, Evaluate, State, change, change_all, taking, without}
use Rattle.model.specs.Runs.{action_in}
use Rattle.model.specs.Laws.{evaluates, evaluations_in}
use Rattle.orders.specs.Alike.{IsInOrder, updates_in}
use Rattle.orders.specs.Apart.{all_given}
use Rattle.orders.proofs.EventLists.{evaluations-taken, own_evaluation}
use Rattle.phases.specs.Phase.{Block, IsActive, IsBlock, StandsSince, continuation_of, waits_for_register}
use Rattle.phases.proofs.Changes.{woke, awake, one_where, Changed, changed}
use Rattle.phases.proofs.Members.{stands_changed, unmoved}

-- what several changes leave as it is

abbrev pub AllChanged : State → List (ℕ × Vector) → State → Type 0
AllChanged s ws f =
    record {
      time : f.time ≡ s.time;
      store : f.store ≡ all_given s.store ws;
      count : length f.processes ≡ length s.processes;
      updates : updates_in f.active ≡ updates_in s.active;
      inactive : f.inactive ≡ s.inactive;
      nonblocking : f.nonblocking ≡ s.nonblocking;
      monitor : f.monitor ≡ s.monitor;
      future_inactive : f.future_inactive ≡ s.future_inactive;
      future_nonblocking : f.future_nonblocking ≡ s.future_nonblocking;
      finished : f.finished ≡ s.finished;
    }

more : (s f g : State) (w : ℕ × Vector) (ws : List (ℕ × Vector)) → Changed s w.0 w.1 f → AllChanged f ws g → AllChanged s (w ∷ ws) g
more s f g w ws c d =
    record {
      time = d.time ∙ c.time;
      store = d.store ∙ ap (λ a. all_given a ws) c.store;
      count = d.count ∙ c.count;
      updates = d.updates ∙ c.updates;
      inactive = d.inactive ∙ c.inactive;
      nonblocking = d.nonblocking ∙ c.nonblocking;
      monitor = d.monitor ∙ c.monitor;
      future_inactive = d.future_inactive ∙ c.future_inactive;
      future_nonblocking = d.future_nonblocking ∙ c.future_nonblocking;
      finished = d.finished ∙ c.finished;
    }

pub all_changed : (s : State) (ws : List (ℕ × Vector)) → AllChanged s ws (change_all s ws)
all_changed s [] =
    record { time = refl; store = refl; count = refl; updates = refl; inactive = refl; nonblocking = refl; monitor = refl; future_inactive = refl; future_nonblocking = refl; finished = refl }
all_changed s (w ∷ ws) =
    more s (change s w.0 w.1) (change_all s (w ∷ ws)) w ws (changed s w.0 w.1) (all_changed (change s w.0 w.1) ws)

-- a member whose outputs aren't written stands

or_left : (a b : Bool) → a ≡ true → (a || b) ≡ true
or_left true b h = refl
or_left false b h = cc

or_right : (a b : Bool) → b ≡ true → (a || b) ≡ true
or_right true b h = refl
or_right false b h = h

pub stands_after : (design : Design) (start s : State) (ws : List (ℕ × Vector)) (p : ℕ) (b : Block) → IsBlock design p b
    → ((r : ℕ) → contains (map (λ (w : ℕ × Vector). w.0) ws) r ≡ true → contains b.outputs r ≡ false) → StandsSince design start s p b → StandsSince design start (change_all s ws) p b
stands_after design start s [] p b block apart h = h
stands_after design start s (w ∷ ws) p b block apart h =
    let first : contains b.outputs w.0 ≡ false = apart w.0 (or_left (w.0 == w.0) (contains (map (λ (w : ℕ × Vector). w.0) ws) w.0) (eq-eqb w.0 w.0 refl)) in
    stands_after design start (change s w.0 w.1) ws p b block (λ r is. apart r (or_right (w.0 == r) (contains (map (λ (w : ℕ × Vector). w.0) ws) r) is))
    (stands_changed design start s (change s w.0 w.1) w.0 w.1 p b block first (changed s w.0 w.1) h)

-- a process that waits for none of the registers is as it was

abbrev pub Unmoved : State → ℕ → State → Type 0
Unmoved s q f = (continuation_of f q ≡ continuation_of s q) × (evaluations_in q f.active ≡ evaluations_in q s.active)

pub one_unmoved : (s f : State) (r : ℕ) (v : Vector) (q : ℕ) → Changed s r v f → woke s r v q ≡ false → Unmoved s q f
one_unmoved s f r v q c is =
    (c.processes q ∙ ap (λ x. awake x (continuation_of s q)) is, c.evaluations q ∙ ap (λ x. evaluations_in q s.active + one_where x) is ∙ none (evaluations_in q s.active))
  where
    none : (n : ℕ) → n + one_where false ≡ n
    none n = omega arith

pub all_unmoved : (s : State) (ws : List (ℕ × Vector)) (q : ℕ) → ((r : ℕ) → contains (map (λ (w : ℕ × Vector). w.0) ws) r ≡ true → waits_for_register (continuation_of s q) r ≡ false) → Unmoved s q (change_all s ws)
all_unmoved s [] q h = (refl, refl)
all_unmoved s (w ∷ ws) q h =
    let f : State = change s w.0 w.1 in
    let first : waits_for_register (continuation_of s q) w.0 ≡ false = h w.0 (or_left (w.0 == w.0) (contains (map (λ (w : ℕ × Vector). w.0) ws) w.0) (eq-eqb w.0 w.0 refl)) in
    let (continuation, evaluations) = one_unmoved s f w.0 w.1 q (changed s w.0 w.1) (unmoved s w.0 w.1 q first) in
    let (continuation', evaluations') = all_unmoved f ws q (λ r is. ap (λ x. waits_for_register x r) continuation ∙ h r (or_right (w.0 == r) (contains (map (λ (w : ℕ × Vector). w.0) ws) r) is)) in
    (continuation' ∙ continuation, evaluations' ∙ evaluations)

-- taking an event

pub taken_other : (s : State) (n p q to : ℕ) → IsInOrder s → action_in s.active n ≡ Some (Evaluate p) → (p == q) ≡ false → evaluations_in q (without n s.active) ≡ evaluations_in q s.active
taken_other s n p q to order at other =
    let whole : evaluations_in q s.active ≡ (if evaluates q (Evaluate p) then 1 else 0) + evaluations_in q (without n s.active) = evaluations-taken n q 0 s.next_event (Evaluate p) s.active order.active at in
    let none : (if evaluates q (Evaluate p) then 1 else 0) ≡ 0 = ap one_where other in
    omega (arith, whole, none)

pub taken_own : (s : State) (n p : ℕ) → IsInOrder s → action_in s.active n ≡ Some (Evaluate p) → evaluations_in p s.active ≡ 1 + evaluations_in p (without n s.active)
taken_own s n p order at =
    let whole : evaluations_in p s.active ≡ (if evaluates p (Evaluate p) then 1 else 0) + evaluations_in p (without n s.active) = evaluations-taken n p 0 s.next_event (Evaluate p) s.active order.active at in
    omega (arith, whole, own_evaluation p)

pub taken_update : (s : State) (n r q : ℕ) (v : Vector) → IsInOrder s → action_in s.active n ≡ Some (Action.Update r v) → evaluations_in q (without n s.active) ≡ evaluations_in q s.active
taken_update s n r q v order at =
    let whole : evaluations_in q s.active ≡ 0 + evaluations_in q (without n s.active) = evaluations-taken n q 0 s.next_event (Action.Update r v) s.active order.active at in
    omega (arith, whole)

pub stands_taken : (design : Design) (start s : State) (n p : ℕ) (b : Block) → evaluations_in p (without n s.active) ≡ evaluations_in p s.active → StandsSince design start s p b → StandsSince design start (taking n s) p b
stands_taken design start s n p b same (inl (evaluations, continuation)) = inl (same ∙ evaluations, continuation)
stands_taken design start s n p b same (inr (inl (evaluations, continuation, consistent))) =
    inr (inl (same ∙ evaluations, continuation, consistent))
stands_taken design start s n p b same (inr (inr h)) =
    inr (inr (record { waits = (same ∙ h.waits.0, h.waits.1); waited = h.waited; time = h.time; registers = h.registers; inputs = h.inputs; outputs = h.outputs }))

-- a process whose evaluation is among the active events is active

pub active_at : (s : State) (n p : ℕ) → IsInOrder s → action_in s.active n ≡ Some (Evaluate p) → IsActive s p
active_at s n p order at_n =
    omega (arith, evaluations-taken n p 0 s.next_event (Evaluate p) s.active order.active at_n, own_evaluation p)
