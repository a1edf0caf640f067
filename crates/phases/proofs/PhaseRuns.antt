-- Where runs through a phase have come to, and that at its ends the states are alike.
use Rattle.std.proofs.Common.{◌≡◌, ℕ, zero, suc, ◌+◌, ◌<◌, Bool, true, false, eq-eqb, List, [], ◌∷◌, ◌⊎◌, inl, inr, length, Some, refl, sym, ap, subst, ◌∙◌, ◌==◌, arith}
use Rattle.std.specs.Prelude.{slice_index_or, ◌||◌}
use Rattle.std.proofs.lemmas.Bool.{eqb-true}
use Rattle.model.specs.Design.{Design}
use Rattle.model.specs.Expressions.{value_of}
use Rattle.model.specs.Turns.{contains, short_turn}
use Rattle.model.specs.States.{Action, Event, Continuation, State}
use Rattle.model.specs.Runs.{Effect, action_in}
use Rattle.model.specs.Laws.{evaluations_in}
use Rattle.orders.specs.Alike.{Alike, AreAlike, IsAlikeFuture, IsInOrder, updates_in}
use Rattle.orders.specs.Apart.{AgreeOn, all_given}
use Rattle.orders.proofs.EventLists.{alike-same}
use Rattle.orders.proofs.TurnFrame.{turn_has_frame}
use Rattle.orders.proofs.Stores.{same_store}
use Rattle.phases.specs.Phase.{Block, IsBlock, continuation_of, IsTurnPending, IsBlockWaiting, HasSettled, IsUntouched, StandsSince, HasChangedInput, SettleBetween, IsOutput, IsPhase}
use Rattle.phases.proofs.Values.{written_same}
use Rattle.phases.proofs.Members.{Standing, still_consistent}
use Rattle.phases.proofs.PhaseSteps.{Stays, AllStand}

-- a run in a phase

abbrev pub Runs : Design → List ℕ → (ℕ → Block) → (ℕ → ℕ) → State → Effect → Effect → Type 0
Runs design members block rank start e f =
    (f.lines ≡ e.lines) × IsInOrder f.state × IsPhase design f.state members block rank × Stays members block e.state f.state
    × AllStand design members block start f.state

-- at the end none is pending

pub waits_at : (s : State) (p : ℕ) (b : Block) → s.active ≡ [] → Standing s p b → IsBlockWaiting s p b
waits_at s p b none (inl (one, continuation)) =
    let zero : evaluations_in p s.active ≡ 0 = ap (evaluations_in p) none in
    absurd (omega (arith, one, zero))
waits_at s p b none (inr h) = h

stands_at : (design : Design) (start s : State) (p : ℕ) (b : Block) → s.active ≡ [] → StandsSince design start s p b → HasSettled design s p b ⊎ IsUntouched start s p b
stands_at design start s p b none (inl (one, continuation)) =
    let zero : evaluations_in p s.active ≡ 0 = ap (evaluations_in p) none in
    absurd (omega (arith, one, zero))
stands_at design start s p b none (inr h) = h

-- what had settled, and is untouched, has settled still
settled_still : (design : Design) (start s : State) (p : ℕ) (b : Block) → IsBlock design p b → HasSettled design start p b → IsUntouched start s p b → HasSettled design s p b
settled_still design start s p b block (none, continuation, consistent) h =
    (h.waits.0, h.waits.1, still_consistent design start s p b block h.time (sym h.registers) h.inputs h.outputs consistent)

-- two ends at which a block has the same inputs

abbrev pub BothSettled : Design → State → State → ℕ → Block → Type 0
BothSettled design f g p b = HasSettled design f p b × HasSettled design g p b

-- where it settles between the start and an end, and its inputs are there as here, an untouched block had settled
first_untouched : (design : Design) (start f g : State) (p : ℕ) (b : Block) → IsBlock design p b → IsUntouched start f p b → AgreeOn b.inputs f.store g.store
    → (IsTurnPending start p b ⊎ HasSettled design start p b) ⊎ HasChangedInput start g b → HasSettled design start p b
first_untouched design start f g p b block h agree (inl (inl (one, continuation))) = absurd (omega (arith, one, h.waited.0))
first_untouched design start f g p b block h agree (inl (inr settled)) = settled
first_untouched design start f g p b block h agree (inr (r, input, differs)) = absurd (differs (h.inputs r input ∙ agree r input))

pub both_settled : (design : Design) (start f g : State) (p : ℕ) (b : Block) → IsBlock design p b → AgreeOn b.inputs f.store g.store → (IsTurnPending start p b ⊎ HasSettled design start p b) ⊎ HasChangedInput start g b
    → HasSettled design f p b ⊎ IsUntouched start f p b → HasSettled design g p b ⊎ IsUntouched start g p b → BothSettled design f g p b
both_settled design start f g p b block agree told (inl here) (inl there) = (here, there)
both_settled design start f g p b block agree told (inl here) (inr h) =
    (here, settled_still design start g p b block (first_untouched design start g g p b block h (λ r input. refl) told) h)
both_settled design start f g p b block agree told (inr h) (inl there) =
    (settled_still design start f p b block (first_untouched design start f g p b block h agree told) h, there)
both_settled design start f g p b block agree told (inr h) (inr i) =
    let settled : HasSettled design start p b = first_untouched design start f g p b block h agree told in
    (settled_still design start f p b block settled h, settled_still design start g p b block settled i)

pub settle_alike : (design : Design) (members : List ℕ) (block : ℕ → Block) (start f g : State) (p : ℕ) → contains members p ≡ true → IsBlock design p (block p) → f.active ≡ [] → g.active ≡ []
    → AllStand design members block start f → AllStand design members block start g → SettleBetween design members block start g → AgreeOn (block p).inputs f.store g.store
    → BothSettled design f g p (block p)
settle_alike design members block start f g p member block_is over over' stand stand' settle agree =
    both_settled design start f g p (block p) block_is agree (settle p member) (stands_at design start f p (block p) over (stand p member))
    (stands_at design start g p (block p) over' (stand' p member))

-- a register is an output of a member, or of none

abbrev FoundIn : List ℕ → (ℕ → Block) → ℕ → Type 0
FoundIn ms block r = (p : ℕ) × (contains ms p ≡ true) × (contains (block p).outputs r ≡ true)

found_first : (m : ℕ) (ms : List ℕ) (block : ℕ → Block) (r : ℕ) (is : Bool) → contains (block m).outputs r ≡ is → FoundIn ms block r ⊎ (FoundIn ms block r → ⊥) → FoundIn (m ∷ ms) block r ⊎ (FoundIn (m ∷ ms) block r → ⊥)
found_first m ms block r true is later =
    let own : (m == m) ≡ true = eq-eqb m m refl in
    inl (m, rw own refl, is)
found_first m ms block r false is (inl (p, there, out)) = inl (p, right (m == p) (contains ms p) there, out)
  where
    right : (a b : Bool) → b ≡ true → (a || b) ≡ true
    right true b h = refl
    right false b h = h
found_first m ms block r false is (inr none) = inr (λ found. none (one_of found.0 (m == found.0) refl found.1 found.2))
  where
    one_of : (p : ℕ) (here : Bool) → (m == p) ≡ here → (here || contains ms p) ≡ true → contains (block p).outputs r ≡ true → FoundIn ms block r
    one_of p true here there out =
        let same : m ≡ p = eqb-true m p here in
        let bad : contains (block p).outputs r ≡ false = rw (← same) is in
        cc
    one_of p false here there out = (p, there, out)

find : (ms : List ℕ) (block : ℕ → Block) (r : ℕ) → FoundIn ms block r ⊎ (FoundIn ms block r → ⊥)
find [] block r = inr (λ found. nothing_in found.0 found.1)
  where
    nothing_in : (p : ℕ) → contains [] p ≡ true → ⊥
    nothing_in p h = cc
find (m ∷ ms) block r = found_first m ms block r (contains (block m).outputs r) refl (find ms block r)

-- two ends of a phase have one value of each register

abbrev pub TwoEnds : Design → List ℕ → (ℕ → Block) → (ℕ → ℕ) → State → State → Type 0
TwoEnds design members block rank f g =
    record {
      phase : IsPhase design f members block rank;
      settled : (p : ℕ) → contains members p ≡ true → AgreeOn (block p).inputs f.store g.store → BothSettled design f g p (block p);
      time : f.time ≡ g.time;
      registers : length f.store ≡ length g.store;
      plain : (r : ℕ) → (IsOutput members block r → ⊥) → value_of f.store r ≡ value_of g.store r;
    }

output_same : (design : Design) (members : List ℕ) (block : ℕ → Block) (rank : ℕ → ℕ) (f g : State) (p r : ℕ) → TwoEnds design members block rank f g → contains members p ≡ true
    → contains (block p).outputs r ≡ true → AgreeOn (block p).inputs f.store g.store → value_of f.store r ≡ value_of g.store r
output_same design members block rank f g p r two member out agree =
    let b : Block = block p in
    let ((none, continuation, consistent), (none', continuation', consistent')) = two.settled p member agree in
    let (t, at, c) = (two.phase.blocks p member).turns f.store f.time in
    let frame : short_turn design p b.rest g.store f.time ≡ Some t = turn_has_frame design p b.rest f.store g.store f.time t two.registers at (λ q used. agree q (c.reads q used)) in
    let at' : short_turn design p b.rest g.store g.time ≡ Some t = ap (λ now. short_turn design p b.rest g.store now) (sym two.time) ∙ frame in
    ap (λ a. value_of a r) (sym (consistent t at)) ∙ written_same f.store g.store t.writes r two.registers (c.all r out) ∙ ap (λ a. value_of a r) (consistent' t at')

value_same : (design : Design) (members : List ℕ) (block : ℕ → Block) (rank : ℕ → ℕ) (f g : State) (most r : ℕ) → TwoEnds design members block rank f g
    → FoundIn members block r ⊎ (FoundIn members block r → ⊥) → ((p : ℕ) → contains members p ≡ true → contains (block p).outputs r ≡ true → rank p < most) → value_of f.store r ≡ value_of g.store r
value_same design members block rank f g most r two (inr none) below = two.plain r none
value_same design members block rank f g zero r two (inl (p, member, out)) below = absurd (omega (arith, below p member out))
value_same design members block rank f g (suc most) r two (inl (p, member, out)) below =
    output_same design members block rank f g p r two member out
    (λ q input.
    value_same design members block rank f g most q two (find members block q)
    (λ k member' out'.
    let less : rank k < rank p = two.phase.order k p q member' member out' input in
    omega (arith, less, below p member out)))

highest : (ms : List ℕ) (rank : ℕ → ℕ) → (most : ℕ) × ((p : ℕ) → contains ms p ≡ true → rank p < most)
highest [] rank = (0, λ p h. nothing_in p h)
  where
    nothing_in : (p : ℕ) → contains [] p ≡ true → rank p < 0
    nothing_in p h = cc
highest (m ∷ ms) rank =
    let (most, below) = highest ms rank in
    (rank m + 1 + most, λ p h. either p most (m == p) refl h (below p))
  where
    either : (p most : ℕ) (here : Bool) → (m == p) ≡ here → (here || contains ms p) ≡ true → (contains ms p ≡ true → rank p < most) → rank p < rank m + 1 + most
    either p most true here h below =
        let same : rank m ≡ rank p = ap rank (eqb-true m p here) in
        omega (arith, same)
    either p most false here h below = omega (arith, below h)

pub ends_store : (design : Design) (members : List ℕ) (block : ℕ → Block) (rank : ℕ → ℕ) (f g : State) → TwoEnds design members block rank f g → f.store ≡ g.store
ends_store design members block rank f g two =
    let (most, below) = highest members rank in
    same_store f.store g.store two.registers (λ r. value_same design members block rank f g most r two (find members block r) (λ p member out. below p member))

-- and one state of each process

same_continuation : (xs ys : List Continuation) → length xs ≡ length ys
    → ((p : ℕ) → slice_index_or xs p (record { remainder = []; triggers = [] }) ≡ slice_index_or ys p (record { remainder = []; triggers = [] })) → xs ≡ ys
same_continuation [] [] len h = refl
same_continuation [] (y ∷ ys) len h = cc
same_continuation (x ∷ xs) [] len h = cc
same_continuation (x ∷ xs) (y ∷ ys) len h =
    let first : x ≡ y = h 0 in
    let others : xs ≡ ys = same_continuation xs ys (omega (arith, len)) (λ p. h (suc p)) in
    rw (first, others) refl

process_same : (design : Design) (members : List ℕ) (block : ℕ → Block) (rank : ℕ → ℕ) (s f g : State) (p : ℕ) (is : Bool) → contains members p ≡ is → IsPhase design f members block rank → IsPhase design g members block rank
    → Stays members block s f → Stays members block s g → f.active ≡ [] → g.active ≡ [] → continuation_of f p ≡ continuation_of g p
process_same design members block rank s f g p true is here there h i over over' =
    (waits_at f p (block p) over (here.stands p is)).1 ∙ sym (waits_at g p (block p) over' (there.stands p is)).1
process_same design members block rank s f g p false is here there h i over over' = (h.others p is).0 ∙ sym (i.others p is).0

alike_events : (xs ys zs : List Event) → xs ≡ zs → ys ≡ zs → AreAlike xs ys
alike_events xs ys zs is is' = subst (λ us. AreAlike us ys) (sym is) (subst (λ us. AreAlike zs us) (sym is') (alike-same zs))

alike_future : (xs ys zs : List (ℕ × Event)) → xs ≡ zs → ys ≡ zs → IsAlikeFuture xs ys
alike_future xs ys zs is is' =
    subst (λ us. IsAlikeFuture us ys) (sym is) (subst (λ us. IsAlikeFuture zs us) (sym is') (record { times = refl; due = λ time. alike-same _ }))

pub ends_alike : (design : Design) (members : List ℕ) (block : ℕ → Block) (rank : ℕ → ℕ) (s f g : State) → IsPhase design f members block rank → IsPhase design g members block rank
    → Stays members block s f → Stays members block s g → AllStand design members block s f → AllStand design members block s g → SettleBetween design members block s g → f.active ≡ [] → g.active ≡ [] → Alike f g
ends_alike design members block rank s f g here there h i stand stand' settle over over' =
    let two : TwoEnds design members block rank f g =
    record {
      phase = here;
      settled = λ p member agree. settle_alike design members block s f g p member (here.blocks p member) over over' stand stand' settle agree;
      time = h.time ∙ sym i.time;
      registers = h.registers ∙ sym i.registers;
      plain = λ r none.
          ap (λ es. value_of (all_given f.store (updates_in es)) r) (sym over) ∙ h.values r none ∙ sym (i.values r none)
          ∙ ap (λ es. value_of (all_given g.store (updates_in es)) r) over';
    } in
    record {
      time = two.time;
      store = ends_store design members block rank f g two;
      processes = same_continuation f.processes g.processes (h.count ∙ sym i.count) (λ p. process_same design members block rank s f g p (contains members p) refl here there h i over over');
      active = alike_events f.active g.active [] over over';
      inactive = alike_events f.inactive g.inactive s.inactive h.inactive i.inactive;
      nonblocking = alike_events f.nonblocking g.nonblocking s.nonblocking h.nonblocking i.nonblocking;
      monitor = h.monitor ∙ sym i.monitor;
      future_inactive = alike_future f.future_inactive g.future_inactive s.future_inactive h.future_inactive i.future_inactive;
      future_nonblocking = alike_future f.future_nonblocking g.future_nonblocking s.future_nonblocking h.future_nonblocking i.future_nonblocking;
      finished = h.finished ∙ sym i.finished;
    }

-- where an event is taken, one is active
pub none_in : (n : ℕ) (a : Action) (es : List Event) → es ≡ [] → action_in es n ≡ Some a → ⊥
none_in n a [] is at = cc
none_in n a (e ∷ es) is at = cc
