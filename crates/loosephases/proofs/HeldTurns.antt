-- The turn of a process that is no member, and an update, are taken alike where the members took turns and where they didn't.
use Rattle.std.proofs.Common.{◌≡◌, ◌≢◌, ℕ, zero, suc, ◌≤◌, Bool, true, false, eq-eqb, List, [], ◌∷◌, ◌++◌, ◌⊎◌, inl, inr, length, Some, refl, sym, ap, subst, ◌∙◌, ◌==◌, ◌||◌, if◌then◌else◌, arith}
use Rattle.std.specs.Prelude.{cond, slice_set, slice_index_or}
use Rattle.std.proofs.lemmas.Bool.{eqb-true}
use Rattle.std.proofs.lemmas.List.{get_or-set_other}
use Rattle.logic4.specs.Vector.{Vector}
use Rattle.model.specs.declared.entry.Entry.{Entry}
use Rattle.model.specs.declared.entry.Entry.TheVariants.{Update}
use Rattle.model.specs.Design.{Design}
use Rattle.model.specs.Expressions.{value_of}
use Rattle.model.specs.Turns.{Wait, Ended, Inactive, Until, OnChange, NonblockingAssignment, contains, short_turn}
use Rattle.model.specs.Turns as turns
use Rattle.model.specs.States.{Action, Evaluate, Continuation, State, change_all, schedule, schedule_all, schedule_wait, taking, turned, with_continuation, with_nonblocking, with_future_nonblocking, without}
use Rattle.model.specs.Runs.{Effect, action_in, remainder_of, turn_of, turn_effect, update_effect}
use Rattle.model.specs.Laws.{evaluations_in}
use Rattle.orders.specs.Alike.{IsInOrder}
use Rattle.orders.specs.Apart.{AgreeOn, all_given, continuation_after}
use Rattle.orders.proofs.Commuting.{turn_step}
use Rattle.orders.proofs.EventLists.{evaluations-taken, find_evaluation, updates_left}
use Rattle.orders.proofs.StatesInOrder.{in_order-change_all, in_order-schedule_all, in_order-taking}
use Rattle.orders.proofs.TurnFrame.{turn_has_frame}
use Rattle.loose.specs.Loose.{of_class, updates_of_class, has_earlier_of_class, AlikeIn, loose_step}
use Rattle.loose.proofs.ClassLists.{alike_in-same, class_taken, find_first, first_taken}
use Rattle.loose.proofs.ClassStates.{states_in-schedule_all, states_in-schedule_wait}
use Rattle.loose.proofs.LooseSteps.{to_loose}
use Rattle.phases.specs.Phase.{IsActive, Block, IsBlock, IsConsistent, StandsSince, continuation_of, waits_for_register, IsOutput}
use Rattle.phases.proofs.Events.{active_at, taken_other, taken_update, stands_taken}
use Rattle.loosephases.specs.Held.{KeepsOffHeld, OthersKeepOff, TakesOther}
use Rattle.loosephases.proofs.Beside.{bare, Beside, Together, cone_before, one_together, all_together}

-- what an event that no member has leads to from both

abbrev pub Answered : (ℕ → ℕ) → Design → State → List ℕ → (ℕ → Block) → State → Effect → Type 0
Answered class design start members block u f =
    (entry : Entry) × (g : Effect) × TakesOther u members entry × (loose_step class design u entry ≡ Some g) × (f.lines ≡ g.lines)
    × Together class design start members block f.state g.state

-- it is taken

pub apart_from : (members : List ℕ) (p q : ℕ) (is : Bool) → (p == q) ≡ is → contains members p ≡ false → contains members q ≡ true → (p == q) ≡ false
apart_from members p q true is none member =
    let same : p ≡ q = eqb-true p q is in
    let bad : contains members p ≡ true = rw same member in
    cc
apart_from members p q false is none member = is

evaluation_taken : (class : ℕ → ℕ) (design : Design) (start : State) (members : List ℕ) (block : ℕ → Block) (t u : State) (n m p : ℕ) → IsInOrder t → IsInOrder u → action_in t.active n ≡ Some (Evaluate p)
    → action_in u.active m ≡ Some (Evaluate p) → contains members p ≡ false → Together class design start members block t u → Together class design start members block (taking n t) (taking m u)
evaluation_taken class design start members block t u n m p i j at_n at_m none h =
    let b : Beside class members block t u = h.beside in
    let same : (q : ℕ) → contains members q ≡ true → evaluations_in q (without n t.active) ≡ evaluations_in q t.active =
    λ q member. taken_other t n p q t.next_event i at_n (apart_from members p q (p == q) refl none member) in
    let same' : (q : ℕ) → contains members q ≡ true → evaluations_in q (without m u.active) ≡ evaluations_in q u.active =
    λ q member. taken_other u m p q u.next_event j at_m (apart_from members p q (p == q) refl none member) in
    let more : (q : ℕ) → contains members q ≡ true → IsActive u q → IsActive (taking m u) q = λ q member active. omega (arith, active, same' q member) in
    record {
      beside = record {
        rest = b.rest;
        registers = b.registers;
        count = b.count;
        plain = b.plain;
        outside = λ r out. b.outside r (out.0, cone_before members block u (taking m u) out.0 more out.1, out.2);
        pending = λ cone q r has member active out. b.pending cone q r (cone_before members block u (taking m u) cone more has) member (omega (arith, active, same q member)) out;
        others = λ q other. (
          (b.others q other).0,
          omega (arith, (b.others q other).1, evaluations-taken n q 0 t.next_event (Evaluate p) t.active i.active at_n, evaluations-taken m q 0 u.next_event (Evaluate p) u.active j.active at_m),
        );
        updates = λ k.
            ap (of_class class k) (sym (updates_left n p 0 t.next_event t.active i.active at_n)) ∙ b.updates k ∙ ap (of_class class k) (updates_left m p 0 u.next_event u.active j.active at_m);
      };
      here = λ q member. stands_taken design start t n q (block q) (same q member) (h.here q member);
      there = λ q member. stands_taken design start u m q (block q) (same' q member) (h.there q member);
      quiet = h.quiet;
    }

others_same : (w : ℕ × Vector) (xs ys : List (ℕ × Vector)) (b : Bool) → cond b (w ∷ xs) xs ≡ cond b (w ∷ ys) ys → xs ≡ ys
others_same w xs ys true h = cc
others_same w xs ys false h = h

update_taken : (class : ℕ → ℕ) (design : Design) (start : State) (members : List ℕ) (block : ℕ → Block) (t u : State) (n m r : ℕ) (v : Vector) → IsInOrder t → IsInOrder u → action_in t.active n ≡ Some (Action.Update r v)
    → action_in u.active m ≡ Some (Action.Update r v) → has_earlier_of_class class (class r) t.active n ≡ false → has_earlier_of_class class (class r) u.active m ≡ false
    → Together class design start members block t u → Together class design start members block (taking n t) (taking m u)
update_taken class design start members block t u n m r v i j at_n at_m first_n first_m h =
    let b : Beside class members block t u = h.beside in
    let same : (q : ℕ) → evaluations_in q (without n t.active) ≡ evaluations_in q t.active = λ q. taken_update t n r q v i at_n in
    let same' : (q : ℕ) → evaluations_in q (without m u.active) ≡ evaluations_in q u.active = λ q. taken_update u m r q v j at_m in
    let more : (q : ℕ) → contains members q ≡ true → IsActive u q → IsActive (taking m u) q = λ q member active. omega (arith, active, same' q) in
    record {
      beside = record {
        rest = b.rest;
        registers = b.registers;
        count = b.count;
        plain = b.plain;
        outside = λ q out. b.outside q (out.0, cone_before members block u (taking m u) out.0 more out.1, out.2);
        pending = λ cone q k has member active out. b.pending cone q k (cone_before members block u (taking m u) cone more has) member (omega (arith, active, same q)) out;
        others = λ q other. ((b.others q other).0, same q ∙ (b.others q other).1 ∙ sym (same' q));
        updates = λ k.
            others_same (r, v) (updates_of_class class k (without n t.active)) (updates_of_class class k (without m u.active)) (class r == k)
            (sym (class_taken class k n r 0 t.next_event v t.active i.active at_n first_n) ∙ b.updates k ∙ class_taken class k m r 0 u.next_event v u.active j.active at_m first_m);
      };
      here = λ q member. stands_taken design start t n q (block q) (same q) (h.here q member);
      there = λ q member. stands_taken design start u m q (block q) (same' q) (h.there q member);
      quiet = h.quiet;
    }

-- the events that a turn makes

abbrev pub Keeps : State → State → Type 0
Keeps s f = (f.time ≡ s.time) × (f.store ≡ s.store) × (f.processes ≡ s.processes) × (f.active ≡ s.active)

keeps_if : (s : State) (later : NonblockingAssignment) (b : Bool)
    → Keeps s (if b then with_nonblocking (Action.Update later.register later.value ∷ []) s else with_future_nonblocking later.due (Action.Update later.register later.value) s)
keeps_if s later true = (refl, refl, refl, refl)
keeps_if s later false = (refl, refl, refl, refl)

schedule_keeps : (s : State) (later : NonblockingAssignment) → Keeps s (schedule s later)
schedule_keeps s later = keeps_if s later (later.due == s.time)

schedule_all_keeps : (s : State) (nbas : List NonblockingAssignment) → Keeps s (schedule_all s nbas)
schedule_all_keeps s [] = (refl, refl, refl, refl)
schedule_all_keeps s (l ∷ ls) =
    let (time, store, processes, active) = schedule_all_keeps (schedule s l) ls in
    let (time', store', processes', active') = schedule_keeps s l in
    (time ∙ time', store ∙ store', processes ∙ processes', active ∙ active')

wait_keeps : (p : ℕ) (wait : Wait) (s : State) → Keeps s (schedule_wait p wait s)
wait_keeps p Ended s = (refl, refl, refl, refl)
wait_keeps p Inactive s = (refl, refl, refl, refl)
wait_keeps p (Until time) s = (refl, refl, refl, refl)
wait_keeps p (OnChange triggers) s = (refl, refl, refl, refl)

pub made_keeps : (s : State) (p : ℕ) (t : turns.Turn) → Keeps s (schedule_wait p t.wait (schedule_all s t.nbas))
made_keeps s p t =
    let (time, store, processes, active) = wait_keeps p t.wait (schedule_all s t.nbas) in
    let (time', store', processes', active') = schedule_all_keeps s t.nbas in
    (time ∙ time', store ∙ store', processes ∙ processes', active ∙ active')

bare_if : (s : State) (later : NonblockingAssignment) (b : Bool)
    → bare (if b then with_nonblocking (Action.Update later.register later.value ∷ []) s else with_future_nonblocking later.due (Action.Update later.register later.value) s)
    ≡ (if b then with_nonblocking (Action.Update later.register later.value ∷ []) (bare s) else with_future_nonblocking later.due (Action.Update later.register later.value) (bare s))
bare_if s later true = refl
bare_if s later false = refl

bare_all : (s : State) (nbas : List NonblockingAssignment) → bare (schedule_all s nbas) ≡ schedule_all (bare s) nbas
bare_all s [] = refl
bare_all s (l ∷ ls) = bare_all (schedule s l) ls ∙ ap (λ x. schedule_all x ls) (bare_if s l (l.due == s.time))

bare_wait : (p : ℕ) (wait : Wait) (s : State) → bare (schedule_wait p wait s) ≡ schedule_wait p wait (bare s)
bare_wait p Ended s = refl
bare_wait p Inactive s = refl
bare_wait p (Until time) s = refl
bare_wait p (OnChange triggers) s = refl

bare_in_order : (s : State) → IsInOrder s → IsInOrder (bare s)
bare_in_order s i =
    record { active = omega arith; inactive = i.inactive; nonblocking = i.nonblocking; future_inactive = i.future_inactive; future_nonblocking = i.future_nonblocking }

made_rest : (class : ℕ → ℕ) (p : ℕ) (t : turns.Turn) (x y : State) → IsInOrder x → IsInOrder y → AlikeIn class (bare x) (bare y)
    → AlikeIn class (bare (schedule_wait p t.wait (schedule_all x t.nbas))) (bare (schedule_wait p t.wait (schedule_all y t.nbas)))
made_rest class p t x y i j h =
    let i' : IsInOrder (bare x) = bare_in_order x i in
    let j' : IsInOrder (bare y) = bare_in_order y j in
    let alike : AlikeIn class (schedule_wait p t.wait (schedule_all (bare x) t.nbas)) (schedule_wait p t.wait (schedule_all (bare y) t.nbas)) =
    states_in-schedule_wait class p t.wait (schedule_all (bare x) t.nbas) (schedule_all (bare y) t.nbas) (in_order-schedule_all (bare x) t.nbas i') (in_order-schedule_all (bare y) t.nbas j')
    (states_in-schedule_all class (bare x) (bare y) t.nbas i' j' h) in
    let here : bare (schedule_wait p t.wait (schedule_all x t.nbas)) ≡ schedule_wait p t.wait (schedule_all (bare x) t.nbas) =
    bare_wait p t.wait (schedule_all x t.nbas) ∙ ap (schedule_wait p t.wait) (bare_all x t.nbas) in
    let there : bare (schedule_wait p t.wait (schedule_all y t.nbas)) ≡ schedule_wait p t.wait (schedule_all (bare y) t.nbas) =
    bare_wait p t.wait (schedule_all y t.nbas) ∙ ap (schedule_wait p t.wait) (bare_all y t.nbas) in
    subst (λ z. AlikeIn class z (bare (schedule_wait p t.wait (schedule_all y t.nbas)))) (sym here)
    (subst (λ z. AlikeIn class (schedule_wait p t.wait (schedule_all (bare x) t.nbas)) z) (sym there) alike)

-- the process goes on

abbrev pub nobody : Continuation
nobody = record { remainder = []; triggers = [] }

pub length_set_continuation : (ps : List Continuation) (p : ℕ) (y : Continuation) → length (slice_set ps p y) ≡ length ps
length_set_continuation [] p y = refl
length_set_continuation (x ∷ ps) zero y = refl
length_set_continuation (x ∷ ps) (suc p) y = ap suc (length_set_continuation ps p y)

set_both : (xs ys : List Continuation) (p q : ℕ) (z : Continuation) → length xs ≡ length ys → slice_index_or xs q nobody ≡ slice_index_or ys q nobody
    → slice_index_or (slice_set xs p z) q nobody ≡ slice_index_or (slice_set ys p z) q nobody
set_both [] [] p q z len h = h
set_both [] (y ∷ ys) p q z len h = cc
set_both (x ∷ xs) [] p q z len h = cc
set_both (x ∷ xs) (y ∷ ys) zero zero z len h = refl
set_both (x ∷ xs) (y ∷ ys) zero (suc q) z len h = h
set_both (x ∷ xs) (y ∷ ys) (suc p) zero z len h = h
set_both (x ∷ xs) (y ∷ ys) (suc p) (suc q) z len h = set_both xs ys p q z (omega (arith, len)) h

set_quiet : (xs : List Continuation) (p q r : ℕ) (z : Continuation) → waits_for_register (slice_index_or xs q nobody) r ≡ false → waits_for_register z r ≡ false
    → waits_for_register (slice_index_or (slice_set xs p z) q nobody) r ≡ false
set_quiet [] p q r z h g = h
set_quiet (x ∷ xs) zero zero r z h g = g
set_quiet (x ∷ xs) zero (suc q) r z h g = h
set_quiet (x ∷ xs) (suc p) zero r z h g = h
set_quiet (x ∷ xs) (suc p) (suc q) r z h g = set_quiet xs p q r z h g

consistent_moved : (design : Design) (x f : State) (q : ℕ) (b : Block) → f.store ≡ x.store → f.time ≡ x.time → IsConsistent design x q b → IsConsistent design f q b
consistent_moved design x f q b store time consistent turn is =
    let was : short_turn design q b.rest x.store x.time ≡ Some turn =
    ap (λ a. short_turn design q b.rest a x.time) (sym store) ∙ ap (λ now. short_turn design q b.rest f.store now) (sym time) ∙ is in
    ap (λ a. all_given a turn.writes) store ∙ consistent turn was ∙ sym store

pub stands_moved : (design : Design) (start x f : State) (q : ℕ) (b : Block) → f.store ≡ x.store → f.time ≡ x.time → evaluations_in q f.active ≡ evaluations_in q x.active
    → continuation_of f q ≡ continuation_of x q → StandsSince design start x q b → StandsSince design start f q b
stands_moved design start x f q b store time evaluations same (inl (one, continuation)) = inl (evaluations ∙ one, same ∙ continuation)
stands_moved design start x f q b store time evaluations same (inr (inl (none, continuation, consistent))) =
    inr (inl (evaluations ∙ none, same ∙ continuation, consistent_moved design x f q b store time consistent))
stands_moved design start x f q b store time evaluations same (inr (inr h)) =
    inr
    (inr
    (record {
      waits = (evaluations ∙ h.waits.0, same ∙ h.waits.1);
      waited = h.waited;
      time = time ∙ h.time;
      registers = ap length store ∙ h.registers;
      inputs = λ r there. h.inputs r there ∙ ap (λ a. value_of a r) (sym store);
      outputs = λ r there. h.outputs r there ∙ ap (λ a. value_of a r) (sym store);
    }))

pub not_one : (p q : ℕ) → (p == q) ≡ false → q ≢ p
not_one p q is same =
    let bad : (p == q) ≡ true = eq-eqb p q (sym same) in
    cc

-- another process goes on in both
goes_on_beside : (class : ℕ → ℕ) (members : List ℕ) (block : ℕ → Block) (x y a b : State) (p : ℕ) (t : turns.Turn) → Beside class members block x y → Keeps x a → Keeps y b → AlikeIn class (bare a) (bare b)
    → Beside class members block (with_continuation p t a) (with_continuation p t b)
goes_on_beside class members block x y a b p t h (time, store, processes, active) (time', store', processes', active') rest =
    let z : Continuation = continuation_after t in
    let here : (q : ℕ) → evaluations_in q a.active ≡ evaluations_in q x.active = λ q. ap (evaluations_in q) active in
    let there : (q : ℕ) → evaluations_in q b.active ≡ evaluations_in q y.active = λ q. ap (evaluations_in q) active' in
    let more : (q : ℕ) → contains members q ≡ true → IsActive y q → IsActive (with_continuation p t b) q = λ q member is. omega (arith, is, there q) in
    record {
      rest = record {
        time = rest.time;
        store = refl;
        processes = refl;
        active = alike_in-same class [];
        inactive = rest.inactive;
        nonblocking = rest.nonblocking;
        monitor = ap (λ ms. ms ++ t.strobes) rest.monitor;
        future_inactive = rest.future_inactive;
        future_nonblocking = rest.future_nonblocking;
        finished = refl;
      };
      registers = ap length store ∙ h.registers ∙ sym (ap length store');
      count = length_set_continuation a.processes p z ∙ ap length processes ∙ h.count ∙ sym (ap length processes') ∙ sym (length_set_continuation b.processes p z);
      plain = λ r none. ap (λ s. value_of s r) store ∙ h.plain r none ∙ ap (λ s. value_of s r) (sym store');
      outside = λ r out.
          ap (λ s. value_of s r) store ∙ h.outside r (out.0, cone_before members block y (with_continuation p t b) out.0 more out.1, out.2) ∙ ap (λ s. value_of s r) (sym store');
      pending = λ cone q r has member is out. h.pending cone q r (cone_before members block y (with_continuation p t b) cone more has) member (omega (arith, is, here q)) out;
      others = λ q other. (
        set_both a.processes b.processes p q z (ap length processes ∙ h.count ∙ sym (ap length processes'))
            (ap (λ ps. slice_index_or ps q nobody) processes ∙ (h.others q other).0 ∙ ap (λ ps. slice_index_or ps q nobody) (sym processes')),
        here q ∙ (h.others q other).1 ∙ sym (there q),
      );
      updates = λ k. ap (updates_of_class class k) active ∙ h.updates k ∙ ap (updates_of_class class k) (sym active');
    }

member_stays : (design : Design) (start : State) (members : List ℕ) (block : ℕ → Block) (x a : State) (p q : ℕ) (t : turns.Turn) → contains members p ≡ false → contains members q ≡ true → Keeps x a → StandsSince design start x q (block q)
    → StandsSince design start (with_continuation p t a) q (block q)
member_stays design start members block x a p q t none member (time, store, processes, active) h =
    let other : q ≢ p = not_one p q (apart_from members p q (p == q) refl none member) in
    stands_moved design start x (with_continuation p t a) q (block q) store time (ap (evaluations_in q) active)
    (get_or-set_other a.processes p q (continuation_after t) nobody other ∙ ap (λ ps. slice_index_or ps q nobody) processes) h

goes_on_together : (class : ℕ → ℕ) (design : Design) (start : State) (members : List ℕ) (block : ℕ → Block) (x y a b : State) (p : ℕ) (t : turns.Turn) → contains members p ≡ false
    → ((r : ℕ) → IsOutput members block r → waits_for_register (continuation_after t) r ≡ false) → Together class design start members block x y → Keeps x a → Keeps y b → AlikeIn class (bare a) (bare b)
    → Together class design start members block (with_continuation p t a) (with_continuation p t b)
goes_on_together class design start members block x y a b p t none waits h keeps keeps' rest =
    record {
      beside = goes_on_beside class members block x y a b p t h.beside keeps keeps' rest;
      here = λ q member. member_stays design start members block x a p q t none member keeps (h.here q member);
      there = λ q member. member_stays design start members block y b p q t none member keeps' (h.there q member);
      quiet = λ q r other out.
          set_quiet a.processes p q r (continuation_after t) (ap (λ ps. waits_for_register (slice_index_or ps q nobody) r) keeps.2 ∙ h.quiet q r other out) (waits r out);
    }

-- a turn

turned_together : (class : ℕ → ℕ) (design : Design) (start : State) (members : List ℕ) (block : ℕ → Block) (t u : State) (n m p : ℕ) (turn : turns.Turn) → IsInOrder t → IsInOrder u
    → ((q : ℕ) → contains members q ≡ true → IsBlock design q (block q)) → action_in t.active n ≡ Some (Evaluate p) → action_in u.active m ≡ Some (Evaluate p) → contains members p ≡ false
    → KeepsOffHeld u members block turn → Together class design start members block t u → Together class design start members block (turned t n p turn) (turned u m p turn)
turned_together class design start members block t u n m p turn i j blocks at_n at_m none keeps h =
    let x : State = change_all (taking n t) turn.writes in
    let y : State = change_all (taking m u) turn.writes in
    let taken : Together class design start members block (taking n t) (taking m u) = evaluation_taken class design start members block t u n m p i j at_n at_m none h in
    let written : Together class design start members block x y = all_together class design start members block turn.writes (taking n t) (taking m u) blocks keeps.writes taken in
    let i' : IsInOrder x = in_order-change_all (taking n t) turn.writes (in_order-taking n t i) in
    let j' : IsInOrder y = in_order-change_all (taking m u) turn.writes (in_order-taking m u j) in
    goes_on_together class design start members block x y (schedule_wait p turn.wait (schedule_all x turn.nbas)) (schedule_wait p turn.wait (schedule_all y turn.nbas)) p turn none keeps.waits written
    (made_keeps x p turn) (made_keeps y p turn) (made_rest class p turn x y i' j' written.beside.rest)

-- a register is an output, or it is none

found_first : (m : ℕ) (ms : List ℕ) (block : ℕ → Block) (r : ℕ) (is : Bool) → contains (block m).outputs r ≡ is → IsOutput ms block r ⊎ (IsOutput ms block r → ⊥)
    → IsOutput (m ∷ ms) block r ⊎ (IsOutput (m ∷ ms) block r → ⊥)
found_first m ms block r true is later =
    let own : (m == m) ≡ true = eq-eqb m m refl in
    inl (m, rw own refl, is)
found_first m ms block r false is (inl (p, there, out)) = inl (p, right (m == p) (contains ms p) there, out)
  where
    right : (a b : Bool) → b ≡ true → (a || b) ≡ true
    right true b h = refl
    right false b h = h
found_first m ms block r false is (inr none) = inr (λ found. none (one_of found.0 (m == found.0) refl found.1 found.2))
  where
    one_of : (p : ℕ) (here : Bool) → (m == p) ≡ here → (here || contains ms p) ≡ true → contains (block p).outputs r ≡ true → IsOutput ms block r
    one_of p true here there out =
        let same : m ≡ p = eqb-true m p here in
        let bad : contains (block p).outputs r ≡ false = rw (← same) is in
        cc
    one_of p false here there out = (p, there, out)

pub output_or_none : (ms : List ℕ) (block : ℕ → Block) (r : ℕ) → IsOutput ms block r ⊎ (IsOutput ms block r → ⊥)
output_or_none [] block r = inr (λ found. nothing_in found.0 found.1)
  where
    nothing_in : (p : ℕ) → contains [] p ≡ true → ⊥
    nothing_in p h = cc
output_or_none (m ∷ ms) block r =
    found_first m ms block r (contains (block m).outputs r) refl (output_or_none ms block r)

agree_at : (class : ℕ → ℕ) (members : List ℕ) (block : ℕ → Block) (t u : State) (turn : turns.Turn) (r : ℕ) → Beside class members block t u → KeepsOffHeld u members block turn
    → contains turn.uses r ≡ true → IsOutput members block r ⊎ (IsOutput members block r → ⊥) → value_of u.store r ≡ value_of t.store r
agree_at class members block t u turn r b keeps used (inl out) = sym (b.outside r (keeps.uses r used out))
agree_at class members block t u turn r b keeps used (inr none) = sym (b.plain r none)

-- it is the same turn in both
pub same_turn : (class : ℕ → ℕ) (design : Design) (members : List ℕ) (block : ℕ → Block) (t u : State) (p : ℕ) (turn : turns.Turn) → Beside class members block t u → contains members p ≡ false
    → KeepsOffHeld u members block turn → turn_of design u p ≡ Some turn → turn_of design t p ≡ Some turn
same_turn class design members block t u p turn b none keeps is =
    let agree : AgreeOn turn.uses u.store t.store = λ r used. agree_at class members block t u turn r b keeps used (output_or_none members block r) in
    let frame : short_turn design p (remainder_of u p) t.store u.time ≡ Some turn = turn_has_frame design p (remainder_of u p) u.store t.store u.time turn (sym b.registers) is agree in
    ap (λ (x : Continuation). short_turn design p x.remainder t.store t.time) (b.others p none).0
    ∙ ap (λ now. short_turn design p (remainder_of u p) t.store now) b.rest.time ∙ frame

pub other_turn : (class : ℕ → ℕ) (design : Design) (start : State) (members : List ℕ) (block : ℕ → Block) (t u : State) (n p : ℕ) (turn : turns.Turn) → IsInOrder t → IsInOrder u → t.finished ≡ false
    → ((q : ℕ) → contains members q ≡ true → IsBlock design q (block q)) → OthersKeepOff design u members block → Together class design start members block t u → contains members p ≡ false
    → action_in t.active n ≡ Some (Evaluate p) → turn_of design t p ≡ Some turn → Answered class design start members block u (turn_effect t n p turn) × (turn.finish ≡ false)
other_turn class design start members block t u n p turn i j going blocks keep h none at is =
    let b : Beside class members block t u = h.beside in
    let some : 1 ≤ evaluations_in p u.active = omega (arith, active_at t n p i at, (b.others p none).1) in
    let (m, at_m) = find_evaluation p 0 u.next_event u.active j.active some in
    let (found, at_u, keeps) = keep p some none in
    let both : Some found ≡ Some turn = sym (same_turn class design members block t u p found b none keeps at_u) ∙ is in
    let one : found ≡ turn = cc in
    let keeps' : KeepsOffHeld u members block turn = subst (λ (x : turns.Turn). KeepsOffHeld u members block x) one keeps in
    let at_u' : turn_of design u p ≡ Some turn = at_u ∙ both in
    let going' : u.finished ≡ false = sym b.rest.finished ∙ going in (
      (
        Entry.Turn m,
        turn_effect u m p turn,
        (p, at_m, none),
        turn_step design u m p turn going' at_m at_u',
        refl,
        turned_together class design start members block t u n m p turn i j blocks at at_m none keeps' h,
      ),
      keeps'.goes_on,
    )

-- an update

pub other_update : (class : ℕ → ℕ) (design : Design) (start : State) (members : List ℕ) (block : ℕ → Block) (t u : State) (n r : ℕ) (v : Vector) → IsInOrder t → IsInOrder u → t.finished ≡ false
    → ((q : ℕ) → contains members q ≡ true → IsBlock design q (block q)) → Together class design start members block t u → (IsOutput members block r → ⊥) → action_in t.active n ≡ Some (Action.Update r v)
    → has_earlier_of_class class (class r) t.active n ≡ false → Answered class design start members block u (update_effect t n r v)
other_update class design start members block t u n r v i j going blocks h none at first =
    let b : Beside class members block t u = h.beside in
    let there : updates_of_class class (class r) u.active ≡ (r, v) ∷ updates_of_class class (class r) (without n t.active) =
    sym (b.updates (class r)) ∙ first_taken class (class r) n r 0 t.next_event v t.active refl i.active at first in
    let (m, at_m, first_m) = find_first class (class r) r 0 u.next_event v u.active (updates_of_class class (class r) (without n t.active)) j.active there in
    let taken : Together class design start members block (taking n t) (taking m u) = update_taken class design start members block t u n m r v i j at at_m first first_m h in
    let going' : u.finished ≡ false = sym b.rest.finished ∙ going in (
      Update m,
      update_effect u m r v,
      tt,
      to_loose class design u (Update m) (update_effect u m r v) (going', (r, v, at_m, first_m, refl)),
      refl,
      one_together class design start members block (taking n t) (taking m u) r v blocks none taken,
    )
