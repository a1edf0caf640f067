-- The members' turns may be put off until the others are done.
use Rattle.std.proofs.Common.{◌≡◌, ℕ, suc, ◌≤◌, Bool, true, false, List, [], ◌∷◌, ◌++◌, ◌⊎◌, inl, inr, map, length, Some, refl, sym, ap, subst, ◌∙◌, ◌==◌, ◌||◌, arith}
use Rattle.std.specs.Prelude.{slice_index_or}
use Rattle.std.specs.List.{All}
use Rattle.std.proofs.lemmas.List.Elements.{All-nil, All-cons, All-head, All-tail}
use Rattle.std.proofs.lemmas.Option.{option_and_then_some}
use Rattle.logic4.specs.Vector.{Vector}
use Rattle.model.specs.declared.entry.Entry.{Entry}
use Rattle.model.specs.declared.entry.Entry.TheVariants.{Update, ActivateInactive, ActivateNba, ActivateMonitor, Advance}
use Rattle.model.specs.declared.end.Limits.{Limits}
use Rattle.model.specs.declared.end.End.{End}
use Rattle.model.specs.Design.{Design}
use Rattle.model.specs.Expressions.{value_of}
use Rattle.model.specs.Turns.{contains, short_turn}
use Rattle.model.specs.Turns as turns
use Rattle.model.specs.States.{Action, Evaluate, Event, Continuation, State, start, change_all, schedule_all, schedule_wait, taking, turned, updated, without}
use Rattle.model.specs.Runs.{Effect, silent, action_in, HasLongTurn, remainder_of, joined, turn_of, turn_effect, update_effect}
use Rattle.model.specs.Laws.{evaluations_in}
use Rattle.model.proofs.TurnLaws.{short_turn_found}
use Rattle.model.specs.Texts.{EndsHere}
use Rattle.orders.specs.Alike.{IsInOrder, updates_in}
use Rattle.orders.specs.Apart.{AgreeOn, all_given, continuation_after}
use Rattle.orders.proofs.EventLists.{updates_left}
use Rattle.orders.proofs.GoingOn.{goes_on}
use Rattle.orders.proofs.SearchLaws.{then_some}
use Rattle.orders.proofs.StatesInOrder.{start_is_in_order}
use Rattle.orders.proofs.Stores.{append-none}
use Rattle.loose.specs.Loose.{of_class, updates_of_class, has_earlier_of_class, AreAlikeIn, IsAlikeFutureIn, AlikeIn, loose_step, loose_run_from}
use Rattle.loose.specs.LooseLaws.{IsOneLooseNode}
use Rattle.loose.proofs.ClassLists.{own_first}
use Rattle.loose.proofs.ClassStates.{states_in-same}
use Rattle.loose.proofs.LooseSteps.{from_loose, loose_step_keeps_order, loose_run_keeps_order}
use Rattle.phases.specs.Phase.{IsActive, Block, IsBlock, ComputesOutputs, continuation_of, IsTurnPending, SettleBetween, waits_for_register, updated_in, IsOutput, IsPhase, TakesEvent}
use Rattle.phases.proofs.Changes.{Changed, changed}
use Rattle.phases.proofs.Events.{active_at, AllChanged, all_changed}
use Rattle.phases.proofs.Members.{stands_first, stands_now}
use Rattle.phases.proofs.PhaseSteps.{Stays, AllStand}
use Rattle.phases.proofs.PhaseRuns.{waits_at, BothSettled, settle_alike, ends_store}
use Rattle.loosephases.specs.LoosePhase.{EndsPhaseLoosely}
use Rattle.loosephases.specs.Held.{AreHeldMembers, OthersKeepOff, IsWayOfOthers, KeepOffOnWays, HeldIsPutOff, HeldStaysHeld, PhaseIsHeld, HeldIsPrefix, HeldCovers}
use Rattle.loosephases.proofs.UpdatesTaken.{register_taken, listed_same}
use Rattle.loosephases.proofs.LoosePhaseSteps.{IsFirstOfIts, is_updated}
use Rattle.loosephases.proofs.LoosePhaseRuns.{takes_event, loose_phase_runs, loosely_visited_too, not_empty}
use Rattle.loosephases.proofs.PhaseEnds.{pending_at}
use Rattle.loosephases.proofs.Beside.{bare, alike_same, Beside, Together}
use Rattle.loosephases.proofs.HeldTurns.{Answered, made_keeps, length_set_continuation, same_turn, other_turn, other_update}
use Rattle.loosephases.proofs.HeldMembers.{turn_leaves, MemberTurn, after_member, member_together}

-- a state is beside itself
pub together_same : (class : ℕ → ℕ) (design : Design) (members : List ℕ) (block : ℕ → Block) (rank : ℕ → ℕ) (s : State) → AreHeldMembers design s members block rank → Together class design s members block s s
together_same class design members block rank s held =
    record {
      beside = record {
        rest = states_in-same class (bare s);
        registers = refl;
        count = refl;
        plain = λ r none. refl;
        outside = λ r out. refl;
        pending = λ cone p r has member active out. has.begins p r member active out;
        others = λ q none. (refl, refl);
        updates = λ c. refl;
      };
      here = λ p member. stands_first design s p (block p) (held.stands p member);
      there = λ p member. stands_first design s p (block p) (held.stands p member);
      quiet = held.others;
    }

-- what is held is held still
held_after : (class : ℕ → ℕ) (design : Design) (start : State) (members : List ℕ) (block : ℕ → Block) (rank : ℕ → ℕ) (s f u : State) → AreHeldMembers design s members block rank → f.finished ≡ false
    → length f.processes ≡ length s.processes → ((r : ℕ) → contains (updated_in f) r ≡ true → contains (updated_in s) r ≡ true) → Together class design start members block f u
    → AreHeldMembers design f members block rank
held_after class design start members block rank s f u held going count fewer h =
    record {
      goes_on = going;
      exist = λ p is. omega (arith, held.exist p is, count);
      blocks = held.blocks;
      stands = λ p member. stands_now design start f p (block p) (h.here p member);
      single = held.single;
      updates = λ r is p member. held.updates r (fewer r is) p member;
      order = held.order;
      others = h.quiet;
    }

-- what an entry comes to: a member's turn leaves the other state, and anything else it does too
abbrev pub Moves : (ℕ → ℕ) → Design → State → List ℕ → (ℕ → Block) → State → Effect → Type 0
Moves class design start members block u f =
    ((f.lines ≡ []) × Together class design start members block f.state u) ⊎ Answered class design start members block u f

abbrev pub Moved : (ℕ → ℕ) → Design → State → List ℕ → (ℕ → Block) → (ℕ → ℕ) → State → Effect → Type 0
Moved class design start members block rank u f = AreHeldMembers design f.state members block rank × Moves class design start members block u f

same_updated : (s f : State) → updates_in f.active ≡ updates_in s.active → (r : ℕ) → contains (updated_in f) r ≡ true → contains (updated_in s) r ≡ true
same_updated s f same r there = ap (λ us. contains (map (λ (w : ℕ × Vector). w.0) us) r) (sym same) ∙ there

member_moves : (class : ℕ → ℕ) (design : Design) (start : State) (members : List ℕ) (block : ℕ → Block) (rank : ℕ → ℕ) (s u : State) (n p : ℕ) (t : turns.Turn) → IsInOrder s → AreHeldMembers design s members block rank
    → MemberTurn design s members block n p t → Together class design start members block s u → Moved class design start members block rank u (turn_effect s n p t)
member_moves class design start members block rank s u n p t i held m h =
    let f : State = after_member s n p t in
    let all : AllChanged (taking n s) t.writes (change_all (taking n s) t.writes) = all_changed (taking n s) t.writes in
    let along : Together class design start members block f u = member_together class design start members block rank s u n p t i held m h in
    let count : length f.processes ≡ length s.processes = length_set_continuation (change_all (taking n s) t.writes).processes p (continuation_after t) ∙ all.count in
    let updates : updates_in f.active ≡ updates_in s.active = all.updates ∙ sym (updates_left n p 0 s.next_event s.active i.active m.at) in
    let held' : AreHeldMembers design f members block rank = held_after class design start members block rank s f u held m.computes.finish count (same_updated s f updates) along in
    let leaves : f ≡ turned s n p t = sym (turn_leaves s n p t (block p) m.computes) in
    (subst (λ x. AreHeldMembers design x members block rank) leaves held', inl (m.computes.lines, subst (λ x. Together class design start members block x u) leaves along))

answered_held : (class : ℕ → ℕ) (design : Design) (start : State) (members : List ℕ) (block : ℕ → Block) (rank : ℕ → ℕ) (s u : State) (f : Effect) → AreHeldMembers design s members block rank → f.state.finished ≡ false
    → length f.state.processes ≡ length s.processes → ((r : ℕ) → contains (updated_in f.state) r ≡ true → contains (updated_in s) r ≡ true) → Answered class design start members block u f
    → Moved class design start members block rank u f
answered_held class design start members block rank s u f held going count fewer (entry, g, takes, at_g, lines, along) =
    (held_after class design start members block rank s f.state g.state held going count fewer along, inr (entry, g, takes, at_g, lines, along))

turn_moves : (class : ℕ → ℕ) (design : Design) (start : State) (members : List ℕ) (block : ℕ → Block) (rank : ℕ → ℕ) (s u : State) (n p : ℕ) (t : turns.Turn) (is : Bool) → contains members p ≡ is → IsInOrder s → IsInOrder u
    → AreHeldMembers design s members block rank → OthersKeepOff design u members block → Together class design start members block s u → action_in s.active n ≡ Some (Evaluate p) → turn_of design s p ≡ Some t
    → Moved class design start members block rank u (turn_effect s n p t)
turn_moves class design start members block rank s u n p t true is i j held keep h at found =
    let pending : IsTurnPending s p (block p) = pending_at s p (block p) (active_at s n p i at) (held.stands p is) in
    let (t', at_t, c) = (held.blocks p is).turns s.store s.time in
    let both : Some t' ≡ Some t = sym at_t ∙ ap (λ (x : Continuation). short_turn design p x.remainder s.store s.time) (sym pending.1) ∙ found in
    let one : t' ≡ t = cc in
    let c' : ComputesOutputs (block p) t = subst (λ (x : turns.Turn). ComputesOutputs (block p) x) one c in
    member_moves class design start members block rank s u n p t i held (record { at = at; member = is; pending = pending; turn = at_t ∙ both; computes = c' }) h
turn_moves class design start members block rank s u n p t false is i j held keep h at found =
    let x : State = change_all (taking n s) t.writes in
    let a : State = schedule_wait p t.wait (schedule_all x t.nbas) in
    let all : AllChanged (taking n s) t.writes x = all_changed (taking n s) t.writes in
    let (time, store, processes, active) = made_keeps x p t in
    let (answered, finish) = other_turn class design start members block s u n p t i j held.goes_on held.blocks keep h is at found in
    let count : length (turned s n p t).processes ≡ length s.processes = length_set_continuation a.processes p (continuation_after t) ∙ ap length processes ∙ all.count in
    let updates : updates_in (turned s n p t).active ≡ updates_in s.active = ap updates_in active ∙ all.updates ∙ sym (updates_left n p 0 s.next_event s.active i.active at) in
    answered_held class design start members block rank s u (turn_effect s n p t) held finish count (same_updated s (turned s n p t) updates) answered

update_moves : (class : ℕ → ℕ) (design : Design) (start : State) (members : List ℕ) (block : ℕ → Block) (rank : ℕ → ℕ) (s u : State) (n r : ℕ) (v : Vector) → IsInOrder s → IsInOrder u → AreHeldMembers design s members block rank
    → Together class design start members block s u → action_in s.active n ≡ Some (Action.Update r v) → has_earlier_of_class class (class r) s.active n ≡ false
    → Moved class design start members block rank u (update_effect s n r v)
update_moves class design start members block rank s u n r v i j held h at earliest =
    let first : IsFirstOfIts s n r v = λ q. register_taken class q n r 0 s.next_event v s.active i.active at earliest in
    let touched : contains (updated_in s) r ≡ true = is_updated s n r v first in
    let c : Changed (taking n s) r v (updated s n r v) = changed (taking n s) r v in
    let fewer : (q : ℕ) → contains (updated_in (updated s n r v)) q ≡ true → contains (updated_in s) q ≡ true =
    λ q there.
    let later : contains (map (λ (w : ℕ × Vector). w.0) (updates_in (without n s.active))) q ≡ true = ap (λ us. contains (map (λ (w : ℕ × Vector). w.0) us) q) (sym c.updates) ∙ there in
    listed_same q (updates_in s.active) ((r, v) ∷ updates_in (without n s.active)) (first q)
    ∙ or_right (r == q) (contains (map (λ (w : ℕ × Vector). w.0) (updates_in (without n s.active))) q) later in
    answered_held class design start members block rank s u (update_effect s n r v) held (c.finished ∙ held.goes_on) c.count fewer
    (other_update class design start members block s u n r v i j held.goes_on held.blocks h (λ out. no_output out.0 (held.updates r touched out.0 out.1) out.2) at earliest)
  where
    or_right : (a b : Bool) → b ≡ true → (a || b) ≡ true
    or_right true b h = refl
    or_right false b h = h

    no_output : (p : ℕ) → contains (block p).outputs r ≡ false → contains (block p).outputs r ≡ true → ⊥
    no_output p none is = cc

pub entry_moves : (class : ℕ → ℕ) (design : Design) (start : State) (members : List ℕ) (block : ℕ → Block) (rank : ℕ → ℕ) (s u : State) (entry : Entry) (f : Effect) → IsInOrder s → IsInOrder u
    → AreHeldMembers design s members block rank → OthersKeepOff design u members block → Together class design start members block s u → TakesEvent entry → loose_step class design s entry ≡ Some f
    → Moved class design start members block rank u f
entry_moves class design start members block rank s u (Entry.Turn n) f i j held keep h takes is =
    let (going, (p, turn, at, exact, short, same)) = from_loose class design s (Entry.Turn n) f is in
    rw same
    (turn_moves class design start members block rank s u n p turn (contains members p) refl i j held keep h at (short_turn_found design p (remainder_of s p) s.store s.time turn exact short))
entry_moves class design start members block rank s u (Update n) f i j held keep h takes is =
    let (going, (r, v, at, first, same)) = from_loose class design s (Update n) f is in
    rw same (update_moves class design start members block rank s u n r v i j held h at first)
entry_moves class design start members block rank s u ActivateInactive f i j held keep h takes is = absurd takes
entry_moves class design start members block rank s u ActivateNba f i j held keep h takes is = absurd takes
entry_moves class design start members block rank s u ActivateMonitor f i j held keep h takes is = absurd takes
entry_moves class design start members block rank s u (Advance time) f i j held keep h takes is = absurd takes

pub held_stays_held : HeldStaysHeld
held_stays_held class design members block rank s entry f order held keep takes is =
    let (still, moves) = entry_moves class design s members block rank s s entry f order order held keep (together_same class design members block rank s held) takes is in
    still

-- a way goes along with a run

abbrev Followed : (ℕ → ℕ) → Design → State → List ℕ → (ℕ → Block) → (ℕ → ℕ) → Effect → Effect → Type 0
Followed class design start members block rank d f =
    (way : List Entry) × (g : Effect) × IsWayOfOthers class design members d way g × (f.lines ≡ g.lines) × IsInOrder g.state
    × AreHeldMembers design f.state members block rank × Together class design start members block f.state g.state

followed_more : (class : ℕ → ℕ) (design : Design) (start : State) (members : List ℕ) (block : ℕ → Block) (rank : ℕ → ℕ) (e d y f : Effect)
    → ((k : Effect) → IsInOrder k.state → KeepOffOnWays class design members block k → Together class design start members block y.state k.state → (joined e y).lines ≡ k.lines → Followed class design start members block rank k f)
    → IsInOrder d.state → KeepOffOnWays class design members block d → e.lines ≡ d.lines → Moves class design start members block d.state y → Followed class design start members block rank d f
followed_more class design start members block rank e d y f later j keep same (inl (lines, along)) =
    later d j keep along (ap (λ ls. e.lines ++ ls) lines ∙ append-none e.lines ∙ same)
followed_more class design start members block rank e d y f later j keep same (inr (entry, z, takes, at_z, lines, along)) =
    let (way, g, goes, lines', order, held, together) =
    later (joined d z) (loose_step_keeps_order class design d.state entry z j at_z) (λ way k is. keep (entry ∷ way) k (z, takes, at_z, is)) along
    (ap (λ ls. ls ++ y.lines) same ∙ ap (λ ls. d.lines ++ ls) lines) in
    (entry ∷ way, g, (z, takes, at_z, goes), lines', order, held, together)

follow : (class : ℕ → ℕ) (design : Design) (start : State) (members : List ℕ) (block : ℕ → Block) (rank : ℕ → ℕ) (entries : List Entry) (e d f : Effect) → IsInOrder e.state → IsInOrder d.state
    → AreHeldMembers design e.state members block rank → KeepOffOnWays class design members block d → Together class design start members block e.state d.state → e.lines ≡ d.lines → All TakesEvent entries
    → loose_run_from class design e entries ≡ Some f → Followed class design start members block rank d f
follow class design start members block rank [] e d f i j held keep h same takes is =
    let one : e ≡ f = cc in
    subst (λ x. Followed class design start members block rank d x) one ([], d, refl, same, j, held, h)
follow class design start members block rank (entry ∷ entries) e d f i j held keep h same takes is =
    option_and_then_some (λ x. loose_run_from class design (joined e x) entries) (loose_step class design e.state entry) f is
    (λ y at_y later.
    let (held', moves) = entry_moves class design start members block rank e.state d.state entry y i j held (keep [] d refl) h (All-head TakesEvent entry entries takes) at_y in
    let i' : IsInOrder y.state = loose_step_keeps_order class design e.state entry y i at_y in
    followed_more class design start members block rank e d y f
    (λ k j' keep' h' same'. follow class design start members block rank entries (joined e y) k f i' j' held' keep' h' same' (All-tail TakesEvent entry entries takes) later)
    j keep same moves)

-- where none is active in the one, members alone are active in the other

none_listed : (class : ℕ → ℕ) (us : List (ℕ × Vector)) → ((c : ℕ) → of_class class c us ≡ []) → us ≡ []
none_listed class [] h = refl
none_listed class (w ∷ us) h =
    let bad : w ∷ of_class class (class w.0) us ≡ [] = sym (own_first class (class w.0) w.0 w.1 us refl) ∙ h (class w.0) in
    cc

none_updated : (class : ℕ → ℕ) (members : List ℕ) (block : ℕ → Block) (f g : State) → Beside class members block f g → f.active ≡ [] → updates_in g.active ≡ []
none_updated class members block f g b over =
    none_listed class (updates_in g.active) (λ c. sym (b.updates c) ∙ ap (updates_of_class class c) over)

phase_at_end : (class : ℕ → ℕ) (design : Design) (start : State) (members : List ℕ) (block : ℕ → Block) (rank : ℕ → ℕ) (f g : State) → AreHeldMembers design f members block rank → Together class design start members block f g → f.active ≡ []
    → IsPhase design g members block rank
phase_at_end class design start members block rank f g held h over =
    let b : Beside class members block f g = h.beside in
    let none : updates_in g.active ≡ [] = none_updated class members block f g b over in
    record {
      goes_on = sym b.rest.finished ∙ held.goes_on;
      inside = λ q active. member_at q (contains members q) refl active;
      exist = λ p is. omega (arith, held.exist p is, b.count);
      blocks = held.blocks;
      stands = λ p member. stands_now design start g p (block p) (h.there p member);
      single = held.single;
      updates = λ r is. absurd (no_update (updates_in g.active) r none is);
      order = held.order;
      others = λ q r other touched. asleep q r other touched;
    }
  where
    member_at : (q : ℕ) (is : Bool) → contains members q ≡ is → IsActive g q → contains members q ≡ true
    member_at q true is active = is
    member_at q false is active =
        let same : evaluations_in q f.active ≡ evaluations_in q g.active = (h.beside.others q is).1 in
        let zero : evaluations_in q f.active ≡ 0 = ap (evaluations_in q) over in
        absurd (omega (arith, same, zero, active))

    no_update : (us : List (ℕ × Vector)) (r : ℕ) → us ≡ [] → contains (map (λ (w : ℕ × Vector). w.0) us) r ≡ true → ⊥
    no_update [] r none is = cc
    no_update (w ∷ us) r none is = cc

    asleep : (q r : ℕ) → contains members q ≡ false → contains (updated_in g) r ≡ true ⊎ IsOutput members block r → waits_for_register (continuation_of g q) r ≡ false
    asleep q r other (inl touched) =
        absurd (no_update (updates_in g.active) r (none_updated class members block f g h.beside over) touched)
    asleep q r other (inr out) =
        ap (λ x. waits_for_register x r) (sym (h.beside.others q other).0) ∙ h.quiet q r other out

-- and once these are taken, the states are alike

same_continuation : (xs ys : List Continuation) → length xs ≡ length ys
    → ((p : ℕ) → slice_index_or xs p (record { remainder = []; triggers = [] }) ≡ slice_index_or ys p (record { remainder = []; triggers = [] })) → xs ≡ ys
same_continuation [] [] len h = refl
same_continuation [] (y ∷ ys) len h = cc
same_continuation (x ∷ xs) [] len h = cc
same_continuation (x ∷ xs) (y ∷ ys) len h =
    let first : x ≡ y = h 0 in
    let others : xs ≡ ys = same_continuation xs ys (omega (arith, len)) (λ p. h (suc p)) in
    rw (first, others) refl

process_same : (class : ℕ → ℕ) (design : Design) (start : State) (members : List ℕ) (block : ℕ → Block) (rank : ℕ → ℕ) (f g k : State) (p : ℕ) (is : Bool) → contains members p ≡ is → Together class design start members block f g
    → f.active ≡ [] → IsPhase design k members block rank → Stays members block g k → k.active ≡ [] → continuation_of f p ≡ continuation_of k p
process_same class design start members block rank f g k p true is h over phase stays over' =
    (waits_at f p (block p) over (stands_now design start f p (block p) (h.here p is))).1 ∙ sym (waits_at k p (block p) over' (phase.stands p is)).1
process_same class design start members block rank f g k p false is h over phase stays over' =
    (h.beside.others p is).0 ∙ sym (stays.others p is).0

alike_on : (class : ℕ → ℕ) (xs ys zs : List Event) → AreAlikeIn class xs ys → zs ≡ ys → AreAlikeIn class xs zs
alike_on class xs ys zs h is = subst (λ es. AreAlikeIn class xs es) (sym is) h

future_on : (class : ℕ → ℕ) (xs ys zs : List (ℕ × Event)) → IsAlikeFutureIn class xs ys → zs ≡ ys → IsAlikeFutureIn class xs zs
future_on class xs ys zs h is = subst (λ es. IsAlikeFutureIn class xs es) (sym is) h

settled_value : (class : ℕ → ℕ) (members : List ℕ) (block : ℕ → Block) (f g k : State) (r : ℕ) → Beside class members block f g → f.active ≡ [] → Stays members block g k → k.active ≡ []
    → (IsOutput members block r → ⊥) → value_of g.store r ≡ value_of k.store r
settled_value class members block f g k r b over stays over' none =
    ap (λ us. value_of (all_given g.store us) r) (sym (none_updated class members block f g b over)) ∙ sym (stays.values r none)
    ∙ ap (λ es. value_of (all_given k.store (updates_in es)) r) over'

settle_either : (design : Design) (members : List ℕ) (block : ℕ → Block) (start f g : State) (p : ℕ) → contains members p ≡ true → IsBlock design p (block p) → f.active ≡ [] → g.active ≡ [] → AllStand design members block start f
    → AllStand design members block start g → SettleBetween design members block start f ⊎ SettleBetween design members block start g → AgreeOn (block p).inputs f.store g.store → BothSettled design f g p (block p)
settle_either design members block start f g p member block_is over over' stand stand' (inl settle) agree =
    let both : BothSettled design g f p (block p) = settle_alike design members block start g f p member block_is over' over stand' stand settle (λ r there. sym (agree r there)) in
    (both.1, both.0)
settle_either design members block start f g p member block_is over over' stand stand' (inr settle) agree =
    settle_alike design members block start f g p member block_is over over' stand stand' settle agree

ends_alike : (class : ℕ → ℕ) (design : Design) (start : State) (members : List ℕ) (block : ℕ → Block) (rank : ℕ → ℕ) (f g k : State) → AreHeldMembers design f members block rank → Together class design start members block f g
    → f.active ≡ [] → IsPhase design k members block rank → Stays members block g k → AllStand design members block start k
    → SettleBetween design members block start f ⊎ SettleBetween design members block start k → k.active ≡ [] → AlikeIn class f k
ends_alike class design start members block rank f g k held h over phase stays stand settle over' =
    let b : Beside class members block f g = h.beside in
    let here : IsPhase design f members block rank = phase_at_end class design f members block rank f f held (together_same class design members block rank f held) over in
    let registers : length f.store ≡ length k.store = b.registers ∙ sym stays.registers in
    record {
      time = b.rest.time ∙ sym stays.time;
      store =
          ends_store design members block rank f k
          (record {
            phase = here;
            settled = λ p member agree. settle_either design members block start f k p member (held.blocks p member) over over' h.here stand settle agree;
            time = b.rest.time ∙ sym stays.time;
            registers = registers;
            plain = λ r none. b.plain r none ∙ settled_value class members block f g k r b over stays over' none;
          });
      processes =
          same_continuation f.processes k.processes (b.count ∙ sym stays.count)
          (λ p. process_same class design start members block rank f g k p (contains members p) refl h over phase stays over');
      active = alike_same class f.active k.active (over ∙ sym over');
      inactive = alike_on class f.inactive g.inactive k.inactive b.rest.inactive stays.inactive;
      nonblocking = alike_on class f.nonblocking g.nonblocking k.nonblocking b.rest.nonblocking stays.nonblocking;
      monitor = b.rest.monitor ∙ sym stays.monitor;
      future_inactive = future_on class f.future_inactive g.future_inactive k.future_inactive b.rest.future_inactive stays.future_inactive;
      future_nonblocking = future_on class f.future_nonblocking g.future_nonblocking k.future_nonblocking b.rest.future_nonblocking stays.future_nonblocking;
      finished = b.rest.finished ∙ sym stays.finished;
    }

pub held_is_put_off : HeldIsPutOff
held_is_put_off class design members block rank e f entries order held keep (takes, goes, over) =
    let (way, g, is_way, lines, order_g, held_f, h) =
    follow class design e.state members block rank entries e e f order order held keep (together_same class design members block rank e.state held) refl takes goes in
    let phase : IsPhase design g.state members block rank = phase_at_end class design e.state members block rank f.state g.state held_f h over in (
      way,
      g,
      is_way,
      lines,
      phase,
      none_updated class members block f.state g.state h.beside over,
      h.there,
      λ others k ends settle. one_node g lines order_g held_f h phase others k ends settle,
    )
  where
    one_node : (g : Effect) → f.lines ≡ g.lines → IsInOrder g.state → AreHeldMembers design f.state members block rank → Together class design e.state members block f.state g.state → IsPhase design g.state members block rank
        → (others : List Entry) (k : Effect) → EndsPhaseLoosely class design g others k
        → SettleBetween design members block e.state f.state ⊎ SettleBetween design members block e.state k.state → IsOneLooseNode class f k
    one_node g lines order_g held_f h phase others k (takes', goes', over') settle =
        let (lines', order_k, phase_k, stays, stand) = loose_phase_runs class design members block rank e.state others g k order_g phase h.there takes' goes' in
        (lines ∙ sym lines', ends_alike class design e.state members block rank f.state g.state k.state held_f h over phase_k stays stand settle over')

-- a run to an end comes to where none is active

pub no_long_turn : (class : ℕ → ℕ) (design : Design) (start : State) (members : List ℕ) (block : ℕ → Block) (rank : ℕ → ℕ) (t u : State) (p : ℕ) (is : Bool) → contains members p ≡ is → IsInOrder t → AreHeldMembers design t members block rank
    → OthersKeepOff design u members block → Together class design start members block t u → HasLongTurn design t p → ⊥
no_long_turn class design start members block rank t u p true is i held keep h (n, at, long) =
    let pending : IsTurnPending t p (block p) = pending_at t p (block p) (active_at t n p i at) (held.stands p is) in
    let (turn, at_t, c) = (held.blocks p is).turns t.store t.time in
    let found : turn_of design t p ≡ Some turn = ap (λ (x : Continuation). short_turn design p x.remainder t.store t.time) pending.1 ∙ at_t in
    cc
no_long_turn class design start members block rank t u p false is i held keep h (n, at, long) =
    let active : 1 ≤ evaluations_in p u.active = omega (arith, active_at t n p i at, (h.beside.others p is).1) in
    let (turn, at_u, keeps) = keep p active is in
    let found : turn_of design t p ≡ Some turn = same_turn class design members block t u p turn h.beside is keeps at_u in
    cc

abbrev pub Passes : (ℕ → ℕ) → Design → Effect → List Entry → Effect → Type 0
Passes class design e entries g =
    (before : List Entry) × (after : List Entry) × (f : Effect) × (before ++ after ≡ entries) × EndsPhaseLoosely class design e before f
    × (loose_run_from class design f after ≡ Some g)

pub passes_more : (class : ℕ → ℕ) (design : Design) (e y g : Effect) (entry : Entry) (entries : List Entry) → TakesEvent entry → loose_step class design e.state entry ≡ Some y → Passes class design (joined e y) entries g
    → Passes class design e (entry ∷ entries) g
passes_more class design e y g entry entries takes at_y (before, after, f, split, (all, goes, over), rest) = (
  entry ∷ before,
  after,
  f,
  ap (λ xs. entry ∷ xs) split,
  (All-cons TakesEvent entry before takes all, then_some (λ x. loose_run_from class design (joined e x) before) (loose_step class design e.state entry) y f at_y goes, over),
  rest,
)

passed_more : (class : ℕ → ℕ) (design : Design) (start : State) (members : List ℕ) (block : ℕ → Block) (e d y g : Effect) (entry : Entry) (entries : List Entry) → TakesEvent entry → loose_step class design e.state entry ≡ Some y
    → ((k : Effect) → IsInOrder k.state → KeepOffOnWays class design members block k → Together class design start members block y.state k.state → Passes class design (joined e y) entries g)
    → IsInOrder d.state → KeepOffOnWays class design members block d → Moves class design start members block d.state y → Passes class design e (entry ∷ entries) g
passed_more class design start members block e d y g entry entries takes at_y later j keep (inl (lines, along)) =
    passes_more class design e y g entry entries takes at_y (later d j keep along)
passed_more class design start members block e d y g entry entries takes at_y later j keep (inr (other, z, takes', at_z, lines, along)) =
    passes_more class design e y g entry entries takes at_y
    (later (joined d z) (loose_step_keeps_order class design d.state other z j at_z) (λ way k is. keep (other ∷ way) k (z, takes', at_z, is)) along)

passes : (class : ℕ → ℕ) (design : Design) (start : State) (limits : Limits) (members : List ℕ) (block : ℕ → Block) (rank : ℕ → ℕ) (es : List Event) (entries : List Entry) (e d g : Effect) (end : End) → e.state.active ≡ es
    → IsInOrder e.state → IsInOrder d.state → AreHeldMembers design e.state members block rank → KeepOffOnWays class design members block d → Together class design start members block e.state d.state
    → loose_run_from class design e entries ≡ Some g → EndsHere design limits g end → Passes class design e entries g
passes class design start limits members block rank [] entries e d g end active i j held keep h is ends = ([], entries, e, refl, (All-nil TakesEvent, refl, active), is)
passes class design start limits members block rank (x ∷ xs) [] e d g end active i j held keep h is ends =
    let same : e ≡ g = cc in
    let ends' : EndsHere design limits e end = rw same ends in
    absurd
    (goes_on design limits e.state x xs 0 end active held.goes_on
    (λ p long. no_long_turn class design start members block rank e.state d.state p (contains members p) refl i held (keep [] d refl) h long) ends'.0 ends'.1 ends'.2)
passes class design start limits members block rank (x ∷ xs) (entry ∷ entries) e d g end active i j held keep h is ends =
    option_and_then_some (λ y. loose_run_from class design (joined e y) entries) (loose_step class design e.state entry) g is
    (λ y at_y later.
    let takes : TakesEvent entry = takes_event class design e.state x xs entry y active (from_loose class design e.state entry y at_y).1 in
    let (held', moves) = entry_moves class design start members block rank e.state d.state entry y i j held (keep [] d refl) h takes at_y in
    let i' : IsInOrder y.state = loose_step_keeps_order class design e.state entry y i at_y in
    passed_more class design start members block e d y g entry entries takes at_y
    (λ k j' keep' h'. passes class design start limits members block rank y.state.active entries (joined e y) k g end refl i' j' held' keep' h' later ends) j keep moves)

pub held_is_prefix : HeldIsPrefix
held_is_prefix class design limits members block rank e g entries end order held keep goes over =
    passes class design e.state limits members block rank e.state.active entries e e g end refl order order held keep (together_same class design members block rank e.state held) goes over

pub phase_is_held : PhaseIsHeld
phase_is_held design s members block rank phase =
    record {
      goes_on = phase.goes_on;
      exist = phase.exist;
      blocks = phase.blocks;
      stands = phase.stands;
      single = phase.single;
      updates = phase.updates;
      order = phase.order;
      others = λ q r none out. phase.others q r none (inr out);
    }

pub held_covers : HeldCovers
held_covers class design limits nodes members block rank e (journal, reached) held keep some given entry others g end goes timely over =
    let order : IsInOrder e.state = loose_run_keeps_order class design (silent (start design)) e journal (start_is_in_order design) reached in
    let (before, after, f, split, ends, rest) = held_is_prefix class design limits members block rank e g (entry ∷ others) end order held keep goes over in
    let (way, w, is_way, lines, phase, none, stand, one) = held_is_put_off class design members block rank e f before order held keep ends in
    let (through, k, ends_k, settle, visited) = given way w is_way phase stand in
    (before, after, f, not_empty class design before e f ends some, split, ends.1, loosely_visited_too class nodes f k (one through k ends_k (inr settle)) visited)
