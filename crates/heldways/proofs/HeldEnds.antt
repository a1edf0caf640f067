-- Whichever events come first where members are held, there is one loose node once none is active.
use Rattle.std.proofs.Common.{◌≡◌, ℕ, suc, Bool, true, false, List, [], ◌∷◌, ◌⊎◌, inl, inr, length, Some, refl, sym, ap, subst, ◌∙◌, if◌then◌else◌, ◌==◌, arith, true≢false}
use Rattle.std.specs.Prelude.{slice_index_or}
use Rattle.std.proofs.lemmas.List.Elements.{All-nil}
use Rattle.logic4.specs.Vector.{Vector}
use Rattle.model.specs.declared.entry.Entry.{Entry}
use Rattle.model.specs.Design.{Design}
use Rattle.model.specs.Expressions.{value_of}
use Rattle.model.specs.Turns.{contains}
use Rattle.model.specs.States.{Action, Evaluate, Event, Continuation, State}
use Rattle.model.specs.Runs.{Effect, action_in}
use Rattle.orders.specs.Alike.{IsInOrder, with_update, updates_in}
use Rattle.orders.specs.Apart.{all_given}
use Rattle.phases.proofs.Events.{active_at}
use Rattle.loose.specs.Loose.{AreAlikeIn, IsAlikeFutureIn, AlikeIn}
use Rattle.loose.specs.LooseLaws.{IsOneLooseNode}
use Rattle.loose.proofs.ClassStates.{states_in-sym, states_in-trans}
use Rattle.phases.specs.Phase.{Block, IsTurnPending, HasSettled, HasChangedInput, SettleBetween, continuation_of, IsOutput, IsPhase, TakesEvent}
use Rattle.phases.proofs.PhaseSteps.{Stays, AllStand}
use Rattle.phases.proofs.PhaseRuns.{waits_at, settle_alike, ends_store}
use Rattle.loosephases.specs.LoosePhase.{EndsPhaseLoosely}
use Rattle.loosephases.specs.Held.{KeepOffOnWays}
use Rattle.loosephases.proofs.Beside.{alike_same}
use Rattle.loosephases.proofs.HeldRuns.{held_is_put_off}
use Rattle.loosephases.proofs.LoosePhaseRuns.{loose_phase_runs}
use Rattle.loosephases.proofs.PhaseEnds.{loose_phase_completes}
use Rattle.certificates.specs.CertificateLaws.{NobodyWaits}
use Rattle.heldmoves.specs.WithoutHeld.{asleep_if, evaluates_held, without_held}
use Rattle.heldmoves.proofs.LeftAside.{was_there, asleep_at, length_asleep}
use Rattle.certificates.proofs.OneEvent.{HasOneEvent}
use Rattle.heldways.specs.Passing.{Passing}
use Rattle.heldways.proofs.WaysKept.{HasCertifiedWay, keep_off_at, way_order, ends_like}

-- where none but members is active, nobody waits without what is held

no_update_in : (n r : ℕ) (v : Vector) (a : Action) (es : List Event) (here : Bool) → with_update a (updates_in es) ≡ [] → (if here then Some a else action_in es n) ≡ Some (Action.Update r v)
    → (updates_in es ≡ [] → action_in es n ≡ Some (Action.Update r v) → ⊥) → ⊥
no_update_in n r v (Evaluate p) es true none is later = cc
no_update_in n r v (Evaluate p) es false none is later = later none is
no_update_in n r v (Action.Update q w) es here none is later = cc

no_update : (n r : ℕ) (v : Vector) (es : List Event) → updates_in es ≡ [] → action_in es n ≡ Some (Action.Update r v) → ⊥
no_update n r v [] none is = cc
no_update n r v (e ∷ es) none is = no_update_in n r v e.1 es (e.0 == n) none is (no_update n r v es)

nobody_waits : (class : ℕ → ℕ) (design : Design) (members : List ℕ) (block : ℕ → Block) (rank : ℕ → ℕ) (s : State) → IsInOrder s → IsPhase design s members block rank → updates_in s.active ≡ []
    → NobodyWaits class (without_held (contains members) s)
nobody_waits class design members block rank s order phase none a (n, action, at, own) =
    let (was, other) = was_there (contains members) n 0 s.next_event action s.active order.active at in
    of_action action was other
  where
    of_action : (action : Action) → action_in s.active n ≡ Some action → evaluates_held (contains members) action ≡ false → ⊥
    of_action (Evaluate p) was other = true≢false (sym (phase.inside p (active_at s n p order was)) ∙ other)
    of_action (Action.Update r v) was other = no_update n r v s.active none was

-- two phases that are alike without what is held

alike_between : (class : ℕ → ℕ) (xs ys us vs : List Event) → us ≡ xs → vs ≡ ys → AreAlikeIn class xs ys → AreAlikeIn class us vs
alike_between class xs ys us vs g h alike = subst (λ zs. AreAlikeIn class zs vs) (sym g) (subst (λ zs. AreAlikeIn class xs zs) (sym h) alike)

future_between : (class : ℕ → ℕ) (xs ys us vs : List (ℕ × Event)) → us ≡ xs → vs ≡ ys → IsAlikeFutureIn class xs ys → IsAlikeFutureIn class us vs
future_between class xs ys us vs g h alike = subst (λ zs. IsAlikeFutureIn class zs vs) (sym g) (subst (λ zs. IsAlikeFutureIn class xs zs) (sym h) alike)

-- whether members settle is told by the values of the second state
pub settle_on : (design : Design) (members : List ℕ) (block : ℕ → Block) (start s t : State) → s.store ≡ t.store → SettleBetween design members block start s → SettleBetween design members block start t
settle_on design members block start s t same settle p member = on (settle p member)
  where
    on : (IsTurnPending start p (block p) ⊎ HasSettled design start p (block p)) ⊎ HasChangedInput start s (block p)
        → (IsTurnPending start p (block p) ⊎ HasSettled design start p (block p)) ⊎ HasChangedInput start t (block p)
    on (inl h) = inl h
    on (inr (r, input, differs)) = inr (r, input, λ is. differs (is ∙ ap (λ a. value_of a r) (sym same)))

pub same_continuation : (xs ys : List Continuation) → length xs ≡ length ys
    → ((p : ℕ) → slice_index_or xs p (record { remainder = []; triggers = [] }) ≡ slice_index_or ys p (record { remainder = []; triggers = [] })) → xs ≡ ys
same_continuation [] [] len h = refl
same_continuation [] (y ∷ ys) len h = cc
same_continuation (x ∷ xs) [] len h = cc
same_continuation (x ∷ xs) (y ∷ ys) len h =
    let first : x ≡ y = h 0 in
    let others : xs ≡ ys = same_continuation xs ys (omega (arith, len)) (λ p. h (suc p)) in
    rw (first, others) refl

module _ (class : ℕ → ℕ) (design : Design) (members : List ℕ) (block : ℕ → Block) (rank : ℕ → ℕ) (start g t k z : State) (near : AlikeIn class (without_held (contains members) g) (without_held (contains members) t)) (none : updates_in g.active ≡ []) (none' : updates_in t.active ≡ [])
    (here : IsPhase design k members block rank) (there : IsPhase design z members block rank) (h : Stays members block g k) (i : Stays members block t z) (over : k.active ≡ []) (over' : z.active ≡ [])
    (stand : AllStand design members block start k) (stand' : AllStand design members block start z) (settle : SettleBetween design members block start z) where
  awake_same : (p : ℕ) → contains members p ≡ false → continuation_of g p ≡ continuation_of t p
  awake_same p other =
      ap (λ b. asleep_if b (continuation_of g p)) (sym other) ∙ sym (asleep_at (contains members) p g.processes)
      ∙ ap (λ ps. slice_index_or ps p (record { remainder = []; triggers = [] })) near.processes ∙ asleep_at (contains members) p t.processes ∙ ap (λ b. asleep_if b (continuation_of t p)) other

  process_same : (p : ℕ) (is : Bool) → contains members p ≡ is → continuation_of k p ≡ continuation_of z p
  process_same p true is =
      (waits_at k p (block p) over (here.stands p is)).1 ∙ sym (waits_at z p (block p) over' (there.stands p is)).1
  process_same p false is = (h.others p is).0 ∙ awake_same p is ∙ sym (i.others p is).0

  value_same : (r : ℕ) → (IsOutput members block r → ⊥) → value_of k.store r ≡ value_of z.store r
  value_same r plain =
      ap (λ es. value_of (all_given k.store (updates_in es)) r) (sym over) ∙ h.values r plain ∙ ap (λ us. value_of (all_given g.store us) r) none ∙ ap (λ a. value_of a r) near.store
      ∙ ap (λ us. value_of (all_given t.store us) r) (sym none') ∙ sym (i.values r plain) ∙ ap (λ es. value_of (all_given z.store (updates_in es)) r) over'

  time_same : k.time ≡ z.time
  time_same = h.time ∙ near.time ∙ sym i.time

  count_same : length k.processes ≡ length z.processes
  count_same =
      h.count ∙ sym (length_asleep (contains members) 0 g.processes) ∙ ap length near.processes ∙ length_asleep (contains members) 0 t.processes ∙ sym i.count

  pub settled_alike : AlikeIn class k z
  settled_alike =
      record {
        time = time_same;
        store = ends_store design members block rank k z
            (record {
              phase = here;
              settled = λ p member agree. settle_alike design members block start k z p member (here.blocks p member) over over' stand stand' settle agree;
              time = time_same;
              registers = h.registers ∙ ap length near.store ∙ sym i.registers;
              plain = value_same;
            });
        processes = same_continuation k.processes z.processes count_same (λ p. process_same p (contains members p) refl);
        active = alike_same class k.active z.active (over ∙ sym over');
        inactive = alike_between class g.inactive t.inactive k.inactive z.inactive h.inactive i.inactive near.inactive;
        nonblocking = alike_between class g.nonblocking t.nonblocking k.nonblocking z.nonblocking h.nonblocking i.nonblocking near.nonblocking;
        monitor = h.monitor ∙ near.monitor ∙ sym i.monitor;
        future_inactive = future_between class g.future_inactive t.future_inactive k.future_inactive z.future_inactive h.future_inactive i.future_inactive near.future_inactive;
        future_nonblocking = future_between class g.future_nonblocking t.future_nonblocking k.future_nonblocking z.future_nonblocking h.future_nonblocking i.future_nonblocking near.future_nonblocking;
        finished = h.finished ∙ near.finished ∙ sym i.finished;
      }

-- what comes of all that is active: its lines, and how its members have settled behind a way of the others

abbrev SettlesLike : (ℕ → ℕ) → Design → List ℕ → (ℕ → Block) → (ℕ → ℕ) → State → Effect → Effect → Type 0
SettlesLike class design members block rank start f w =
    (k : Effect) × (f.lines ≡ w.lines)
    × (SettleBetween design members block start f.state ⊎ SettleBetween design members block start k.state → AlikeIn class f.state k.state)
    × (updates_in w.state.active ≡ []) × IsPhase design k.state members block rank × Stays members block w.state k.state
    × AllStand design members block start k.state × (k.state.active ≡ [])

settles : (class : ℕ → ℕ) (design : Design) (members : List ℕ) (block : ℕ → Block) (rank : ℕ → ℕ) (start : State) (f w : Effect) → IsInOrder w.state → f.lines ≡ w.lines → IsPhase design w.state members block rank
    → updates_in w.state.active ≡ [] → AllStand design members block start w.state
    → ((others : List Entry) (k : Effect) → EndsPhaseLoosely class design w others k
    → SettleBetween design members block start f.state ⊎ SettleBetween design members block start k.state → IsOneLooseNode class f k) → SettlesLike class design members block rank start f w
settles class design members block rank start f w order lines phase none stand one =
    let (most, all) = loose_phase_completes class design members block rank w order phase in
    let (length_is, lines_w, phase_w, (more, k, ends)) = all [] w (All-nil TakesEvent) refl in
    let (lines_k, order_k, phase_k, stays, stand_k) = loose_phase_runs class design members block rank start more w k order phase stand ends.0 ends.1 in
    (k, lines, λ settle. (one more k ends settle).1, none, phase_k, stays, stand_k, ends.2)

pub ends_in_one_node : (class : ℕ → ℕ) (design : Design) (members : List ℕ) (block : ℕ → Block) (rank : ℕ → ℕ) (passes : Passing) (e f g : Effect) (entries others : List Entry) → ((p : ℕ) → HasOneEvent e.state p)
    → HasCertifiedWay class design members block rank passes e.state → EndsPhaseLoosely class design e entries f → EndsPhaseLoosely class design e others g → SettleBetween design members block e.state g.state → IsOneLooseNode class f g
ends_in_one_node class design members block rank passes e f g entries others events held ends ends' settle =
    let keep : KeepOffOnWays class design members block e = λ way w is. keep_off_at class design members block rank passes e.state events held e w way refl is in
    let (way, w, is_way, lines, phase, none, stand, one) = held_is_put_off class design members block rank e f entries held.order held.held keep ends in
    let (way', w', is_way', lines', phase', none', stand', one') = held_is_put_off class design members block rank e g others held.order held.held keep ends' in
    let order : IsInOrder w.state = way_order class design members block rank passes e.state events held e w way refl is_way in
    let order' : IsInOrder w'.state = way_order class design members block rank passes e.state events held e w' way' refl is_way' in
    let (near, prints) = ends_like class design members block rank passes e.state events held e w way refl is_way (nobody_waits class design members block rank w.state order phase none) in
    let (near', prints') = ends_like class design members block rank passes e.state events held e w' way' refl is_way' (nobody_waits class design members block rank w'.state order' phase' none') in
    let (k, all, at_k, none_w, phase_k, stays, stand_k, over) = settles class design members block rank e.state f w order lines phase none stand one in
    let (z, all', at_z, none_w', phase_z, stays', stand_z, over') = settles class design members block rank e.state g w' order' lines' phase' none' stand' one' in
    let g_z : AlikeIn class g.state z.state = at_z (inl settle) in
    let settle_z : SettleBetween design members block e.state z.state = settle_on design members block e.state g.state z.state g_z.store settle in
    let both : AlikeIn class (without_held (contains members) w.state) (without_held (contains members) w'.state) =
    states_in-trans class (without_held (contains members) w.state) (without_held (contains members) held.last.0) (without_held (contains members) w'.state) near
    (states_in-sym class (without_held (contains members) w'.state) (without_held (contains members) held.last.0) near') in
    let settled : AlikeIn class k.state z.state = settled_alike class design members block rank e.state w.state w'.state k.state z.state both none none' phase_k phase_z stays stays' over over' stand_k stand_z settle_z in
    let settle_k : SettleBetween design members block e.state k.state = settle_on design members block e.state z.state k.state (sym settled.store) settle_z in
    let f_k : AlikeIn class f.state k.state = at_k (inr settle_k) in (
      lines ∙ prints ∙ sym prints' ∙ sym lines',
      states_in-trans class f.state k.state g.state f_k (states_in-trans class k.state z.state g.state settled (states_in-sym class g.state z.state g_z)),
    )
