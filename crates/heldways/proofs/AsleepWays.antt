-- A way beside members and sleepers, where the sleepers sleep through it, is one beside the members from where the sleepers wait for nothing.
use Rattle.std.proofs.Common.{◌≡◌, ◌≢◌, ℕ, ◌+◌, Bool, true, false, ◌||◌, List, [], ◌∷◌, ◌++◌, Option, Some, None, refl, sym, ap, subst, ◌∙◌, if◌then◌else◌, ◌==◌, arith, eqb-true, true≢false}
use Rattle.std.specs.Prelude.{cond, not, option_map}
use Rattle.std.proofs.lemmas.List.{get_or-set_other}
use Rattle.logic4.specs.Vector.{Vector}
use Rattle.model.specs.declared.entry.Entry.{Entry}
use Rattle.model.specs.declared.entry.Entry.TheVariants.{Update, ActivateInactive, ActivateNba, ActivateMonitor, Advance}
use Rattle.model.specs.Design.{Design}
use Rattle.model.specs.Turns.{contains}
use Rattle.model.specs.Turns as turns
use Rattle.model.specs.States.{Action, Evaluate, Event, Continuation, State, change_all, schedule_all, schedule_wait, taking, turned, updated}
use Rattle.model.specs.Runs.{Effect, action_in, remainder_of, turn_of, turn_effect, update_effect}
use Rattle.model.specs.Laws.{evaluates, evaluations_in}
use Rattle.model.proofs.TurnLaws.{short_turn_found}
use Rattle.orders.specs.Alike.{IsInOrder}
use Rattle.orders.specs.Apart.{continuation_after}
use Rattle.orders.proofs.AlikeSteps.{continuation_of}
use Rattle.orders.proofs.EventLists.{own_evaluation}
use Rattle.phases.proofs.Events.{active_at, taken_other, taken_update}
use Rattle.loose.specs.declared.transition.LooseTransition.{LooseTransition}
use Rattle.loose.specs.Loose.{loose_step}
use Rattle.loose.proofs.LooseSteps.{from_loose}
use Rattle.loosephases.proofs.HeldTurns.{made_keeps, nobody, not_one}
use Rattle.traces.specs.Traces.{IsRunOfMoves}
use Rattle.traces.specs.Certificates.{HoldsOf}
use Rattle.footprints.specs.Footprints.{Footprint, changes_made, footprint, turn_footprint, update_footprint, action_footprint}
use Rattle.footprints.specs.Moves.{OrderedState}
use Rattle.footprints.proofs.Steps.{some_same}
use Rattle.heldmoves.specs.WithoutHeld.{asleep_if, asleep_from, evaluates_held, others_among, without_held}
use Rattle.heldmoves.specs.HeldMoves.{IsHeldMove, held_moves}
use Rattle.heldmoves.proofs.LeftAside.{found_there, was_there, turn_same}
use Rattle.heldways.specs.Passing.{Passing, AllPass, SleepThrough, put_to_sleep}
use Rattle.heldways.proofs.Asleep.{WakeNone, put_effect_to_sleep, turn_steps_asleep, update_steps_asleep, unwoken}
use Rattle.heldways.proofs.Passed.{SleepSince, wake_none}

-- two lists together

among_both : (ms sleepers : List ℕ) (p : ℕ) → contains (ms ++ sleepers) p ≡ (contains ms p || contains sleepers p)
among_both [] sleepers p = refl
among_both (m ∷ ms) sleepers p = one_more (m == p) (contains (ms ++ sleepers) p) (contains ms p) (contains sleepers p) (among_both ms sleepers p)
  where
    one_more : (here more first second : Bool) → more ≡ (first || second) → (here || more) ≡ ((here || first) || second)
    one_more true more first second h = refl
    one_more false more first second h = h

if_both : (a b : Bool) (x : Continuation) → asleep_if a (asleep_if b x) ≡ asleep_if (a || b) x
if_both true true x = refl
if_both true false x = refl
if_both false true x = refl
if_both false false x = refl

module _ (members sleepers : List ℕ) where
  abbrev both : ℕ → Bool
  both = contains (members ++ sleepers)

  processes_both : (k : ℕ) (ps : List Continuation) → asleep_from (contains members) k (asleep_from (contains sleepers) k ps) ≡ asleep_from both k ps
  processes_both k [] = refl
  processes_both k (x ∷ ps) =
      ap (λ y. y ∷ asleep_from (contains members) (k + 1) (asleep_from (contains sleepers) (k + 1) ps)) (if_both (contains members k) (contains sleepers k) x ∙ ap (λ b. asleep_if b x) (sym (among_both members sleepers k)))
      ∙ ap (λ ys. asleep_if (both k) x ∷ ys) (processes_both (k + 1) ps)

  one_of_both : (p : ℕ) (sleeps : Bool) → contains sleepers p ≡ sleeps → (contains sleepers p ≡ true → ⊥) → contains members p ≡ both p
  one_of_both p true is none = absurd (none is)
  one_of_both p false is none = plain (contains members p) ∙ ap (λ b. contains members p || b) (sym is) ∙ sym (among_both members sleepers p)
    where
      plain : (b : Bool) → b ≡ (b || false)
      plain true = refl
      plain false = refl

  -- nobody who sleeps is evaluated by an action
  abbrev EvaluatesNone : Action → Type 0
  EvaluatesNone a = (q : ℕ) → contains sleepers q ≡ true → ◌≡◌ {A = ℕ} (if evaluates q a then 1 else 0) 0

  action_both : (a : Action) → EvaluatesNone a → evaluates_held (contains members) a ≡ evaluates_held both a
  action_both (Evaluate p) none =
      one_of_both p (contains sleepers p) refl
      (λ is.
      let zero_is : ◌≡◌ {A = ℕ} (if evaluates p (Evaluate p) then 1 else 0) 0 = none p is in
      absurd (omega (arith, zero_is, own_evaluation p)))
  action_both (Action.Update r v) none = refl

  events_both : (es : List Event) → ((q : ℕ) → contains sleepers q ≡ true → evaluations_in q es ≡ 0) → others_among (contains members) es ≡ others_among both es
  events_both [] none = refl
  events_both (e ∷ es) none =
      let own : EvaluatesNone e.1 = λ q is. first (if evaluates q e.1 then 1 else 0) (evaluations_in q es) (none q is) in
      let later : others_among (contains members) es ≡ others_among both es = events_both es (λ q is. second (if evaluates q e.1 then 1 else 0) (evaluations_in q es) (none q is)) in
      ap (λ b. cond (not b) (e ∷ others_among (contains members) es) (others_among (contains members) es)) (action_both e.1 own)
      ∙ ap (λ xs. cond (not (evaluates_held both e.1)) (e ∷ xs) xs) later
    where
      first : (n m : ℕ) → n + m ≡ 0 → n ≡ 0
      first n m h = omega (arith, h)

      second : (n m : ℕ) → n + m ≡ 0 → m ≡ 0
      second n m h = omega (arith, h)

  -- where nobody who sleeps has an event, both are left aside at once
  pub without_both : (t : State) → ((q : ℕ) → contains sleepers q ≡ true → evaluations_in q t.active ≡ 0) → without_held (contains members) (put_to_sleep sleepers t) ≡ without_held both t
  without_both t none =
      ap (λ ps. record t { processes = ps; active = others_among (contains members) t.active }) (processes_both 0 t.processes)
      ∙ ap (λ es. record t { processes = asleep_from both 0 t.processes; active = es }) (events_both t.active none)

-- a step wakes no sleeper, and leaves each as it is

active_is_no_sleeper : (s t : State) (sleepers : List ℕ) (n p : ℕ) (sleeps : Bool) → contains sleepers p ≡ sleeps → IsInOrder t → SleepSince s sleepers t → action_in t.active n ≡ Some (Evaluate p) → contains sleepers p ≡ false
active_is_no_sleeper s t sleepers n p true is order since at = absurd (omega (arith, active_at t n p order at, (since p is).1))
active_is_no_sleeper s t sleepers n p false is order since at = is

pub no_sleeper : (s t : State) (sleepers : List ℕ) (n p : ℕ) → IsInOrder t → SleepSince s sleepers t → action_in t.active n ≡ Some (Evaluate p) → contains sleepers p ≡ false
no_sleeper s t sleepers n p order since at = active_is_no_sleeper s t sleepers n p (contains sleepers p) refl order since at

differs : (sleepers : List ℕ) (p q : ℕ) (same : Bool) → (p == q) ≡ same → contains sleepers p ≡ false → contains sleepers q ≡ true → (p == q) ≡ false
differs sleepers p q true same none is =
    let one : p ≡ q = eqb-true p q same in
    absurd (true≢false (sym is ∙ ap (contains sleepers) (sym one) ∙ none))
differs sleepers p q false same none is = same

pub turned_since : (s t : State) (sleepers : List ℕ) (n p : ℕ) (turn : turns.Turn) → IsInOrder t → SleepSince s sleepers t → action_in t.active n ≡ Some (Evaluate p) → contains sleepers p ≡ false
    → WakeNone sleepers (changes_made t.store turn.writes) t.processes → SleepSince s sleepers (turned t n p turn)
turned_since s t sleepers n p turn order since at other none q is =
    let x : State = change_all (taking n t) turn.writes in
    let a : State = schedule_wait p turn.wait (schedule_all x turn.nbas) in
    let (time, store, processes, active) = made_keeps x p turn in
    let (continuation, evaluations) = unwoken (taking n t) turn.writes q (none q is) in
    let differ : (p == q) ≡ false = differs sleepers p q (p == q) refl other is in (
      get_or-set_other a.processes p q (continuation_after turn) nobody (not_one p q differ) ∙ ap (λ ps. continuation_of ps q) processes ∙ continuation ∙ (since q is).0,
      ap (evaluations_in q) active ∙ evaluations ∙ taken_other t n p q t.next_event order at differ ∙ (since q is).1,
    )

pub updated_since : (s t : State) (sleepers : List ℕ) (n r : ℕ) (v : Vector) → IsInOrder t → SleepSince s sleepers t → action_in t.active n ≡ Some (Action.Update r v)
    → WakeNone sleepers (changes_made t.store ((r, v) ∷ [])) t.processes → SleepSince s sleepers (updated t n r v)
updated_since s t sleepers n r v order since at none q is =
    let (continuation, evaluations) = unwoken (taking n t) ((r, v) ∷ []) q (none q is) in
    (continuation ∙ (since q is).0, evaluations ∙ taken_update t n r q v order at ∙ (since q is).1)

-- the footprint of a step without what is held is that of its turn or its update

is_turn_of : (class : ℕ → ℕ) (design : Design) (held : ℕ → Bool) (t : State) (n p : ℕ) (turn : turns.Turn) (f : Footprint) (o : Option Action) → IsInOrder t → action_in t.active n ≡ Some (Evaluate p) → turn_of design t p ≡ Some turn
    → action_in (others_among held t.active) n ≡ o → action_footprint class design (without_held held t) o ≡ Some f → f ≡ turn_footprint class (without_held held t) p turn
is_turn_of class design held t n p turn f None order at found is print = cc
is_turn_of class design held t n p turn f (Some a) order at found is print =
    let (was, other) = was_there held n 0 t.next_event a t.active order.active is in
    let same : a ≡ Evaluate p = some_same a (Evaluate p) (sym was ∙ at) in
    let print' : option_map (turn_footprint class (without_held held t) p) (turn_of design (without_held held t) p) ≡ Some f = ap (λ b. action_footprint class design (without_held held t) (Some b)) (sym same) ∙ print in
    some_same f (turn_footprint class (without_held held t) p turn) (sym print' ∙ ap (option_map (turn_footprint class (without_held held t) p)) (turn_same design held t p ∙ found))

is_update_of : (class : ℕ → ℕ) (design : Design) (held : ℕ → Bool) (t : State) (n r : ℕ) (v : Vector) (f : Footprint) → action_in t.active n ≡ Some (Action.Update r v) → footprint class design (without_held held t) (Update n) ≡ Some f
    → f ≡ update_footprint class (without_held held t) r v
is_update_of class design held t n r v f at print =
    some_same f (update_footprint class (without_held held t) r v) (sym print ∙ ap (action_footprint class design (without_held held t)) (found_there held n (Action.Update r v) t.active at refl))

-- a step, and a way

-- a state where the sleepers wait for nothing, with the order of its events
abbrev pub asleep_state : List ℕ → OrderedState → OrderedState
asleep_state sleepers t = (put_to_sleep sleepers t.0, t.1)

module _ (class : ℕ → ℕ) (design : Design) (members sleepers : List ℕ) (passes : Passing) (s : State) (sleep : SleepThrough s members sleepers passes) where
  abbrev all_held : ℕ → Bool
  all_held = contains (members ++ sleepers)

  abbrev StepsAsleep : OrderedState → LooseTransition → Footprint → OrderedState → Type 0
  StepsAsleep t a f m = IsHeldMove class design (contains members) (put_to_sleep sleepers t.0) a f (put_to_sleep sleepers m.0) × SleepSince s sleepers m.0

  idle : (t : State) → SleepSince s sleepers t → (q : ℕ) → contains sleepers q ≡ true → evaluations_in q t.active ≡ 0
  idle t since q is = (since q is).1

  entry_asleep : (t m : OrderedState) (a : LooseTransition) (f : Footprint) (entry : Entry) (x : Effect) → SleepSince s sleepers t.0 → AllPass passes f.changes → loose_step class design t.0 entry ≡ Some x
      → footprint class design (without_held all_held t.0) entry ≡ Some f → f.owner ≡ a → x.state ≡ m.0 → StepsAsleep t a f m
  entry_asleep t m a f (Entry.Turn n) x since all step print owner leads =
      let (going, (p, turn, at, exact, short, same)) = from_loose class design t.0 (Entry.Turn n) x step in
      let found : turn_of design t.0 p ≡ Some turn = short_turn_found design p (remainder_of t.0 p) t.0.store t.0.time turn exact short in
      let is : f ≡ turn_footprint class (without_held all_held t.0) p turn = is_turn_of class design all_held t.0 n p turn f (action_in (others_among all_held t.0.active) n) t.1 at found refl print in
      let all' : AllPass passes (changes_made t.0.store turn.writes) = subst (λ (g : Footprint). AllPass passes g.changes) is all in
      let none : WakeNone sleepers (changes_made t.0.store turn.writes) t.0.processes = wake_none s t.0 members sleepers passes (changes_made t.0.store turn.writes) sleep since all' in
      let other : contains sleepers p ≡ false = no_sleeper s t.0 sleepers n p t.1 since at in
      let step' : loose_step class design (put_to_sleep sleepers t.0) (Entry.Turn n) ≡ Some (put_effect_to_sleep sleepers (turn_effect t.0 n p turn)) = turn_steps_asleep class design sleepers t.0 n p turn going at found other none in
      let print' : footprint class design (without_held (contains members) (put_to_sleep sleepers t.0)) (Entry.Turn n) ≡ Some f =
      ap (λ (z : State). footprint class design z (Entry.Turn n)) (without_both members sleepers t.0 (idle t.0 since)) ∙ print in
      let there : turned t.0 n p turn ≡ m.0 = sym (ap (λ (e : Effect). e.state) same) ∙ leads in (
        (Entry.Turn n, put_effect_to_sleep sleepers (turn_effect t.0 n p turn), step', print', owner, ap (put_to_sleep sleepers) there),
        subst (λ (z : State). SleepSince s sleepers z) there (turned_since s t.0 sleepers n p turn t.1 since at other none),
      )
  entry_asleep t m a f (Update n) x since all step print owner leads =
      let (going, (r, v, at, first, same)) = from_loose class design t.0 (Update n) x step in
      let is : f ≡ update_footprint class (without_held all_held t.0) r v = is_update_of class design all_held t.0 n r v f at print in
      let all' : AllPass passes (changes_made t.0.store ((r, v) ∷ [])) = subst (λ (g : Footprint). AllPass passes g.changes) is all in
      let none : WakeNone sleepers (changes_made t.0.store ((r, v) ∷ [])) t.0.processes = wake_none s t.0 members sleepers passes (changes_made t.0.store ((r, v) ∷ [])) sleep since all' in
      let step' : loose_step class design (put_to_sleep sleepers t.0) (Update n) ≡ Some (put_effect_to_sleep sleepers (update_effect t.0 n r v)) = update_steps_asleep class design sleepers t.0 n r v going at first none in
      let print' : footprint class design (without_held (contains members) (put_to_sleep sleepers t.0)) (Update n) ≡ Some f =
      ap (λ (z : State). footprint class design z (Update n)) (without_both members sleepers t.0 (idle t.0 since)) ∙ print in
      let there : updated t.0 n r v ≡ m.0 = sym (ap (λ (e : Effect). e.state) same) ∙ leads in (
        (Update n, put_effect_to_sleep sleepers (update_effect t.0 n r v), step', print', owner, ap (put_to_sleep sleepers) there),
        subst (λ (z : State). SleepSince s sleepers z) there (updated_since s t.0 sleepers n r v t.1 since at none),
      )
  entry_asleep t m a f ActivateInactive x since all step print owner leads = cc
  entry_asleep t m a f ActivateNba x since all step print owner leads = cc
  entry_asleep t m a f ActivateMonitor x since all step print owner leads = cc
  entry_asleep t m a f (Advance time) x since all step print owner leads = cc

  pub way_asleep : (w : List (LooseTransition × Footprint)) (t last : OrderedState) → SleepSince s sleepers t.0 → HoldsOf (λ f. AllPass passes f.changes) w → IsRunOfMoves (held_moves class design all_held) t w last
      → IsRunOfMoves (held_moves class design (contains members)) (asleep_state sleepers t) w (asleep_state sleepers last) × SleepSince s sleepers last.0
  way_asleep [] t last since all run = (ap (asleep_state sleepers) run, subst (λ (z : OrderedState). SleepSince s sleepers z.0) run since)
  way_asleep (x ∷ w) t last since all (m, (entry, e, step, print, owner, leads), later) =
      let (move, since') = entry_asleep t m x.0 x.1 entry e since all.0 step print owner leads in
      let (run, end) = way_asleep w m last since' all.1 later in
      ((asleep_state sleepers m, move, run), end)
