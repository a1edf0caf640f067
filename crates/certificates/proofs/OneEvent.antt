-- In loose runs each process has one event at most, and none while it waits.
use Rattle.std.proofs.Common.{◌≡◌, ◌≢◌, ℕ, zero, suc, ◌+◌, ◌≤◌, Bool, true, false, not, List, [], ◌∷◌, ◌++◌, map, filter, Option, Some, None, refl, sym, ap, subst, ◌∙◌, inl, inr, if◌then◌else◌, ◌==◌, arith, eqb-true, eq-eqb}
use Rattle.std.specs.Prelude.{slice_set, cond, option_map}
use Rattle.std.specs.List.{enumerate_from}
use Rattle.std.proofs.lemmas.Option.{option_and_then_some}
use Rattle.logic4.specs.Vector.{Vector}
use Rattle.model.specs.declared.entry.Entry.{Entry}
use Rattle.model.specs.declared.entry.Entry.TheVariants.{Turn, Update, ActivateInactive, ActivateNba, ActivateMonitor, Advance}
use Rattle.model.specs.Design.{Design, Trigger}
use Rattle.model.specs.Turns.{Wait, Ended, Inactive, Until, OnChange, contains}
use Rattle.model.specs.Turns as turns
use Rattle.model.specs.States.{Action, Evaluate, Event, Continuation, State, start, without, triggers_of, due_at, due_else, inactive_activated, nonblocking_activated, monitored, advanced}
use Rattle.model.specs.Runs.{Effect, action_in, has_any, turn_of, turn_effect, update_effect, action_effect, effect, joined, silent, strobe_lines}
use Rattle.model.specs.Laws.{evaluations_in, evaluations_of}
use Rattle.model.proofs.EvaluationLaws.{each_process_has_one_event}
use Rattle.orders.specs.Alike.{IsInOrder}
use Rattle.orders.specs.Apart.{continuation_after}
use Rattle.orders.proofs.StatesInOrder.{start_is_in_order}
use Rattle.orders.proofs.AlikeSteps.{continuation_of}
use Rattle.orders.proofs.EventLists.{evaluations-append, evaluations-taken, own_evaluation}
use Rattle.orders.proofs.Scheduling.{waits_now, waits_at}
use Rattle.loose.specs.Loose.{loose_step, loose_run_from, loose_run}
use Rattle.loose.proofs.LooseSteps.{loose_step_keeps_order}
use Rattle.footprints.specs.Footprints.{RegisterChange, Footprint, matches_any}
use Rattle.footprints.specs.FootprintLaws.{IsStepWith}
use Rattle.footprints.proofs.Waking.{awake, woken_from, wakes_process, evaluations_made, made_evaluations, one_where, asleep, woken_is}
use Rattle.footprints.proofs.Deeds.{Deed, Done, placed, changes_by, turn_deed, update_deed, turned_is_done, updated_is_done}
use Rattle.footprints.proofs.Exchange.{Differ, from_at}
use Rattle.footprints.proofs.Steps.{loose_parts, step_acts, Matches, acts_match}
use Rattle.footprints.proofs.EndedTriggers.{placed_other}
use Rattle.certificates.proofs.Tests.{is_or_not, never_true}

-- 1 where a process waits for a change
abbrev waiting : List Trigger → ℕ
waiting triggers = one_where (has_any triggers)

abbrev waits_in : List Continuation → ℕ → ℕ
waits_in ps p = waiting (continuation_of ps p).triggers

-- how many events of a process are active, inactive, or due at a time, and 1 more where it waits
abbrev due_in : ℕ → ℕ → State → ℕ
due_in time p s = evaluations_in p (due_at time s.future_inactive)

-- Of two times, of a process at most one event is active, inactive, or due at one of them, and none if it waits. None is among the
-- nonblocking updates.
pub record HasOneEvent (s : State) (p : ℕ) : Type 0 where
  pub most :
      (u v : ℕ) → u ≢ v
      → evaluations_in p s.active + evaluations_in p s.inactive + due_in u p s + due_in v p s + waits_in s.processes p ≤ 1
  pub nonblocking : evaluations_in p s.nonblocking ≡ 0
  pub future : (u : ℕ) → evaluations_in p (due_at u s.future_nonblocking) ≡ 0

-- a process that is woken waits no more
woken_waits : (b : Bool) (x : Continuation) → (b ≡ true → has_any x.triggers ≡ true) → one_where b + waiting (awake b x).triggers ≡ waiting x.triggers
woken_waits true x h = ap one_where (sym (h refl))
woken_waits false x h = omega arith

waits_if_woken : (ts : List Trigger) (cs : List RegisterChange) → matches_any ts cs ≡ true → has_any ts ≡ true
waits_if_woken [] cs h = absurd (never_true (matches_any [] cs) h (asleep cs))
waits_if_woken (t ∷ ts) cs h = refl

-- a process goes on
waits_here : (ps : List Continuation) (p : ℕ) (x : Continuation) → waits_in (slice_set ps p x) p ≤ waiting x.triggers
waits_here [] p x = omega arith
waits_here (y ∷ ps) zero x = omega arith
waits_here (y ∷ ps) (suc p) x = waits_here ps p x

at_most_one : (b : Bool) → one_where b ≤ 1
at_most_one true = omega arith
at_most_one false = omega arith

-- what a wait adds
other_now : (p q : ℕ) (wait : Wait) → (q == p) ≡ false → waits_now p q wait ≡ 0
other_now p q Ended other = refl
other_now p q Inactive other = rw other refl
other_now p q (Until time) other = refl
other_now p q (OnChange ts) other = refl

none_if : (b : Bool) (n : ℕ) → n ≡ 0 → ◌≡◌ {A = ℕ} (if b then n else 0) 0
none_if true n h = h
none_if false n h = refl

other_at : (u p q : ℕ) (wait : Wait) → (q == p) ≡ false → waits_at u p q wait ≡ 0
other_at u p q Ended other = refl
other_at u p q Inactive other = refl
other_at u p q (Until time) other = none_if (time == u) (if q == p then 1 else 0) (rw other refl)
other_at u p q (OnChange ts) other = refl

due_one : (b c : Bool) (n : ℕ) → n ≤ 1 → (b ≡ true → c ≡ true → ⊥) → (if b then n else 0) + (if c then n else 0) ≤ 1
due_one true true n less differ = absurd (differ refl refl)
due_one true false n less differ = omega (arith, less)
due_one false true n less differ = omega (arith, less)
due_one false false n less differ = omega arith

own_adds : (u v p : ℕ) (wait : Wait) → u ≢ v → waits_now p p wait + waits_at u p p wait + waits_at v p p wait + waiting (triggers_of wait) ≤ 1
own_adds u v p Ended differ = omega arith
own_adds u v p Inactive differ = omega (arith, own_evaluation p)
own_adds u v p (Until time) differ =
    omega (
      arith,
      due_one (time == u) (time == v) (if p == p then 1 else 0) (omega (arith, own_evaluation p)) (λ one other. differ (sym (eqb-true time u one) ∙ eqb-true time v other)),
    )
own_adds u v p (OnChange ts) differ = omega (arith, at_most_one (has_any ts))

-- the deed of an event
module _ (s f : State) (d : Deed) (p : ℕ) (done : Done s d f) (one : HasOneEvent s p) where
  abbrev left : ℕ
  left = evaluations_in p (without d.number s.active)

  abbrev woke : Bool
  woke = wakes_process (changes_by s d) s.processes p

  active_after : evaluations_in p f.active ≡ left + one_where woke
  active_after =
      ap (evaluations_in p) done.active ∙ evaluations-append p (without d.number s.active) (enumerate_from s.next_event (evaluations_made (changes_by s d) s.processes))
      ∙ ap (λ n. left + n) (made_evaluations p s.next_event (changes_by s d) s.processes)

  woken_after : one_where woke + waits_in (map (woken_from (changes_by s d)) s.processes) p ≡ waits_in s.processes p
  woken_after =
      ap (λ (x : Continuation). one_where woke + waiting x.triggers) (from_at (changes_by s d) s.processes p)
      ∙ woken_waits woke (continuation_of s.processes p) (waits_if_woken (continuation_of s.processes p).triggers (changes_by s d))

  rest_after : (most : (u v : ℕ) → u ≢ v → evaluations_in p f.active + evaluations_in p f.inactive + due_in u p f + due_in v p f + waits_in f.processes p ≤ 1) → HasOneEvent f p
  rest_after most = record { most = most; nonblocking = done.evaluations p ∙ one.nonblocking; future = λ u. done.nbas_evaluations u p ∙ one.future u }

  -- it is another process's, or an update
  other_does : (x : Continuation) → Differ d.own (Some (p, x)) → left ≤ evaluations_in p s.active → waits_now p d.process d.wait ≡ 0 → ((u : ℕ) → waits_at u p d.process d.wait ≡ 0) → HasOneEvent f p
  other_does x differ less now later =
      let same : waits_in f.processes p ≡ waits_in (map (woken_from (changes_by s d)) s.processes) p =
      ap (λ ps. waits_in ps p) done.processes ∙ ap (λ (y : Continuation). waiting y.triggers) (placed_other d.own (map (woken_from (changes_by s d)) s.processes) p x differ) in
      rest_after (λ u v differ'. omega (arith, active_after, woken_after, same, less, done.inactive p, now, done.waits u p, done.waits v p, later u, later v, one.most u v differ'))

  -- it is the process's own
  own_does : (x : Continuation) → d.own ≡ Some (p, x) → d.process ≡ p → waiting x.triggers ≡ waiting (triggers_of d.wait) → evaluations_in p s.active ≡ 1 + left → HasOneEvent f p
  own_does x own process triggers taken =
      let here : waits_in f.processes p ≤ waiting x.triggers =
      subst (λ n. n ≤ waiting x.triggers) (sym (ap (λ ps. waits_in ps p) (done.processes ∙ ap (λ o. placed o (map (woken_from (changes_by s d)) s.processes)) own)))
      (waits_here (map (woken_from (changes_by s d)) s.processes) p x) in
      rest_after (λ u v differ.
      let adds : waits_now p d.process d.wait + waits_at u p d.process d.wait + waits_at v p d.process d.wait + waiting (triggers_of d.wait) ≤ 1 =
      subst (λ q. waits_now p q d.wait + waits_at u p q d.wait + waits_at v p q d.wait + waiting (triggers_of d.wait) ≤ 1) (sym process) (own_adds u v p d.wait differ) in
      omega (arith, active_after, woken_after, here, triggers, taken, done.inactive p, done.waits u p, done.waits v p, adds, one.most u v differ))

-- a step of an actor

abbrev own_at : ℕ → turns.Turn → Option (ℕ × Continuation)
own_at k t = Some (k, continuation_after t)

turn_keeps : (s f : State) (n q p : ℕ) (t : turns.Turn) → IsInOrder s → action_in s.active n ≡ Some (Evaluate q) → Done s (turn_deed n q t) f → HasOneEvent s p → HasOneEvent f p
turn_keeps s f n q p t order is done one =
    let taken : evaluations_in p s.active ≡ (if q == p then 1 else 0) + evaluations_in p (without n s.active) = evaluations-taken n p 0 s.next_event (Evaluate q) s.active order.active is in
    elim (is_or_not (q == p)) [
      | inl own ↦
          let same : q ≡ p = eqb-true q p own in
          own_does s f (turn_deed n q t) p done one (continuation_after t) (ap (λ (k : ℕ). own_at k t) same) same refl
          (taken ∙ ap (λ b. (if b then 1 else 0) + evaluations_in p (without n s.active)) own)
      | inr other ↦
          other_does s f (turn_deed n q t) p done one (continuation_after t)
          (λ same. never_true (q == p) (eq-eqb q p same) other)
          (omega (arith, taken)) (other_now p q t.wait other) (λ u. other_at u p q t.wait other)
    ]

update_keeps : (s f : State) (n r p : ℕ) (v : Vector) → IsInOrder s → action_in s.active n ≡ Some (Action.Update r v) → Done s (update_deed n r v) f → HasOneEvent s p → HasOneEvent f p
update_keeps s f n r p v order is done one =
    let taken : evaluations_in p s.active ≡ 0 + evaluations_in p (without n s.active) = evaluations-taken n p 0 s.next_event (Action.Update r v) s.active order.active is in
    other_does s f (update_deed n r v) p done one (continuation_of s.processes p) tt (omega (arith, taken)) refl (λ u. refl)

-- changes of the regions

less_more : (p : ℕ) (f : ℕ × Event) (xs ys : List (ℕ × Event)) (b : Bool) → evaluations_in p (map (λ g. g.1) xs) ≤ evaluations_in p (map (λ g. g.1) ys)
    → evaluations_in p (map (λ g. g.1) (cond b (f ∷ xs) xs)) ≤ evaluations_in p (map (λ g. g.1) (cond b (f ∷ ys) ys))
less_more p f xs ys true h = omega (arith, h)
less_more p f xs ys false h = h

less_left : (p : ℕ) (f : ℕ × Event) (xs ys : List (ℕ × Event)) (b : Bool) → evaluations_in p (map (λ g. g.1) xs) ≤ evaluations_in p (map (λ g. g.1) ys)
    → evaluations_in p (map (λ g. g.1) xs) ≤ evaluations_in p (map (λ g. g.1) (cond b (f ∷ ys) ys))
less_left p f xs ys true h = omega (arith, h)
less_left p f xs ys false h = h

left_first : (u p : ℕ) (f : ℕ × Event) (xs ys : List (ℕ × Event)) (keep : Bool) → evaluations_in p (due_at u xs) ≤ evaluations_in p (due_at u ys)
    → evaluations_in p (due_at u (cond keep (f ∷ xs) xs)) ≤ evaluations_in p (due_at u (f ∷ ys))
left_first u p f xs ys true h = less_more p f (filter (λ g. g.0 == u) xs) (filter (λ g. g.0 == u) ys) (f.0 == u) h
left_first u p f xs ys false h = less_left p f (filter (λ g. g.0 == u) xs) (filter (λ g. g.0 == u) ys) (f.0 == u) h

due_left : (u time p : ℕ) (fs : List (ℕ × Event)) → evaluations_in p (due_at u (due_else time fs)) ≤ evaluations_in p (due_at u fs)
due_left u time p [] = omega arith
due_left u time p (f ∷ fs) = left_first u p f (due_else time fs) fs (not (f.0 == time)) (due_left u time p fs)

gone_first : (u p : ℕ) (f : ℕ × Event) (xs : List (ℕ × Event)) (b : Bool) → (f.0 == u) ≡ b → evaluations_in p (due_at u xs) ≡ 0 → evaluations_in p (due_at u (cond (not b) (f ∷ xs) xs)) ≡ 0
gone_first u p f xs true is h = h
gone_first u p f xs false is h = ap (λ b. evaluations_in p (map (λ (g : ℕ × Event). g.1) (cond b (f ∷ filter (λ g. g.0 == u) xs) (filter (λ g. g.0 == u) xs)))) is ∙ h

due_gone : (u p : ℕ) (fs : List (ℕ × Event)) → evaluations_in p (due_at u (due_else u fs)) ≡ 0
due_gone u p [] = refl
due_gone u p (f ∷ fs) = gone_first u p f (due_else u fs) (f.0 == u) refl (due_gone u p fs)

inactive_keeps : (s : State) (p : ℕ) → HasOneEvent s p → HasOneEvent (inactive_activated s) p
inactive_keeps s p one =
    record { most = λ u v differ. omega (arith, evaluations-append p s.active s.inactive, one.most u v differ); nonblocking = one.nonblocking; future = one.future }

nonblocking_keeps : (s : State) (p : ℕ) → HasOneEvent s p → HasOneEvent (nonblocking_activated s) p
nonblocking_keeps s p one =
    record { most = λ u v differ. omega (arith, evaluations-append p s.active s.nonblocking, one.nonblocking, one.most u v differ); nonblocking = refl; future = one.future }

monitor_keeps : (s : State) (p : ℕ) → HasOneEvent s p → HasOneEvent (monitored s) p
monitor_keeps s p one = record { most = one.most; nonblocking = one.nonblocking; future = one.future }

-- whether a time that is due is one of two
due_first : (s : State) (time p u v : ℕ) (b c : Bool) → (u == time) ≡ b → (v == time) ≡ c → u ≢ v → HasOneEvent s p
    → due_in time p s + evaluations_in p s.inactive + evaluations_in p (due_at u (due_else time s.future_inactive)) + evaluations_in p (due_at v (due_else time s.future_inactive)) + waits_in s.processes p ≤ 1
due_first s time p u v true c is is' differ one =
    let same : u ≡ time = eqb-true u time is in
    let gone : evaluations_in p (due_at u (due_else time s.future_inactive)) ≡ 0 = ap (λ t. evaluations_in p (due_at t (due_else time s.future_inactive))) same ∙ due_gone time p s.future_inactive in
    let other : time ≢ v = λ h. differ (same ∙ h) in
    omega (arith, gone, due_left v time p s.future_inactive, one.most time v other)
due_first s time p u v false true is is' differ one =
    let same : v ≡ time = eqb-true v time is' in
    let gone : evaluations_in p (due_at v (due_else time s.future_inactive)) ≡ 0 = ap (λ t. evaluations_in p (due_at t (due_else time s.future_inactive))) same ∙ due_gone time p s.future_inactive in
    let other : u ≢ time = λ h. never_true (u == time) (eq-eqb u time h) is in
    omega (arith, gone, due_left u time p s.future_inactive, one.most u time other)
due_first s time p u v false false is is' differ one =
    let other : u ≢ time = λ h. never_true (u == time) (eq-eqb u time h) is in
    let other' : v ≢ time = λ h. never_true (v == time) (eq-eqb v time h) is' in
    omega (arith, due_left u time p s.future_inactive, due_left v time p s.future_inactive, one.most u time other, one.most v time other', one.most u v differ)

none_less : (n m : ℕ) → n ≤ m → m ≡ 0 → n ≡ 0
none_less n m h is = omega (arith, h, is)

advance_keeps : (s : State) (time p : ℕ) → HasOneEvent s p → HasOneEvent (advanced s time) p
advance_keeps s time p one =
    record {
      most = λ u v differ. due_first s time p u v (u == time) (v == time) refl refl differ one;
      nonblocking = one.future time;
      future = λ u. none_less (evaluations_in p (due_at u (due_else time s.future_nonblocking))) (evaluations_in p (due_at u s.future_nonblocking)) (due_left u time p s.future_nonblocking) (one.future u);
    }

-- each step

turn_step_keeps : (s : State) (n q p : ℕ) (x : Effect) (o : Option turns.Turn) → IsInOrder s → action_in s.active n ≡ Some (Evaluate q) → option_map (turn_effect s n q) o ≡ Some x → HasOneEvent s p → HasOneEvent x.state p
turn_step_keeps s n q p x None order is made one = cc
turn_step_keeps s n q p x (Some t) order is made one =
    let same : turn_effect s n q t ≡ x = cc in
    subst (λ (y : Effect). HasOneEvent y.state p) same (turn_keeps s (turn_effect s n q t).state n q p t order is (turned_is_done s n q t order) one)

event_keeps : (design : Design) (s : State) (n p : ℕ) (x : Effect) (o : Option Action) → IsInOrder s → s.finished ≡ false → action_in s.active n ≡ o → action_effect design s n o ≡ Some x → HasOneEvent s p → HasOneEvent x.state p
event_keeps design s n p x None order going is made one = cc
event_keeps design s n p x (Some (Evaluate q)) order going is made one = turn_step_keeps s n q p x (turn_of design s q) order is made one
event_keeps design s n p x (Some (Action.Update r v)) order going is made one =
    let same : update_effect s n r v ≡ x = cc in
    subst (λ (y : Effect). HasOneEvent y.state p) same (update_keeps s (update_effect s n r v).state n r p v order is (updated_is_done s n r v order going) one)

silent_keeps : (p : ℕ) (t : State) (x : Effect) → Some (silent t) ≡ Some x → HasOneEvent t p → HasOneEvent x.state p
silent_keeps p t x made one =
    let same : silent t ≡ x = cc in
    subst (λ (y : Effect). HasOneEvent y.state p) same one

effect_keeps : (design : Design) (s : State) (entry : Entry) (x : Effect) (p : ℕ) → IsInOrder s → s.finished ≡ false → effect design s entry ≡ Some x → HasOneEvent s p → HasOneEvent x.state p
effect_keeps design s (Turn n) x p order going made one = event_keeps design s n p x (action_in s.active n) order going refl made one
effect_keeps design s (Update n) x p order going made one = event_keeps design s n p x (action_in s.active n) order going refl made one
effect_keeps design s ActivateInactive x p order going made one = silent_keeps p (inactive_activated s) x made (inactive_keeps s p one)
effect_keeps design s ActivateNba x p order going made one = silent_keeps p (nonblocking_activated s) x made (nonblocking_keeps s p one)
effect_keeps design s ActivateMonitor x p order going made one =
    let e : Effect = record { state = monitored s; lines = strobe_lines design s; changes = [] } in
    let same : e ≡ x = cc in
    subst (λ (y : Effect). HasOneEvent y.state p) same (monitor_keeps s p one)
effect_keeps design s (Advance time) x p order going made one = silent_keeps p (advanced s time) x made (advance_keeps s time p one)

pub step_keeps : (class : ℕ → ℕ) (design : Design) (s : State) (entry : Entry) (x : Effect) (p : ℕ) → IsInOrder s → loose_step class design s entry ≡ Some x → HasOneEvent s p → HasOneEvent x.state p
step_keeps class design s entry x p order step one =
    let (going, none, made) = loose_parts class design s entry x step in
    effect_keeps design s entry x p order going made one

-- each run

run_keeps : (class : ℕ → ℕ) (design : Design) (e f : Effect) (entries : List Entry) (p : ℕ) → IsInOrder e.state → loose_run_from class design e entries ≡ Some f → HasOneEvent e.state p → HasOneEvent f.state p
run_keeps class design e f [] p order run one =
    let same : e ≡ f = cc in
    subst (λ (y : Effect). HasOneEvent y.state p) same one
run_keeps class design e f (entry ∷ entries) p order run one =
    option_and_then_some (λ x. loose_run_from class design (joined e x) entries) (loose_step class design e.state entry) f run
    (λ x step later.
    run_keeps class design (joined e x) f entries p (loose_step_keeps_order class design e.state entry x order step) later (step_keeps class design e.state entry x p order step one))

none_or_one : (b : Bool) (n : ℕ) → n ≤ 1 → (b ≡ true → n ≡ 0) → n + one_where b ≤ 1
none_or_one true n most none = omega (arith, none refl)
none_or_one false n most none = omega (arith, most)

start_has_one : (design : Design) (p : ℕ) → HasOneEvent (start design) p
start_has_one design p =
    let s : State = start design in
    let (most, none) = each_process_has_one_event design [] (silent s) p refl in
    let all : evaluations_of s p ≡ evaluations_in p s.active = evaluations-append p (s.active ++ []) [] ∙ omega (arith, evaluations-append p s.active []) in
    let one : evaluations_in p s.active + waits_in s.processes p ≤ 1 =
    none_or_one (has_any (continuation_of s.processes p).triggers) (evaluations_in p s.active) (omega (arith, all, most)) (λ waits. sym all ∙ none waits) in
    record { most = λ u v differ. omega (arith, one); nonblocking = refl; future = λ u. refl }

pub reached_has_one : (class : ℕ → ℕ) (design : Design) (journal : List Entry) (e : Effect) (p : ℕ) → loose_run class design journal ≡ Some e → HasOneEvent e.state p
reached_has_one class design journal e p run = run_keeps class design (silent (start design)) e journal p (start_is_in_order design) run (start_has_one design p)

-- so nobody is woken whose event is active
pub woken_has_none : (class : ℕ → ℕ) (design : Design) (s : State) (entry : Entry) (f : Footprint) (x : Effect) (p number : ℕ) → IsInOrder s → HasOneEvent s p → IsStepWith class design s entry f x
    → contains f.woken p ≡ true → action_in s.active number ≡ Some (Evaluate p) → ⊥
woken_has_none class design s entry f x p number order one step woken is =
    let (going, (d, acts)) = step_acts class design s entry x f step in
    let match : Matches class s d x f = acts_match class design s entry d x f acts in
    let wakes : wakes_process (changes_by s d) s.processes p ≡ true = sym (woken_is (changes_by s d) s.processes p) ∙ ap (λ ps. contains ps p) (sym match.woken) ∙ woken in
    let waits : waits_in s.processes p ≡ 1 = ap one_where (waits_if_woken (continuation_of s.processes p).triggers (changes_by s d) wakes) in
    let taken : evaluations_in p s.active ≡ (if p == p then 1 else 0) + evaluations_in p (without number s.active) = evaluations-taken number p 0 s.next_event (Evaluate p) s.active order.active is in
    let most : evaluations_in p s.active + evaluations_in p s.inactive + due_in 0 p s + due_in 1 p s + waits_in s.processes p ≤ 1 = one.most 0 1 (λ same. absurd (omega (arith, same))) in
    absurd (omega (arith, waits, taken, own_evaluation p, most))
