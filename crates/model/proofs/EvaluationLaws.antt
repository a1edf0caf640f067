-- Laws of runs: a process has one evaluation at most, and an active one stays until it is taken.
use Rattle.std.proofs.Common.{◌≡◌, ◌≢◌, ℕ, zero, suc, ◌+◌, ◌≤◌, ◌<◌, Bool, true, false, not, List, [], ◌∷◌, ◌++◌, map, filter, Option, Some, None, refl, sym, ap, ◌∙◌, arith, if◌then◌else◌, ◌==◌, ◌||◌, nat_le, get_or}
use Rattle.std.specs.Prelude.{option_map, cond, slice_set}
use Rattle.std.proofs.Common.{eq-eqb}
use Rattle.std.proofs.lemmas.Bool.{eqb-true}
use Rattle.std.proofs.lemmas.Bool.Decides.{eqb_tells}
use Rattle.std.proofs.lemmas.List.{get_or-set_other}
use Rattle.std.specs.List.{enumerate_from}
use Rattle.std.proofs.lemmas.Option.{option_and_then_some}
use Rattle.logic4.specs.Vector.{Vector}
use Rattle.logic4.specs.Operators.{same_vector}
use Rattle.model.specs.declared.entry.Refusal.TheVariants.{Finished, NotDue}
use Rattle.model.specs.declared.entry.Entry.{Entry}
use Rattle.model.specs.declared.entry.Entry.TheVariants.{Update, ActivateInactive, ActivateNba, ActivateMonitor, Advance}
use Rattle.model.specs.Design.{Design, Process, Trigger}
use Rattle.model.specs.Expressions.{value_of}
use Rattle.model.specs.Turns.{Remainder, Wait, Ended, Inactive, Until, OnChange, NonblockingAssignment, Turn}
use Rattle.model.specs.States.{State, Event, Action, Evaluate, Continuation, start, unbegun, numbered, without, wakes, is_woken, woken, after_wake, with_nonblocking, with_due, with_future_nonblocking, with_value, with_continuation, triggers_of, change, change_all, schedule, schedule_all, schedule_wait, taking, turned, inactive_activated, nonblocking_activated, monitored, advanced}
use Rattle.model.specs.Runs.{Effect, strobe_lines, silent, joined, step, run_from, run, action_in, has_any, refusal, entry_refusal, time_refusal, least_time, turn_of, turn_effect, update_effect, action_effect, effect, remainder_of, taken}
use Rattle.model.specs.Laws.{times_in, evaluates, evaluations_in, evaluations_of, EachProcessHasOneEvent, ActiveEvaluationsStay, ActiveEventsStay}
use Rattle.model.proofs.RunLaws.{unless_some, where_none, either_false}

-- 1 where it holds
one_if : Bool → ℕ
one_if true = 1
one_if false = 0

at_most_one : (b : Bool) → one_if b ≤ 1
unfolding one_if
at_most_one true = omega arith
at_most_one false = omega arith

false_is_none : one_if false ≡ 0
unfolding one_if
false_is_none = refl

true_is_one : one_if true ≡ 1
unfolding one_if
true_is_one = refl

none_is_false : (b : Bool) → one_if b ≤ 0 → b ≡ false
unfolding one_if
none_is_false true h = absurd (omega (arith, h))
none_is_false false h = refl

differs : (a b : ℕ) → (a == b) ≡ false → b ≢ a
differs a b h same =
    let is : (a == b) ≡ true = eq-eqb a b (sym same) in
    cc

-- how many events, future events and actions evaluate the process p
abbrev mark : ℕ → Action → ℕ
mark p action = one_if (evaluates p action)

abbrev count : ℕ → List Event → ℕ
count p [] = 0
count p (e ∷ es) = mark p e.1 + count p es

abbrev future_count : ℕ → List (ℕ × Event) → ℕ
future_count p [] = 0
future_count p (f ∷ fs) = mark p f.1.1 + future_count p fs

abbrev action_count : ℕ → List Action → ℕ
action_count p [] = 0
action_count p (a ∷ actions) = mark p a + action_count p actions

count-append : (p : ℕ) (xs ys : List Event) → count p (xs ++ ys) ≡ count p xs + count p ys
count-append p [] ys = omega arith
count-append p (x ∷ xs) ys = omega (arith, count-append p xs ys)

due_divided : (p : ℕ) (f g : ℕ × Event) (gs more : List (ℕ × Event)) (b : Bool) → future_count p more ≡ mark p f.1.1 + future_count p gs
    → future_count p (if b then g ∷ more else f ∷ g ∷ gs) ≡ mark p f.1.1 + (mark p g.1.1 + future_count p gs)
due_divided p f g gs more true h = omega (arith, h)
due_divided p f g gs more false h = omega arith

future_count-with_due : (p : ℕ) (f : ℕ × Event) (gs : List (ℕ × Event)) → future_count p (with_due f gs) ≡ mark p f.1.1 + future_count p gs
future_count-with_due p f [] = omega arith
future_count-with_due p f (g ∷ gs) = due_divided p f g gs (with_due f gs) (nat_le g.0 f.0) (future_count-with_due p f gs)

count-numbered : (p k : ℕ) (actions : List Action) → count p (enumerate_from k actions) ≡ action_count p actions
count-numbered p k [] = refl
count-numbered p k (a ∷ actions) = omega (arith, count-numbered p (k + 1) actions)

-- a test divides events in two
future_divided : (p : ℕ) (f : ℕ × Event) (yeses nos all : List (ℕ × Event)) (b : Bool) → count p (map (λ g. g.1) yeses) + future_count p nos ≡ future_count p all
    → count p (map (λ g. g.1) (cond b (f ∷ yeses) yeses)) + future_count p (cond (not b) (f ∷ nos) nos) ≡ mark p f.1.1 + future_count p all
future_divided p f yeses nos all true h = omega (arith, h)
future_divided p f yeses nos all false h = omega (arith, h)

future_count-filter_both : (p : ℕ) (test : ℕ × Event → Bool) (fs : List (ℕ × Event)) → count p (map (λ f. f.1) (filter test fs)) + future_count p (filter (λ f. not (test f)) fs) ≡ future_count p fs
future_count-filter_both p test [] = omega arith
future_count-filter_both p test (f ∷ fs) =
    future_divided p f (filter test fs) (filter (λ x. not (test x)) fs) fs (test f) (future_count-filter_both p test fs)

-- at the start
count-before : (p k : ℕ) (ps : List Process) → p < k → count p (map (λ e. (e.0, Evaluate e.0)) (enumerate_from k ps)) ≡ 0
unfolding one_if
count-before p k [] h = refl
count-before p k (q ∷ ps) h =
    let other : (k == p) ≡ false = grind (arith, eqb_tells k p) in
    rw (other, count-before p (k + 1) ps (omega arith)) refl

first_more : (p k n : ℕ) (ps : List Process) (b : Bool) → (k == p) ≡ b → n ≤ 1 → (p < k + 1 → n ≡ 0) → one_if (k == p) + n ≤ 1
unfolding one_if
first_more p k n ps true is h before =
    let same : k ≡ p = eqb-true k p is in
    let none : n ≡ 0 = before (omega (arith, same)) in
    rw (is, none) (omega arith)
first_more p k n ps false is h before = rw is (omega (arith, h))

count-first : (p k : ℕ) (ps : List Process) → count p (map (λ e. (e.0, Evaluate e.0)) (enumerate_from k ps)) ≤ 1
count-first p k [] = omega arith
count-first p k (q ∷ ps) =
    first_more p k (count p (map (λ e. (e.0, Evaluate e.0)) (enumerate_from (k + 1) ps))) ps (k == p) refl (count-first p (k + 1) ps) (count-before p (k + 1) ps)

-- no continuation
abbrev nothing : Continuation
nothing = record { remainder = []; triggers = [] }

abbrev continuation : List Continuation → ℕ → Continuation
continuation ps p = get_or ps p nothing

unbegun_waits : (design : Design) (p k : ℕ) (ps : List Process) → has_any (continuation (map (λ e. unbegun design e.0) (enumerate_from k ps)) p).triggers ≡ false
unbegun_waits design zero k [] = refl
unbegun_waits design (suc p) k [] = refl
unbegun_waits design zero k (q ∷ ps) = refl
unbegun_waits design (suc p) k (q ∷ ps) = unbegun_waits design p (k + 1) ps

-- the evaluations of a process among all events, and 1 more where it waits for triggers
abbrev waits : ℕ → List Continuation → ℕ
waits p ps = one_if (has_any (continuation ps p).triggers)

abbrev total : ℕ → State → ℕ
total p s = count p s.active + count p s.inactive + count p s.nonblocking + future_count p s.future_inactive + future_count p s.future_nonblocking + waits p s.processes

-- at most n of them
abbrev AtMost : ℕ → ℕ → State → Type 0
AtMost p n s = total p s ≤ n

at_start : (p : ℕ) (design : Design) → AtMost p 1 (start design)
at_start p design =
    let none : waits p (start design).processes ≡ 0 = ap one_if (unbegun_waits design p 0 design.processes) ∙ false_is_none in
    omega (arith, none, count-first p 0 design.processes)

-- a change wakes the processes that wait for it, and those wait no more
abbrev evaluate_each : List (ℕ × Continuation) → List Action
evaluate_each es = map (λ e. Evaluate e.0) es

woken_other : (p k : ℕ) (q : Continuation) (es : List (ℕ × Continuation)) (b : Bool) → (k == p) ≡ false → action_count p (evaluate_each (cond b ((k, q) ∷ es) es)) ≡ action_count p (evaluate_each es)
woken_other p k q es true other =
    let none : one_if (k == p) ≡ 0 = ap one_if other ∙ false_is_none in
    omega (arith, none)
woken_other p k q es false other = refl

woken_same : (p k : ℕ) (q : Continuation) (es : List (ℕ × Continuation)) (b : Bool) → (k == p) ≡ true → action_count p (evaluate_each (cond b ((k, q) ∷ es) es)) ≡ one_if b + action_count p (evaluate_each es)
woken_same p k q es true is = ap (λ b. one_if b + action_count p (evaluate_each es)) is
woken_same p k q es false is = omega (arith, false_is_none)

count-woken_before : (p k r : ℕ) (old new : Vector) (ps : List Continuation) → p < k → action_count p (evaluate_each (filter (λ e. is_woken r old new e.1) (enumerate_from k ps))) ≡ 0
count-woken_before p k r old new [] h = refl
count-woken_before p k r old new (q ∷ ps) h =
    let other : (k == p) ≡ false = grind (arith, eqb_tells k p, h) in
    woken_other p k q (filter (λ e. is_woken r old new e.1) (enumerate_from (k + 1) ps)) (is_woken r old new q) other ∙ count-woken_before p (k + 1) r old new ps (omega (arith, h))

count-woken : (p k j r : ℕ) (old new : Vector) (ps : List Continuation) → k + j ≡ p → action_count p (evaluate_each (filter (λ e. is_woken r old new e.1) (enumerate_from k ps))) ≡ one_if (is_woken r old new (continuation ps j))
count-woken p k j r old new [] at = sym false_is_none
count-woken p k zero r old new (q ∷ ps) at =
    let same : k ≡ p = omega (arith, at) in
    omega (
      arith,
      woken_same p k q (filter (λ e. is_woken r old new e.1) (enumerate_from (k + 1) ps)) (is_woken r old new q) (eq-eqb k p same),
      count-woken_before p (k + 1) r old new ps (omega (arith, same)),
    )
count-woken p k (suc j) r old new (q ∷ ps) at =
    let other : (k == p) ≡ false = grind (arith, eqb_tells k p, at) in
    woken_other p k q (filter (λ e. is_woken r old new e.1) (enumerate_from (k + 1) ps)) (is_woken r old new q) other ∙ count-woken p (k + 1) j r old new ps (omega (arith, at))

settled_by : (w : Continuation) (b : Bool) → has_any w.triggers ≡ true → one_if b + one_if (has_any (if b then record w { triggers = [] } else w).triggers) ≡ one_if (has_any w.triggers)
settled_by w true h =
    let one : one_if (has_any w.triggers) ≡ 1 = ap one_if h ∙ true_is_one in
    omega (arith, one, true_is_one, false_is_none)
settled_by w false h = omega (arith, false_is_none)

settled : (r : ℕ) (old new : Vector) (rest : Remainder) (triggers : List Trigger) → one_if (wakes triggers r old new) + one_if (has_any (after_wake r old new (record { remainder = rest; triggers = triggers })).triggers) ≡ one_if (has_any triggers)
settled r old new rest [] = omega (arith, false_is_none)
settled r old new rest (t ∷ ts) = settled_by (record { remainder = rest; triggers = t ∷ ts }) (wakes (t ∷ ts) r old new) refl

continuation-map : (r : ℕ) (old new : Vector) (ps : List Continuation) (p : ℕ) → continuation (map (after_wake r old new) ps) p ≡ after_wake r old new (continuation ps p)
continuation-map r old new [] p = refl
continuation-map r old new (q ∷ ps) zero = refl
continuation-map r old new (q ∷ ps) (suc p) = continuation-map r old new ps p

at_most-with_value : (p n r : ℕ) (v : Vector) (s : State) → AtMost p n s → AtMost p n (with_value r v s)
at_most-with_value p n r v s h =
    let old : Vector = value_of s.store r in
    let w : Continuation = continuation s.processes p in
    let waits_after : waits p (map (after_wake r old v) s.processes) ≡ one_if (has_any (after_wake r old v w).triggers) =
    ap (λ q. one_if (has_any q.triggers)) (continuation-map r old v s.processes p) in
    omega (
      arith,
      h,
      waits_after,
      settled r old v w.remainder w.triggers,
      count-woken p 0 p r old v s.processes (omega arith),
      count-numbered p s.next_event (woken r old v s.processes),
      count-append p s.active (enumerate_from s.next_event (woken r old v s.processes)),
    )

at_most_if : (p n : ℕ) (s t : State) (b : Bool) → AtMost p n s → AtMost p n t → AtMost p n (if b then s else t)
at_most_if p n s t true g h = g
at_most_if p n s t false g h = h

at_most-change : (p n : ℕ) (s : State) (r : ℕ) (v : Vector) → AtMost p n s → AtMost p n (change s r v)
at_most-change p n s r v h = at_most_if p n s (with_value r v s) (same_vector (value_of s.store r) v) h (at_most-with_value p n r v s h)

at_most-change_all : (p n : ℕ) (s : State) (ws : List (ℕ × Vector)) → AtMost p n s → AtMost p n (change_all s ws)
at_most-change_all p n s [] h = h
at_most-change_all p n s (w ∷ ws) h = at_most-change_all p n (change s w.0 w.1) ws (at_most-change p n s w.0 w.1 h)

at_most-schedule : (p n : ℕ) (s : State) (later : NonblockingAssignment) → AtMost p n s → AtMost p n (schedule s later)
at_most-schedule p n s later h =
    let action : Action = Action.Update later.register later.value in
    at_most_if p n (with_nonblocking (action ∷ []) s) (with_future_nonblocking later.due action s) (later.due == s.time)
    (omega (arith, h, false_is_none, count-append p s.nonblocking (numbered s (Action.Update later.register later.value ∷ []))))
    (omega (arith, h, false_is_none, future_count-with_due p (later.due, (s.next_event, Action.Update later.register later.value)) s.future_nonblocking))

at_most-schedule_all : (p n : ℕ) (s : State) (nbas : List NonblockingAssignment) → AtMost p n s → AtMost p n (schedule_all s nbas)
at_most-schedule_all p n s [] h = h
at_most-schedule_all p n s (l ∷ ls) h = at_most-schedule_all p n (schedule s l) ls (at_most-schedule p n s l h)

-- the wait of another process
at_most-schedule_wait : (p q n : ℕ) (wait : Wait) (s : State) → (q == p) ≡ false → AtMost p n s → AtMost p n (schedule_wait q wait s)
at_most-schedule_wait p q n Ended s other h = h
at_most-schedule_wait p q n Inactive s other h =
    let none : one_if (q == p) ≡ 0 = ap one_if other ∙ false_is_none in
    omega (arith, h, none, count-append p s.inactive (numbered s (Evaluate q ∷ [])))
at_most-schedule_wait p q n (Until time) s other h =
    let none : one_if (q == p) ≡ 0 = ap one_if other ∙ false_is_none in
    omega (arith, h, none, future_count-with_due p (time, (s.next_event, Evaluate q)) s.future_inactive)
at_most-schedule_wait p q n (OnChange triggers) s other h = h

at_most-with_continuation : (p q n : ℕ) (turn : Turn) (s : State) → (q == p) ≡ false → AtMost p n s → AtMost p n (with_continuation q turn s)
at_most-with_continuation p q n turn s other h =
    let same : waits p (slice_set s.processes q (record { remainder = turn.rest; triggers = triggers_of turn.wait })) ≡ waits p s.processes =
    ap (λ w. one_if (has_any w.triggers)) (get_or-set_other s.processes q p (record { remainder = turn.rest; triggers = triggers_of turn.wait }) nothing (differs q p other)) in
    omega (arith, h, same)

-- the wait of the process itself, which had no event
waits_here : (ps : List Continuation) (p : ℕ) (w : Continuation) → waits p (slice_set ps p w) ≤ one_if (has_any w.triggers)
waits_here [] p w = omega (arith, false_is_none)
waits_here (q ∷ ps) zero w = omega arith
waits_here (q ∷ ps) (suc p) w = waits_here ps p w

abbrev waiting : ℕ → Wait → Remainder → Bool → State → State
waiting p wait rest finish s =
    record (schedule_wait p wait s) { processes = slice_set (schedule_wait p wait s).processes p (record { remainder = rest; triggers = triggers_of wait }); finished = finish }

one_after : (p : ℕ) (wait : Wait) (rest : Remainder) (finish : Bool) (s : State) → AtMost p 0 s → AtMost p 1 (waiting p wait rest finish s)
one_after p Ended rest finish s h =
    omega (arith, h, false_is_none, waits_here s.processes p (record { remainder = rest; triggers = [] }))
one_after p Inactive rest finish s h =
    omega (
      arith,
      h,
      false_is_none,
      waits_here s.processes p (record { remainder = rest; triggers = [] }),
      at_most_one (p == p),
      count-append p s.inactive (numbered s (Evaluate p ∷ [])),
    )
one_after p (Until time) rest finish s h =
    omega (
      arith,
      h,
      false_is_none,
      waits_here s.processes p (record { remainder = rest; triggers = [] }),
      at_most_one (p == p),
      future_count-with_due p (time, (s.next_event, Evaluate p)) s.future_inactive,
    )
one_after p (OnChange triggers) rest finish s h =
    omega (arith, h, at_most_one (has_any triggers), waits_here s.processes p (record { remainder = rest; triggers = triggers }))

-- an event is taken
fewer_first : (p : ℕ) (e : Event) (rest es : List Event) (b : Bool) → count p rest ≤ count p es → count p (cond (not b) (e ∷ rest) rest) ≤ mark p e.1 + count p es
fewer_first p e rest es true h = omega (arith, h)
fewer_first p e rest es false h = omega (arith, h)

fewer : (p m : ℕ) (es : List Event) → count p (without m es) ≤ count p es
fewer p m [] = omega arith
fewer p m (e ∷ es) = fewer_first p e (without m es) es (e.0 == m) (fewer p m es)

taken_first : (p m : ℕ) (a : Action) (e : Event) (rest es : List Event) (b : Bool) → (if b then Some e.1 else action_in es m) ≡ Some a → count p rest ≤ count p es
    → (action_in es m ≡ Some a → count p rest + mark p a ≤ count p es) → count p (cond (not b) (e ∷ rest) rest) + mark p a ≤ mark p e.1 + count p es
taken_first p m a e rest es true is less later =
    let same : e.1 ≡ a = cc in
    let marks : mark p e.1 ≡ mark p a = ap (mark p) same in
    omega (arith, less, marks)
taken_first p m a e rest es false is less later = omega (arith, later is)

taken_away : (p m : ℕ) (a : Action) (es : List Event) → action_in es m ≡ Some a → count p (without m es) + mark p a ≤ count p es
taken_away p m a [] is = cc
taken_away p m a (e ∷ es) is = taken_first p m a e (without m es) es (e.0 == m) is (fewer p m es) (taken_away p m a es)

at_most-taking : (p n m : ℕ) (s : State) → AtMost p n s → AtMost p n (taking m s)
at_most-taking p n m s h = omega (arith, h, fewer p m s.active)

own_mark : (p : ℕ) → mark p (Evaluate p) ≡ 1
own_mark p = ap one_if (eq-eqb p p refl) ∙ true_is_one

none_left : (p m : ℕ) (s : State) → action_in s.active m ≡ Some (Evaluate p) → AtMost p 1 s → AtMost p 0 (taking m s)
none_left p m s is h = omega (arith, h, own_mark p, taken_away p m (Evaluate p) s.active is)

at_most-turned : (p q m : ℕ) (turn : Turn) (s : State) (b : Bool) → (q == p) ≡ b → action_in s.active m ≡ Some (Evaluate q) → AtMost p 1 s → AtMost p 1 (turned s m q turn)
at_most-turned p q m turn s true same is h =
    let one : q ≡ p = eqb-true q p same in
    let is' : action_in s.active m ≡ Some (Evaluate p) = is ∙ ap (λ k. Some (Evaluate k)) one in
    let t : State = taking m s in
    rw one
    (one_after p turn.wait turn.rest turn.finish (schedule_all (change_all t turn.writes) turn.nbas)
    (at_most-schedule_all p 0 (change_all t turn.writes) turn.nbas
    (at_most-change_all p 0 t turn.writes (none_left p m s is' h))))
at_most-turned p q m turn s false other is h =
    let t : State = taking m s in
    let u : State = schedule_all (change_all t turn.writes) turn.nbas in
    at_most-with_continuation p q 1 turn (schedule_wait q turn.wait u) other
    (at_most-schedule_wait p q 1 turn.wait u other
    (at_most-schedule_all p 1 (change_all t turn.writes) turn.nbas
    (at_most-change_all p 1 t turn.writes (at_most-taking p 1 m s h))))

at_most-inactive_activated : (p n : ℕ) (s : State) → AtMost p n s → AtMost p n (inactive_activated s)
at_most-inactive_activated p n s h = omega (arith, h, count-append p s.active s.inactive)

at_most-nonblocking_activated : (p n : ℕ) (s : State) → AtMost p n s → AtMost p n (nonblocking_activated s)
at_most-nonblocking_activated p n s h = omega (arith, h, count-append p s.active s.nonblocking)

at_most-advanced : (p n time : ℕ) (s : State) → AtMost p n s → AtMost p n (advanced s time)
at_most-advanced p n time s h =
    omega (
      arith,
      h,
      future_count-filter_both p (λ f. f.0 == time) s.future_inactive,
      future_count-filter_both p (λ f. f.0 == time) s.future_nonblocking,
    )

-- each process has one at most
abbrev EachOne : State → Type 0
EachOne s = (p : ℕ) → AtMost p 1 s

turn_kept : (s : State) (m q : ℕ) (f : Effect) (o : Option Turn) → action_in s.active m ≡ Some (Evaluate q) → option_map (turn_effect s m q) o ≡ Some f → EachOne s → EachOne f.state
turn_kept s m q f None is h all = cc
turn_kept s m q f (Some turn) is h all =
    let same : turn_effect s m q turn ≡ f = cc in
    λ p. rw (← same) (at_most-turned p q m turn s (q == p) refl is (all p))

action_kept : (design : Design) (s : State) (m : ℕ) (f : Effect) (o : Option Action) → action_in s.active m ≡ o → action_effect design s m o ≡ Some f → EachOne s → EachOne f.state
action_kept design s m f None is h all = cc
action_kept design s m f (Some (Evaluate q)) is h all = turn_kept s m q f (turn_of design s q) is h all
action_kept design s m f (Some (Action.Update r v)) is h all =
    let same : update_effect s m r v ≡ f = cc in
    λ p. rw (← same) (at_most-change p 1 (taking m s) r v (at_most-taking p 1 m s (all p)))

silent_kept : (t : State) (f : Effect) → Some (silent t) ≡ Some f → EachOne t → EachOne f.state
silent_kept t f h all =
    let same : silent t ≡ f = cc in
    λ p. rw (← same) (all p)

monitor_kept : (s : State) (lines : List ℕ) (f : Effect) → Some (record { state = monitored s; lines = lines; changes = [] }) ≡ Some f → EachOne s → EachOne f.state
monitor_kept s lines f h all =
    let e : Effect = record { state = monitored s; lines = lines; changes = [] } in
    let same : e ≡ f = cc in
    λ p. rw (← same) (all p)

effect_kept : (design : Design) (s : State) (entry : Entry) (f : Effect) → effect design s entry ≡ Some f → EachOne s → EachOne f.state
effect_kept design s (Entry.Turn m) f h all = action_kept design s m f (action_in s.active m) refl h all
effect_kept design s (Update m) f h all = action_kept design s m f (action_in s.active m) refl h all
effect_kept design s ActivateInactive f h all = silent_kept (inactive_activated s) f h (λ p. at_most-inactive_activated p 1 s (all p))
effect_kept design s ActivateNba f h all = silent_kept (nonblocking_activated s) f h (λ p. at_most-nonblocking_activated p 1 s (all p))
effect_kept design s ActivateMonitor f h all = monitor_kept s (strobe_lines design s) f h all
effect_kept design s (Advance time) f h all = silent_kept (advanced s time) f h (λ p. at_most-advanced p 1 time s (all p))

step_kept : (design : Design) (s : State) (entry : Entry) (f : Effect) → step design s entry ≡ Some f → EachOne s → EachOne f.state
step_kept design s entry f h all = effect_kept design s entry f (unless_some (refusal s entry) (effect design s entry) f h).1 all

run_kept : (design : Design) (e f : Effect) (entries : List Entry) → run_from design e entries ≡ Some f → EachOne e.state → EachOne f.state
run_kept design e f [] h all =
    let same : e ≡ f = cc in
    λ p. rw (← same) (all p)
run_kept design e f (entry ∷ entries) h all =
    option_and_then_some (λ g. run_from design (joined e g) entries) (step design e.state entry) f h
    (λ g is later. run_kept design (joined e g) f entries later (step_kept design e.state entry g is all))

each_one : (design : Design) (journal : List Entry) (e : Effect) → run design journal ≡ Some e → EachOne e.state
each_one design journal e h = run_kept design (silent (start design)) e journal h (λ p. at_start p design)

-- the counts of the law
one_if_is : (b : Bool) → one_if b ≡ (if b then 1 else 0)
unfolding one_if
one_if_is true = refl
one_if_is false = refl

evaluations_counted : (p : ℕ) (es : List Event) → evaluations_in p es ≡ count p es
evaluations_counted p [] = refl
evaluations_counted p (e ∷ es) = omega (arith, evaluations_counted p es, one_if_is (evaluates p e.1))

future_counted : (p : ℕ) (fs : List (ℕ × Event)) → count p (map (λ f. f.1) fs) ≡ future_count p fs
future_counted p [] = refl
future_counted p (f ∷ fs) = omega (arith, future_counted p fs)

evaluations_of_counted : (s : State) (p : ℕ) → evaluations_of s p ≡ count p s.active + count p s.inactive + future_count p s.future_inactive
evaluations_of_counted s p =
    omega (
      arith,
      evaluations_counted p (s.active ++ s.inactive ++ map (λ f. f.1) s.future_inactive),
      count-append p (s.active ++ s.inactive) (map (λ f. f.1) s.future_inactive),
      count-append p s.active s.inactive,
      future_counted p s.future_inactive,
    )

-- a process has one evaluation at most
pub each_process_has_one_event : EachProcessHasOneEvent
each_process_has_one_event design journal e p h =
    let most : AtMost p 1 e.state = each_one design journal e h p in (
      omega (arith, most, evaluations_of_counted e.state p),
      λ waits_now.
          let one : waits p e.state.processes ≡ 1 = ap one_if waits_now ∙ true_is_one in
          omega (arith, most, one, evaluations_of_counted e.state p),
    )

-- An active event that isn't taken stays, and with it the remainder of the process p, and the time.
abbrev Stays : ℕ → Action → ℕ → Remainder → ℕ → State → Type 0
Stays n action p rest time s = (action_in s.active n ≡ Some action) × (remainder_of s p ≡ rest) × (s.time ≡ time)

found_first : (n : ℕ) (a : Action) (x : Event) (xs ys : List Event) (b : Bool) → (if b then Some x.1 else action_in xs n) ≡ Some a → (action_in xs n ≡ Some a → action_in (xs ++ ys) n ≡ Some a) → (if b then Some x.1 else action_in (xs ++ ys) n) ≡ Some a
found_first n a x xs ys true is later = is
found_first n a x xs ys false is later = later is

action_in-append : (n : ℕ) (a : Action) (xs ys : List Event) → action_in xs n ≡ Some a → action_in (xs ++ ys) n ≡ Some a
action_in-append n a [] ys is = cc
action_in-append n a (x ∷ xs) ys is = found_first n a x xs ys (x.0 == n) is (action_in-append n a xs ys)

without_first : (n m : ℕ) (e : Event) (es : List Event) (b : Bool) → (e.0 == m) ≡ b → (m == n) ≡ false → action_in (without m es) n ≡ action_in es n
    → action_in (cond (not b) (e ∷ without m es) (without m es)) n ≡ action_in (e ∷ es) n
without_first n m e es true is other h =
    let same : e.0 ≡ m = eqb-true e.0 m is in
    let past : (e.0 == n) ≡ false = ap (λ k. k == n) same ∙ other in
    h ∙ sym (ap (λ b. if b then Some e.1 else action_in es n) past)
without_first n m e es false is other h = ap (λ o. if e.0 == n then Some e.1 else o) h

action_in-without : (n m : ℕ) (es : List Event) → (m == n) ≡ false → action_in (without m es) n ≡ action_in es n
action_in-without n m [] other = refl
action_in-without n m (e ∷ es) other = without_first n m e es (e.0 == m) refl other (action_in-without n m es other)

remainder_if : (b : Bool) (w : Continuation) → (if b then record w { triggers = [] } else w).remainder ≡ w.remainder
remainder_if true w = refl
remainder_if false w = refl

stays-with_value : (n p : ℕ) (a : Action) (rest : Remainder) (time r : ℕ) (v : Vector) (s : State) → Stays n a p rest time s → Stays n a p rest time (with_value r v s)
stays-with_value n p a rest time r v s h =
    let old : Vector = value_of s.store r in
    let w : Continuation = continuation s.processes p in
    let same : (continuation (map (after_wake r old v) s.processes) p).remainder ≡ w.remainder =
    ap (λ q. q.remainder) (continuation-map r old v s.processes p) ∙ remainder_if (is_woken r old v w) w in
    (action_in-append n a s.active (enumerate_from s.next_event (woken r old v s.processes)) h.0, same ∙ h.1, h.2)

stays_if : (n p : ℕ) (a : Action) (rest : Remainder) (time : ℕ) (s t : State) (b : Bool) → Stays n a p rest time s → Stays n a p rest time t → Stays n a p rest time (if b then s else t)
stays_if n p a rest time s t true g h = g
stays_if n p a rest time s t false g h = h

stays-change : (n p : ℕ) (a : Action) (rest : Remainder) (time : ℕ) (s : State) (r : ℕ) (v : Vector) → Stays n a p rest time s → Stays n a p rest time (change s r v)
stays-change n p a rest time s r v h =
    stays_if n p a rest time s (with_value r v s) (same_vector (value_of s.store r) v) h (stays-with_value n p a rest time r v s h)

stays-change_all : (n p : ℕ) (a : Action) (rest : Remainder) (time : ℕ) (s : State) (ws : List (ℕ × Vector)) → Stays n a p rest time s → Stays n a p rest time (change_all s ws)
stays-change_all n p a rest time s [] h = h
stays-change_all n p a rest time s (w ∷ ws) h = stays-change_all n p a rest time (change s w.0 w.1) ws (stays-change n p a rest time s w.0 w.1 h)

stays-schedule : (n p : ℕ) (a : Action) (rest : Remainder) (time : ℕ) (s : State) (later : NonblockingAssignment) → Stays n a p rest time s → Stays n a p rest time (schedule s later)
stays-schedule n p a rest time s later h =
    stays_if n p a rest time (with_nonblocking (Action.Update later.register later.value ∷ []) s) (with_future_nonblocking later.due (Action.Update later.register later.value) s) (later.due == s.time) h h

stays-schedule_all : (n p : ℕ) (a : Action) (rest : Remainder) (time : ℕ) (s : State) (nbas : List NonblockingAssignment) → Stays n a p rest time s → Stays n a p rest time (schedule_all s nbas)
stays-schedule_all n p a rest time s [] h = h
stays-schedule_all n p a rest time s (l ∷ ls) h = stays-schedule_all n p a rest time (schedule s l) ls (stays-schedule n p a rest time s l h)

stays-schedule_wait : (n p : ℕ) (a : Action) (rest : Remainder) (time q : ℕ) (wait : Wait) (s : State) → Stays n a p rest time s → Stays n a p rest time (schedule_wait q wait s)
stays-schedule_wait n p a rest time q Ended s h = h
stays-schedule_wait n p a rest time q Inactive s h = h
stays-schedule_wait n p a rest time q (Until due) s h = h
stays-schedule_wait n p a rest time q (OnChange triggers) s h = h

stays-with_continuation : (n p : ℕ) (a : Action) (rest : Remainder) (time q : ℕ) (turn : Turn) (s : State) → (q == p) ≡ false → Stays n a p rest time s → Stays n a p rest time (with_continuation q turn s)
stays-with_continuation n p a rest time q turn s other h =
    let same : continuation (slice_set s.processes q (record { remainder = turn.rest; triggers = triggers_of turn.wait })) p ≡ continuation s.processes p =
    get_or-set_other s.processes q p (record { remainder = turn.rest; triggers = triggers_of turn.wait }) nothing (differs q p other) in
    (h.0, ap (λ w. w.remainder) same ∙ h.1, h.2)

stays-taking : (n p m : ℕ) (a : Action) (s : State) → (m == n) ≡ false → action_in s.active n ≡ Some a → Stays n a p (remainder_of s p) s.time (taking m s)
stays-taking n p m a s other is = (action_in-without n m s.active other ∙ is, refl, refl)

-- an active evaluation of a process leaves no room for another one of the same process
present_first : (p n : ℕ) (a : Action) (x : Event) (xs : List Event) (b : Bool) → (if b then Some x.1 else action_in xs n) ≡ Some a → (action_in xs n ≡ Some a → mark p a ≤ count p xs) → mark p a ≤ mark p x.1 + count p xs
present_first p n a x xs true is later =
    let same : x.1 ≡ a = cc in
    let marks : mark p x.1 ≡ mark p a = ap (mark p) same in
    omega (arith, marks)
present_first p n a x xs false is later = omega (arith, later is)

present : (p n : ℕ) (a : Action) (es : List Event) → action_in es n ≡ Some a → mark p a ≤ count p es
present p n a [] is = cc
present p n a (e ∷ es) is = present_first p n a e es (e.0 == n) is (present p n a es)

other_process : (n m p q : ℕ) (s : State) → (m == n) ≡ false → action_in s.active n ≡ Some (Evaluate p) → action_in s.active m ≡ Some (Evaluate q) → AtMost p 1 s → (q == p) ≡ false
other_process n m p q s other here there h =
    none_is_false (q == p)
    (omega (
      arith,
      h,
      own_mark p,
      present p n (Evaluate p) (without m s.active) (action_in-without n m s.active other ∙ here),
      taken_away p m (Evaluate q) s.active there,
    ))

stays-turned : (n p m q : ℕ) (turn : Turn) (s : State) → (m == n) ≡ false → action_in s.active n ≡ Some (Evaluate p) → action_in s.active m ≡ Some (Evaluate q) → AtMost p 1 s
    → Stays n (Evaluate p) p (remainder_of s p) s.time (turned s m q turn)
stays-turned n p m q turn s other here there h =
    let a : Action = Evaluate p in
    let rest : Remainder = remainder_of s p in
    let t : State = taking m s in
    let u : State = schedule_all (change_all t turn.writes) turn.nbas in
    stays-with_continuation n p a rest s.time q turn (schedule_wait q turn.wait u) (other_process n m p q s other here there h)
    (stays-schedule_wait n p a rest s.time q turn.wait u
    (stays-schedule_all n p a rest s.time (change_all t turn.writes) turn.nbas
    (stays-change_all n p a rest s.time t turn.writes (stays-taking n p m a s other here))))

turn_stays : (n p m q : ℕ) (s : State) (f : Effect) (o : Option Turn) → (m == n) ≡ false → action_in s.active n ≡ Some (Evaluate p) → action_in s.active m ≡ Some (Evaluate q) → option_map (turn_effect s m q) o ≡ Some f → AtMost p 1 s
    → Stays n (Evaluate p) p (remainder_of s p) s.time f.state
turn_stays n p m q s f None other here there h most = cc
turn_stays n p m q s f (Some turn) other here there h most =
    let same : turn_effect s m q turn ≡ f = cc in
    rw (← same) (stays-turned n p m q turn s other here there most)

action_stays : (design : Design) (n p m : ℕ) (s : State) (f : Effect) (o : Option Action) → (m == n) ≡ false → action_in s.active n ≡ Some (Evaluate p) → action_in s.active m ≡ o → action_effect design s m o ≡ Some f → AtMost p 1 s
    → Stays n (Evaluate p) p (remainder_of s p) s.time f.state
action_stays design n p m s f None other here there h most = cc
action_stays design n p m s f (Some (Evaluate q)) other here there h most = turn_stays n p m q s f (turn_of design s q) other here there h most
action_stays design n p m s f (Some (Action.Update r v)) other here there h most =
    let same : update_effect s m r v ≡ f = cc in
    rw (← same) (stays-change n p (Evaluate p) (remainder_of s p) s.time (taking m s) r v (stays-taking n p m (Evaluate p) s other here))

silent_stays : (n p : ℕ) (rest : Remainder) (time : ℕ) (t : State) (f : Effect) → Some (silent t) ≡ Some f → Stays n (Evaluate p) p rest time t → Stays n (Evaluate p) p rest time f.state
silent_stays n p rest time t f h stays =
    let same : silent t ≡ f = cc in
    rw (← same) stays

-- nothing is active where the time advances
nothing_there : (n : ℕ) (a : Action) (events : List Event) → has_any events ≡ false → action_in events n ≡ Some a → ⊥
nothing_there n a [] none is = cc
nothing_there n a (x ∷ xs) none is = cc

advance_stays : (n p time : ℕ) (s : State) (f : Effect) → entry_refusal s (Advance time) ≡ None → action_in s.active n ≡ Some (Evaluate p) → Stays n (Evaluate p) p (remainder_of s p) s.time f.state
advance_stays n p time s f none here =
    let empty : (has_any s.active || has_any s.inactive || has_any s.nonblocking || has_any s.monitor) ≡ false =
    (where_none (has_any s.active || has_any s.inactive || has_any s.nonblocking || has_any s.monitor) NotDue (time_refusal time (least_time s)) none).0 in
    let three : (has_any s.active || has_any s.inactive || has_any s.nonblocking) ≡ false = (either_false (has_any s.active || has_any s.inactive || has_any s.nonblocking) (has_any s.monitor) empty).0 in
    let two : (has_any s.active || has_any s.inactive) ≡ false = (either_false (has_any s.active || has_any s.inactive) (has_any s.nonblocking) three).0 in
    let one : has_any s.active ≡ false = (either_false (has_any s.active) (has_any s.inactive) two).0 in
    absurd (nothing_there n (Evaluate p) s.active one here)

not_taken : (b : Bool) → (if b then 1 else 0) + 0 ≡ 0 → b ≡ false
not_taken true h = absurd (omega (arith, h))
not_taken false h = refl

monitor_stays : (n p : ℕ) (s : State) (lines : List ℕ) (f : Effect) → Some (record { state = monitored s; lines = lines; changes = [] }) ≡ Some f
    → action_in s.active n ≡ Some (Evaluate p) → Stays n (Evaluate p) p (remainder_of s p) s.time f.state
monitor_stays n p s lines f h here =
    let e : Effect = record { state = monitored s; lines = lines; changes = [] } in
    let same : e ≡ f = cc in
    rw (← same) (here, refl, refl)

effect_stays : (design : Design) (n p : ℕ) (s : State) (entry : Entry) (f : Effect) → entry_refusal s entry ≡ None → effect design s entry ≡ Some f → action_in s.active n ≡ Some (Evaluate p) → times_in n (taken (entry ∷ [])) ≡ 0 → AtMost p 1 s
    → Stays n (Evaluate p) p (remainder_of s p) s.time f.state
effect_stays design n p s (Entry.Turn m) f none h here free most = action_stays design n p m s f (action_in s.active m) (not_taken (m == n) free) here refl h most
effect_stays design n p s (Update m) f none h here free most = action_stays design n p m s f (action_in s.active m) (not_taken (m == n) free) here refl h most
effect_stays design n p s ActivateInactive f none h here free most =
    silent_stays n p (remainder_of s p) s.time (inactive_activated s) f h (action_in-append n (Evaluate p) s.active s.inactive here, refl, refl)
effect_stays design n p s ActivateNba f none h here free most =
    silent_stays n p (remainder_of s p) s.time (nonblocking_activated s) f h (action_in-append n (Evaluate p) s.active s.nonblocking here, refl, refl)
effect_stays design n p s ActivateMonitor f none h here free most = monitor_stays n p s (strobe_lines design s) f h here
effect_stays design n p s (Advance time) f none h here free most = advance_stays n p time s f none here

-- an active evaluation that isn't taken stays, with the remainder of its process
pub active_evaluations_stay : ActiveEvaluationsStay
active_evaluations_stay design journal entry e f n p ran h here free =
    let parts : (refusal e.state entry ≡ None) × (effect design e.state entry ≡ Some f) = unless_some (refusal e.state entry) (effect design e.state entry) f h in
    effect_stays design n p e.state entry f (where_none e.state.finished Finished (entry_refusal e.state entry) parts.0).1 parts.1 here free (each_one design journal e ran p)

-- an active event that isn't taken stays, whatever it does
event_stays-turned : (n m q : ℕ) (a : Action) (turn : Turn) (s : State) → (m == n) ≡ false → action_in s.active n ≡ Some a
    → action_in (turned s m q turn).active n ≡ Some a
event_stays-turned n m q a turn s other here =
    let p : ℕ = q + 1 in
    let next : (q == p) ≡ false = grind (arith, eqb_tells q (q + 1)) in
    let rest : Remainder = remainder_of s p in
    let t : State = taking m s in
    let u : State = schedule_all (change_all t turn.writes) turn.nbas in
    (stays-with_continuation n p a rest s.time q turn (schedule_wait q turn.wait u) next
    (stays-schedule_wait n p a rest s.time q turn.wait u
    (stays-schedule_all n p a rest s.time (change_all t turn.writes) turn.nbas
    (stays-change_all n p a rest s.time t turn.writes (stays-taking n p m a s other here))))).0

event_turn_stays : (n m q : ℕ) (a : Action) (s : State) (f : Effect) (o : Option Turn) → (m == n) ≡ false → action_in s.active n ≡ Some a → option_map (turn_effect s m q) o ≡ Some f
    → action_in f.state.active n ≡ Some a
event_turn_stays n m q a s f None other here h = cc
event_turn_stays n m q a s f (Some turn) other here h =
    let same : turn_effect s m q turn ≡ f = cc in
    rw (← same) (event_stays-turned n m q a turn s other here)

event_action_stays : (design : Design) (n m : ℕ) (a : Action) (s : State) (f : Effect) (o : Option Action) → (m == n) ≡ false → action_in s.active n ≡ Some a → action_effect design s m o ≡ Some f
    → action_in f.state.active n ≡ Some a
event_action_stays design n m a s f None other here h = cc
event_action_stays design n m a s f (Some (Evaluate q)) other here h = event_turn_stays n m q a s f (turn_of design s q) other here h
event_action_stays design n m a s f (Some (Action.Update r v)) other here h =
    let same : update_effect s m r v ≡ f = cc in
    rw (← same) (stays-change n 0 a (remainder_of s 0) s.time (taking m s) r v (stays-taking n 0 m a s other here)).0

event_silent_stays : (n : ℕ) (a : Action) (t : State) (f : Effect) → Some (silent t) ≡ Some f → action_in t.active n ≡ Some a → action_in f.state.active n ≡ Some a
event_silent_stays n a t f h stays =
    let same : silent t ≡ f = cc in
    rw (← same) stays

event_advance_stays : (n time : ℕ) (a : Action) (s : State) (f : Effect) → entry_refusal s (Advance time) ≡ None → action_in s.active n ≡ Some a → action_in f.state.active n ≡ Some a
event_advance_stays n time a s f none here =
    let empty : (has_any s.active || has_any s.inactive || has_any s.nonblocking || has_any s.monitor) ≡ false =
    (where_none (has_any s.active || has_any s.inactive || has_any s.nonblocking || has_any s.monitor) NotDue (time_refusal time (least_time s)) none).0 in
    let three : (has_any s.active || has_any s.inactive || has_any s.nonblocking) ≡ false = (either_false (has_any s.active || has_any s.inactive || has_any s.nonblocking) (has_any s.monitor) empty).0 in
    let two : (has_any s.active || has_any s.inactive) ≡ false = (either_false (has_any s.active || has_any s.inactive) (has_any s.nonblocking) three).0 in
    absurd (nothing_there n a s.active (either_false (has_any s.active) (has_any s.inactive) two).0 here)

event_monitor_stays : (n : ℕ) (a : Action) (s : State) (lines : List ℕ) (f : Effect) → Some (record { state = monitored s; lines = lines; changes = [] }) ≡ Some f
    → action_in s.active n ≡ Some a → action_in f.state.active n ≡ Some a
event_monitor_stays n a s lines f h here =
    let e : Effect = record { state = monitored s; lines = lines; changes = [] } in
    let same : e ≡ f = cc in
    rw (← same) here

event_stays : (design : Design) (n : ℕ) (a : Action) (s : State) (entry : Entry) (f : Effect) → entry_refusal s entry ≡ None → effect design s entry ≡ Some f → action_in s.active n ≡ Some a → times_in n (taken (entry ∷ [])) ≡ 0
    → action_in f.state.active n ≡ Some a
event_stays design n a s (Entry.Turn m) f none h here free = event_action_stays design n m a s f (action_in s.active m) (not_taken (m == n) free) here h
event_stays design n a s (Update m) f none h here free = event_action_stays design n m a s f (action_in s.active m) (not_taken (m == n) free) here h
event_stays design n a s ActivateInactive f none h here free = event_silent_stays n a (inactive_activated s) f h (action_in-append n a s.active s.inactive here)
event_stays design n a s ActivateNba f none h here free = event_silent_stays n a (nonblocking_activated s) f h (action_in-append n a s.active s.nonblocking here)
event_stays design n a s ActivateMonitor f none h here free = event_monitor_stays n a s (strobe_lines design s) f h here
event_stays design n a s (Advance time) f none h here free = event_advance_stays n time a s f none here

pub active_events_stay : ActiveEventsStay
active_events_stay design s entry f n a h here free =
    let parts : (refusal s entry ≡ None) × (effect design s entry ≡ Some f) = unless_some (refusal s entry) (effect design s entry) f h in
    event_stays design n a s entry f (where_none s.finished Finished (entry_refusal s entry) parts.0).1 parts.1 here free
