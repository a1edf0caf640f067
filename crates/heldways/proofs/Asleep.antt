-- A state in which the sleepers wait for nothing goes along with the one in which they wait, as long as nothing that changes wakes them.
use Rattle.std.proofs.Common.{◌≡◌, ℕ, zero, suc, ◌+◌, Bool, true, false, List, [], ◌∷◌, ◌++◌, map, length, filter, Some, refl, sym, ap, ◌∙◌, if◌then◌else◌, ◌==◌, arith}
use Rattle.std.specs.Prelude.{cond}
use Rattle.std.specs.List.{enumerate_from}
use Rattle.logic4.specs.Vector.{Vector}
use Rattle.model.specs.declared.entry.Entry.{Entry}
use Rattle.model.specs.declared.entry.Entry.TheVariants.{Update}
use Rattle.model.specs.Design.{Design}
use Rattle.model.specs.Expressions.{Store}
use Rattle.model.specs.Turns.{Wait, Ended, Inactive, Until, OnChange, NonblockingAssignment, contains, short_turn}
use Rattle.model.specs.Turns as turns
use Rattle.model.specs.States.{Action, Evaluate, Event, Continuation, State, is_woken, woken, after_wake, change_all, schedule, schedule_all, schedule_wait, taking, turned, updated, with_continuation, with_nonblocking, with_future_nonblocking}
use Rattle.model.specs.Runs.{Effect, action_in, turn_of, turn_effect, update_effect}
use Rattle.model.specs.Laws.{evaluations_in}
use Rattle.orders.specs.Apart.{all_given, continuation_after}
use Rattle.orders.proofs.AlikeSteps.{continuation_of}
use Rattle.orders.proofs.Commuting.{turn_step}
use Rattle.orders.proofs.EventLists.{evaluations-append}
use Rattle.loose.specs.Loose.{has_earlier_of_class, loose_step}
use Rattle.loose.proofs.LooseSteps.{to_loose}
use Rattle.footprints.specs.Footprints.{RegisterChange, changes_made, matches_any}
use Rattle.footprints.proofs.ValueChanges.{neither}
use Rattle.footprints.proofs.Waking.{awake, woken_from, wakes_process, evaluations_made, after_changes, change_all_is, made_evaluations, one_where}
use Rattle.footprints.proofs.Exchange.{from_at}
use Rattle.heldmoves.specs.WithoutHeld.{asleep_if, asleep_from}
use Rattle.heldmoves.proofs.LeftAside.{asleep_at, same_remainder, all_woken, set_same}
use Rattle.heldways.specs.Passing.{put_to_sleep}

-- changes wake none of these processes
abbrev pub WakeNone : List ℕ → List RegisterChange → List Continuation → Type 0
WakeNone sleepers cs ps = (q : ℕ) → contains sleepers q ≡ true → wakes_process cs ps q ≡ false

-- one change

abbrev evaluate_each : List (ℕ × Continuation) → List Action
evaluate_each es = map (λ e. Evaluate e.0) es

both_first : (k : ℕ) (x y : Continuation) (es fs : List (ℕ × Continuation)) (b c : Bool) → b ≡ c → evaluate_each es ≡ evaluate_each fs → evaluate_each (cond b ((k, x) ∷ es) es) ≡ evaluate_each (cond c ((k, y) ∷ fs) fs)
both_first k x y es fs true true same h = ap (λ actions. Evaluate k ∷ actions) h
both_first k x y es fs false false same h = h
both_first k x y es fs true false same h = cc
both_first k x y es fs false true same h = cc

same_wake : (r : ℕ) (old new : Vector) (b : Bool) (x : Continuation) → (b ≡ true → is_woken r old new x ≡ false) → is_woken r old new (asleep_if b x) ≡ is_woken r old new x
same_wake r old new true x none = sym (none refl)
same_wake r old new false x none = refl

woken_on : (asleep : ℕ → Bool) (r : ℕ) (old new : Vector) (k : ℕ) (ps : List Continuation) → ((j : ℕ) → asleep (k + j) ≡ true → is_woken r old new (continuation_of ps j) ≡ false)
    → evaluate_each (filter (λ e. is_woken r old new e.1) (enumerate_from k (asleep_from asleep k ps))) ≡ evaluate_each (filter (λ e. is_woken r old new e.1) (enumerate_from k ps))
woken_on asleep r old new k [] none = refl
woken_on asleep r old new k (x ∷ ps) none =
    let here : k + 0 ≡ k = omega arith in
    both_first k (asleep_if (asleep k) x) x (filter (λ e. is_woken r old new e.1) (enumerate_from (k + 1) (asleep_from asleep (k + 1) ps))) (filter (λ e. is_woken r old new e.1) (enumerate_from (k + 1) ps))
    (is_woken r old new (asleep_if (asleep k) x)) (is_woken r old new x) (same_wake r old new (asleep k) x (λ is. none 0 (ap asleep here ∙ is)))
    (woken_on asleep r old new (k + 1) ps
    (λ j is.
    let there : k + suc j ≡ k + 1 + j = omega arith in
    none (suc j) (ap asleep there ∙ is)))

gone : (b : Bool) (x : Continuation) → ◌≡◌ {A = Continuation} (record x { triggers = [] }) (asleep_if true (awake b x))
gone true x = refl
gone false x = refl

wake_if : (r : ℕ) (old new : Vector) (b : Bool) (x : Continuation) → after_wake r old new (asleep_if b x) ≡ asleep_if b (after_wake r old new x)
wake_if r old new true x = gone (is_woken r old new x) x
wake_if r old new false x = refl

wake_on : (asleep : ℕ → Bool) (r : ℕ) (old new : Vector) (k : ℕ) (ps : List Continuation) → map (after_wake r old new) (asleep_from asleep k ps) ≡ asleep_from asleep k (map (after_wake r old new) ps)
wake_on asleep r old new k [] = refl
wake_on asleep r old new k (x ∷ ps) =
    ap (λ y. y ∷ map (after_wake r old new) (asleep_from asleep (k + 1) ps)) (wake_if r old new (asleep k) x)
    ∙ ap (λ ys. asleep_if (asleep k) (after_wake r old new x) ∷ ys) (wake_on asleep r old new (k + 1) ps)

after_at : (r : ℕ) (old new : Vector) (ps : List Continuation) (q : ℕ) → continuation_of (map (after_wake r old new) ps) q ≡ awake (is_woken r old new (continuation_of ps q)) (continuation_of ps q)
after_at r old new [] q = refl
after_at r old new (x ∷ ps) zero = refl
after_at r old new (x ∷ ps) (suc q) = after_at r old new ps q

-- and several

evaluations_same : (sleepers : List ℕ) (cs : List RegisterChange) (ps : List Continuation) → WakeNone sleepers cs ps → evaluations_made cs (asleep_from (contains sleepers) 0 ps) ≡ evaluations_made cs ps
evaluations_same sleepers [] ps none = refl
evaluations_same sleepers (c ∷ cs) ps none =
    let r : ℕ = c.register in
    let both : (q : ℕ) → contains sleepers q ≡ true → (is_woken r c.before c.after (continuation_of ps q) ≡ false) × (wakes_process cs ps q ≡ false) =
    λ q is. neither (is_woken r c.before c.after (continuation_of ps q)) (wakes_process cs ps q) (none q is) in
    let first : woken r c.before c.after (asleep_from (contains sleepers) 0 ps) ≡ woken r c.before c.after ps =
    woken_on (contains sleepers) r c.before c.after 0 ps
    (λ j is.
    let there : j ≡ 0 + j = omega arith in
    (both j (ap (contains sleepers) there ∙ is)).0) in
    let later : WakeNone sleepers cs (map (after_wake r c.before c.after) ps) =
    λ q is.
    ap (λ (x : Continuation). matches_any x.triggers cs) (after_at r c.before c.after ps q ∙ ap (λ b. awake b (continuation_of ps q)) (both q is).0) ∙ (both q is).1 in
    ap (λ actions. actions ++ evaluations_made cs (map (after_wake r c.before c.after) (asleep_from (contains sleepers) 0 ps))) first
    ∙ ap (λ qs. woken r c.before c.after ps ++ evaluations_made cs qs) (wake_on (contains sleepers) r c.before c.after 0 ps)
    ∙ ap (λ actions. woken r c.before c.after ps ++ actions) (evaluations_same sleepers cs (map (after_wake r c.before c.after) ps) later)

same_state : (s : State) (store : Store) (ps qs : List Continuation) (xs ys : List Event) (n m : ℕ) → ps ≡ qs → xs ≡ ys → n ≡ m
    → ◌≡◌ {A = State} (record s { store = store; processes = ps; active = xs; next_event = n }) (record s { store = store; processes = qs; active = ys; next_event = m })
same_state s store ps qs xs ys n m g h i = rw (g, h, i) refl

-- writes that wake no sleeper are made alike
pub changes_asleep : (sleepers : List ℕ) (s : State) (ws : List (ℕ × Vector)) → WakeNone sleepers (changes_made s.store ws) s.processes → change_all (put_to_sleep sleepers s) ws ≡ put_to_sleep sleepers (change_all s ws)
changes_asleep sleepers s ws none =
    let cs : List RegisterChange = changes_made s.store ws in
    let ps : List Continuation = asleep_from (contains sleepers) 0 s.processes in
    let same : evaluations_made cs ps ≡ evaluations_made cs s.processes = evaluations_same sleepers cs s.processes none in
    let along : after_changes (put_to_sleep sleepers s) cs (all_given s.store ws) ≡ put_to_sleep sleepers (after_changes s cs (all_given s.store ws)) =
    same_state s (all_given s.store ws) (map (woken_from cs) ps) (asleep_from (contains sleepers) 0 (map (woken_from cs) s.processes))
    (s.active ++ enumerate_from s.next_event (evaluations_made cs ps)) (s.active ++ enumerate_from s.next_event (evaluations_made cs s.processes))
    (s.next_event + length (evaluations_made cs ps)) (s.next_event + length (evaluations_made cs s.processes))
    (all_woken (contains sleepers) cs s.processes) (ap (λ actions. s.active ++ enumerate_from s.next_event actions) same) (ap (λ actions. s.next_event + length actions) same) in
    change_all_is (put_to_sleep sleepers s) ws ∙ along ∙ ap (put_to_sleep sleepers) (sym (change_all_is s ws))

-- and what a turn makes for later

scheduled_if : (sleepers : List ℕ) (s : State) (later : NonblockingAssignment) (b : Bool)
    → (if b then with_nonblocking (Action.Update later.register later.value ∷ []) (put_to_sleep sleepers s) else with_future_nonblocking later.due (Action.Update later.register later.value) (put_to_sleep sleepers s))
    ≡ put_to_sleep sleepers (if b then with_nonblocking (Action.Update later.register later.value ∷ []) s else with_future_nonblocking later.due (Action.Update later.register later.value) s)
scheduled_if sleepers s later true = refl
scheduled_if sleepers s later false = refl

scheduled_asleep : (sleepers : List ℕ) (s : State) (nbas : List NonblockingAssignment) → schedule_all (put_to_sleep sleepers s) nbas ≡ put_to_sleep sleepers (schedule_all s nbas)
scheduled_asleep sleepers s [] = refl
scheduled_asleep sleepers s (l ∷ ls) =
    ap (λ x. schedule_all x ls) (scheduled_if sleepers s l (l.due == s.time)) ∙ scheduled_asleep sleepers (schedule s l) ls

waits_asleep : (sleepers : List ℕ) (p : ℕ) (wait : Wait) (s : State) → schedule_wait p wait (put_to_sleep sleepers s) ≡ put_to_sleep sleepers (schedule_wait p wait s)
waits_asleep sleepers p Ended s = refl
waits_asleep sleepers p Inactive s = refl
waits_asleep sleepers p (Until time) s = refl
waits_asleep sleepers p (OnChange triggers) s = refl

goes_on_asleep : (sleepers : List ℕ) (p : ℕ) (t : turns.Turn) (s : State) → contains sleepers p ≡ false → with_continuation p t (put_to_sleep sleepers s) ≡ put_to_sleep sleepers (with_continuation p t s)
goes_on_asleep sleepers p t s other =
    ap (λ ps. record s { processes = ps; monitor = s.monitor ++ t.strobes; finished = t.finish }) (set_same (contains sleepers) p (continuation_after t) s.processes other)

-- a turn of a process that is no sleeper, and an update

pub turned_asleep : (sleepers : List ℕ) (s : State) (n p : ℕ) (t : turns.Turn) → contains sleepers p ≡ false → WakeNone sleepers (changes_made s.store t.writes) s.processes
    → turned (put_to_sleep sleepers s) n p t ≡ put_to_sleep sleepers (turned s n p t)
turned_asleep sleepers s n p t other none =
    let x : State = change_all (taking n s) t.writes in
    ap (λ z. with_continuation p t (schedule_wait p t.wait (schedule_all z t.nbas))) (changes_asleep sleepers (taking n s) t.writes none)
    ∙ ap (λ z. with_continuation p t (schedule_wait p t.wait z)) (scheduled_asleep sleepers x t.nbas)
    ∙ ap (λ z. with_continuation p t z) (waits_asleep sleepers p t.wait (schedule_all x t.nbas))
    ∙ goes_on_asleep sleepers p t (schedule_wait p t.wait (schedule_all x t.nbas)) other

pub updated_asleep : (sleepers : List ℕ) (s : State) (n r : ℕ) (v : Vector) → WakeNone sleepers (changes_made s.store ((r, v) ∷ [])) s.processes
    → updated (put_to_sleep sleepers s) n r v ≡ put_to_sleep sleepers (updated s n r v)
updated_asleep sleepers s n r v none = changes_asleep sleepers (taking n s) ((r, v) ∷ []) none

-- an effect, where the sleepers wait for nothing behind it
abbrev pub put_effect_to_sleep : List ℕ → Effect → Effect
put_effect_to_sleep sleepers e = record e { state = put_to_sleep sleepers e.state }

-- each process has the same turn
pub turn_asleep : (design : Design) (sleepers : List ℕ) (s : State) (p : ℕ) → turn_of design (put_to_sleep sleepers s) p ≡ turn_of design s p
turn_asleep design sleepers s p =
    ap (λ x. short_turn design p x s.store s.time)
    (ap (λ (x : Continuation). x.remainder) (asleep_at (contains sleepers) p s.processes) ∙ same_remainder (contains sleepers p) (continuation_of s.processes p))

pub turn_steps_asleep : (class : ℕ → ℕ) (design : Design) (sleepers : List ℕ) (s : State) (n p : ℕ) (t : turns.Turn) → s.finished ≡ false → action_in s.active n ≡ Some (Evaluate p) → turn_of design s p ≡ Some t
    → contains sleepers p ≡ false → WakeNone sleepers (changes_made s.store t.writes) s.processes
    → loose_step class design (put_to_sleep sleepers s) (Entry.Turn n) ≡ Some (put_effect_to_sleep sleepers (turn_effect s n p t))
turn_steps_asleep class design sleepers s n p t going at found other none =
    let step : loose_step class design (put_to_sleep sleepers s) (Entry.Turn n) ≡ Some (turn_effect (put_to_sleep sleepers s) n p t) =
    turn_step design (put_to_sleep sleepers s) n p t going at (turn_asleep design sleepers s p ∙ found) in
    step ∙ ap (λ (z : State). Some (record (turn_effect s n p t) { state = z })) (turned_asleep sleepers s n p t other none)

pub update_steps_asleep : (class : ℕ → ℕ) (design : Design) (sleepers : List ℕ) (s : State) (n r : ℕ) (v : Vector) → s.finished ≡ false → action_in s.active n ≡ Some (Action.Update r v)
    → has_earlier_of_class class (class r) s.active n ≡ false → WakeNone sleepers (changes_made s.store ((r, v) ∷ [])) s.processes
    → loose_step class design (put_to_sleep sleepers s) (Update n) ≡ Some (put_effect_to_sleep sleepers (update_effect s n r v))
update_steps_asleep class design sleepers s n r v going at first none =
    let step : loose_step class design (put_to_sleep sleepers s) (Update n) ≡ Some (update_effect (put_to_sleep sleepers s) n r v) =
    to_loose class design (put_to_sleep sleepers s) (Update n) (update_effect (put_to_sleep sleepers s) n r v) (going, (r, v, at, first, refl)) in
    step ∙ ap (λ (z : State). Some (record (update_effect s n r v) { state = z })) (updated_asleep sleepers s n r v none)

-- a process that writes don't wake is as it was

abbrev pub IsAsItWas : State → ℕ → State → Type 0
IsAsItWas s q f = (continuation_of f.processes q ≡ continuation_of s.processes q) × (evaluations_in q f.active ≡ evaluations_in q s.active)

pub unwoken : (s : State) (ws : List (ℕ × Vector)) (q : ℕ) → wakes_process (changes_made s.store ws) s.processes q ≡ false → IsAsItWas s q (change_all s ws)
unwoken s ws q none =
    let cs : List RegisterChange = changes_made s.store ws in
    let is : change_all s ws ≡ after_changes s cs (all_given s.store ws) = change_all_is s ws in
    let events : evaluations_in q (s.active ++ enumerate_from s.next_event (evaluations_made cs s.processes)) ≡ evaluations_in q s.active + one_where (wakes_process cs s.processes q) =
    evaluations-append q s.active (enumerate_from s.next_event (evaluations_made cs s.processes)) ∙ ap (λ k. evaluations_in q s.active + k) (made_evaluations q s.next_event cs s.processes) in
    let zero_is : one_where (wakes_process cs s.processes q) ≡ 0 = ap one_where none in
    let same : evaluations_in q (s.active ++ enumerate_from s.next_event (evaluations_made cs s.processes)) ≡ evaluations_in q s.active = omega (arith, events, zero_is) in (
      ap (λ (z : State). continuation_of z.processes q) is ∙ from_at cs s.processes q ∙ ap (λ b. awake b (continuation_of s.processes q)) none,
      ap (λ (z : State). evaluations_in q z.active) is ∙ same,
    )
