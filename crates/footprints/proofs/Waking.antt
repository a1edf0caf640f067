-- What changes do to processes: one that waits for any of them waits no more, and has one active evaluation more.
use Rattle.std.proofs.Common.{◌≡◌, ℕ, zero, suc, ◌+◌, ◌<◌, Bool, true, false, ◌||◌, eq-eqb, List, [], ◌∷◌, ◌++◌, map, length, filter, refl, sym, ap, ◌∙◌, if◌then◌else◌, ◌==◌, arith, append_assoc}
use Rattle.std.specs.Prelude.{slice_set, cond}
use Rattle.std.specs.List.{enumerate_from}
use Rattle.std.proofs.lemmas.Bool.Decides.{eqb_tells}
use Rattle.logic4.specs.Vector.{Vector}
use Rattle.logic4.specs.Operators.{same_vector}
use Rattle.model.specs.Expressions.{Store, value_of}
use Rattle.model.specs.Turns.{contains}
use Rattle.model.specs.States.{Action, Evaluate, Event, Continuation, State, is_woken, woken, after_wake, with_value, change_all}
use Rattle.model.specs.Laws.{evaluations_in}
use Rattle.orders.specs.Alike.{updates_in}
use Rattle.orders.specs.Apart.{all_given}
use Rattle.orders.proofs.EventLists.{updates-append, evaluations-append}
use Rattle.orders.proofs.Stores.{append-none}
use Rattle.orders.proofs.AlikeSteps.{continuation_of}
use Rattle.footprints.specs.Footprints.{RegisterChange, changes_made, matches_any, woken_by_changes}
use Rattle.footprints.proofs.ValueChanges.{made_if}

-- no continuation
abbrev pub nothing : Continuation
nothing = record { remainder = []; triggers = [] }

-- a process that was woken, or wasn't
abbrev pub awake : Bool → Continuation → Continuation
awake b x = if b then record x { triggers = [] } else x

-- a process once changes have been made
abbrev pub woken_from : List RegisterChange → Continuation → Continuation
woken_from cs x = awake (matches_any x.triggers cs) x

-- whether changes wake the process with a number
abbrev pub wakes_process : List RegisterChange → List Continuation → ℕ → Bool
wakes_process cs ps p = matches_any (continuation_of ps p).triggers cs

abbrev pub one_where : Bool → ℕ
one_where b = if b then 1 else 0

-- the evaluations of those that changes wake, in the order in which they come about
abbrev pub evaluations_made : List RegisterChange → List Continuation → List Action
evaluations_made [] ps = []
evaluations_made (c ∷ cs) ps = woken c.register c.before c.after ps ++ evaluations_made cs (map (after_wake c.register c.before c.after) ps)

-- a process that doesn't wait isn't woken
pub asleep : (cs : List RegisterChange) → matches_any [] cs ≡ false
asleep [] = refl
asleep (c ∷ cs) = asleep cs

-- processes

woken_twice : (cs : List RegisterChange) (x : Continuation) (b : Bool) → woken_from cs (awake b x) ≡ awake (b || matches_any x.triggers cs) x
woken_twice cs x true = rw (asleep cs) refl
woken_twice cs x false = refl

all_twice : (c : RegisterChange) (cs : List RegisterChange) (ps : List Continuation)
    → map (woken_from cs) (map (after_wake c.register c.before c.after) ps) ≡ map (woken_from (c ∷ cs)) ps
all_twice c cs [] = refl
all_twice c cs (x ∷ ps) =
    ap (λ y. y ∷ map (woken_from cs) (map (after_wake c.register c.before c.after) ps)) (woken_twice cs x (is_woken c.register c.before c.after x))
    ∙ ap (λ ys. woken_from (c ∷ cs) x ∷ ys) (all_twice c cs ps)

all_asleep : (ps : List Continuation) → map (woken_from []) ps ≡ ps
all_asleep [] = refl
all_asleep (x ∷ ps) = ap (λ ys. x ∷ ys) (all_asleep ps)

-- states

-- what changes make of a state, where they lead to this store
abbrev pub after_changes : State → List RegisterChange → Store → State
after_changes s cs store =
    record s {
      store = store;
      processes = map (woken_from cs) s.processes;
      active = s.active ++ enumerate_from s.next_event (evaluations_made cs s.processes);
      next_event = s.next_event + length (evaluations_made cs s.processes);
    }

pub numbered-append : (k : ℕ) (xs ys : List Action) → enumerate_from k (xs ++ ys) ≡ enumerate_from k xs ++ enumerate_from (k + length xs) ys
numbered-append k [] ys =
    let same : k ≡ k + 0 = omega arith in
    ap (λ j. enumerate_from j ys) same
numbered-append k (x ∷ xs) ys =
    let same : k + 1 + length xs ≡ k + length (x ∷ xs) = omega arith in
    ap (λ es. (k, x) ∷ es) (numbered-append (k + 1) xs ys ∙ ap (λ j. enumerate_from (k + 1) xs ++ enumerate_from j ys) same)

length-both : (xs ys : List Action) → length (xs ++ ys) ≡ length xs + length ys
length-both [] ys = omega arith
length-both (x ∷ xs) ys = omega (arith, length-both xs ys)

no_change : (s : State) → s ≡ after_changes s [] s.store
no_change s =
    let active : s.active ++ [] ≡ s.active = append-none s.active in
    let next : s.next_event + 0 ≡ s.next_event = omega arith in
    rw (all_asleep s.processes, active, next) refl

same_state : (s : State) (store : Store) (ps qs : List Continuation) (xs ys : List Event) (n m : ℕ) → ps ≡ qs → xs ≡ ys → n ≡ m
    → ◌≡◌ {A = State} (record s { store = store; processes = ps; active = xs; next_event = n }) (record s { store = store; processes = qs; active = ys; next_event = m })
same_state s store ps qs xs ys n m g h i = rw (g, h, i) refl

changed_more : (s : State) (w : ℕ × Vector) (cs : List RegisterChange) (store : Store)
    → after_changes (with_value w.0 w.1 s) cs store ≡ after_changes s (record { register = w.0; before = value_of s.store w.0; after = w.1 } ∷ cs) store
changed_more s w cs store =
    let c : RegisterChange = record { register = w.0; before = value_of s.store w.0; after = w.1 } in
    let first : List Action = woken c.register c.before c.after s.processes in
    let more : List Action = evaluations_made cs (map (after_wake c.register c.before c.after) s.processes) in
    same_state s store (map (woken_from cs) (map (after_wake c.register c.before c.after) s.processes)) (map (woken_from (c ∷ cs)) s.processes)
    ((s.active ++ enumerate_from s.next_event first) ++ enumerate_from (s.next_event + length first) more) (s.active ++ enumerate_from s.next_event (first ++ more))
    (s.next_event + length first + length more) (s.next_event + length (first ++ more))
    (all_twice c cs s.processes)
    (append_assoc s.active (enumerate_from s.next_event first) (enumerate_from (s.next_event + length first) more) ∙ ap (λ es. s.active ++ es) (sym (numbered-append s.next_event first more)))
    (omega (arith, length-both first more))

change_all_if : (s : State) (w : ℕ × Vector) (ws : List (ℕ × Vector)) (b : Bool) → change_all s ws ≡ after_changes s (changes_made s.store ws) (all_given s.store ws)
    → change_all (with_value w.0 w.1 s) ws ≡ after_changes (with_value w.0 w.1 s) (changes_made (slice_set s.store w.0 w.1) ws) (all_given (slice_set s.store w.0 w.1) ws)
    → change_all (if b then s else with_value w.0 w.1 s) ws
    ≡ after_changes s (made_if b (value_of s.store w.0) w ++ changes_made (if b then s.store else slice_set s.store w.0 w.1) ws) (all_given (if b then s.store else slice_set s.store w.0 w.1) ws)
change_all_if s w ws true g h = g
change_all_if s w ws false g h = h ∙ changed_more s w (changes_made (slice_set s.store w.0 w.1) ws) (all_given (slice_set s.store w.0 w.1) ws)

-- what writes make of a state
pub change_all_is : (s : State) (ws : List (ℕ × Vector)) → change_all s ws ≡ after_changes s (changes_made s.store ws) (all_given s.store ws)
change_all_is s [] = no_change s
change_all_is s (w ∷ ws) =
    change_all_if s w ws (same_vector (value_of s.store w.0) w.1) (change_all_is s ws) (change_all_is (with_value w.0 w.1 s) ws)

-- the evaluations of one change

abbrev evaluate_each : List (ℕ × Continuation) → List Action
evaluate_each es = map (λ e. Evaluate e.0) es

no_updates : (k : ℕ) (es : List (ℕ × Continuation)) → updates_in (enumerate_from k (evaluate_each es)) ≡ []
no_updates k [] = refl
no_updates k (e ∷ es) = no_updates (k + 1) es

other_first : (p n k : ℕ) (x : Continuation) (es : List (ℕ × Continuation)) (b : Bool) → (k == p) ≡ false
    → ((m : ℕ) → evaluations_in p (enumerate_from m (evaluate_each es)) ≡ 0) → evaluations_in p (enumerate_from n (evaluate_each (cond b ((k, x) ∷ es) es))) ≡ 0
other_first p n k x es true other rest = rw other (omega (arith, rest (n + 1)))
other_first p n k x es false other rest = rest n

before : (p n k r : ℕ) (old new : Vector) (ps : List Continuation) → p < k → evaluations_in p (enumerate_from n (evaluate_each (filter (λ e. is_woken r old new e.1) (enumerate_from k ps)))) ≡ 0
before p n k r old new [] h = refl
before p n k r old new (x ∷ ps) h =
    let other : (k == p) ≡ false = grind (arith, eqb_tells k p, h) in
    other_first p n k x (filter (λ e. is_woken r old new e.1) (enumerate_from (k + 1) ps)) (is_woken r old new x) other (λ m. before p m (k + 1) r old new ps (omega (arith, h)))

same_first : (p n k : ℕ) (x : Continuation) (es : List (ℕ × Continuation)) (b : Bool) → (k == p) ≡ true
    → ((m : ℕ) → evaluations_in p (enumerate_from m (evaluate_each es)) ≡ 0) → evaluations_in p (enumerate_from n (evaluate_each (cond b ((k, x) ∷ es) es))) ≡ one_where b
same_first p n k x es true is rest = rw is (omega (arith, rest (n + 1)))
same_first p n k x es false is rest = rest n

pass_first : (p n k : ℕ) (x : Continuation) (es : List (ℕ × Continuation)) (b woke : Bool) → (k == p) ≡ false
    → ((m : ℕ) → evaluations_in p (enumerate_from m (evaluate_each es)) ≡ one_where woke) → evaluations_in p (enumerate_from n (evaluate_each (cond b ((k, x) ∷ es) es))) ≡ one_where woke
pass_first p n k x es true woke other rest = rw other (omega (arith, rest (n + 1)))
pass_first p n k x es false woke other rest = rest n

woken_at : (p n k j r : ℕ) (old new : Vector) (ps : List Continuation) → k + j ≡ p
    → evaluations_in p (enumerate_from n (evaluate_each (filter (λ e. is_woken r old new e.1) (enumerate_from k ps)))) ≡ one_where (is_woken r old new (continuation_of ps j))
woken_at p n k j r old new [] at = refl
woken_at p n k zero r old new (x ∷ ps) at =
    let same : k ≡ p = omega (arith, at) in
    same_first p n k x (filter (λ e. is_woken r old new e.1) (enumerate_from (k + 1) ps)) (is_woken r old new x) (eq-eqb k p same)
    (λ m. before p m (k + 1) r old new ps (omega (arith, same)))
woken_at p n k (suc j) r old new (x ∷ ps) at =
    let other : (k == p) ≡ false = grind (arith, eqb_tells k p, at) in
    pass_first p n k x (filter (λ e. is_woken r old new e.1) (enumerate_from (k + 1) ps)) (is_woken r old new x) (is_woken r old new (continuation_of ps j)) other
    (λ m. woken_at p m (k + 1) j r old new ps (omega (arith, at)))

after_at : (r : ℕ) (old new : Vector) (ps : List Continuation) (p : ℕ) → continuation_of (map (after_wake r old new) ps) p ≡ after_wake r old new (continuation_of ps p)
after_at r old new [] p = refl
after_at r old new (x ∷ ps) zero = refl
after_at r old new (x ∷ ps) (suc p) = after_at r old new ps p

-- the evaluations of all

once : (cs : List RegisterChange) (x : Continuation) (b : Bool) → one_where b + one_where (matches_any (awake b x).triggers cs) ≡ one_where (b || matches_any x.triggers cs)
once cs x true = rw (asleep cs) refl
once cs x false = omega arith

-- each process that changes wake has one evaluation
pub made_evaluations : (p n : ℕ) (cs : List RegisterChange) (ps : List Continuation) → evaluations_in p (enumerate_from n (evaluations_made cs ps)) ≡ one_where (wakes_process cs ps p)
made_evaluations p n [] ps = refl
made_evaluations p n (c ∷ cs) ps =
    let first : List Action = woken c.register c.before c.after ps in
    let left : List Continuation = map (after_wake c.register c.before c.after) ps in
    let more : List Action = evaluations_made cs left in
    let woke : Bool = is_woken c.register c.before c.after (continuation_of ps p) in
    let here : evaluations_in p (enumerate_from n first) ≡ one_where woke = woken_at p n 0 p c.register c.before c.after ps (omega arith) in
    let later : evaluations_in p (enumerate_from (n + length first) more) ≡ one_where (matches_any (awake woke (continuation_of ps p)).triggers cs) =
    made_evaluations p (n + length first) cs left ∙ ap (λ x. one_where (matches_any x.triggers cs)) (after_at c.register c.before c.after ps p) in
    ap (evaluations_in p) (numbered-append n first more) ∙ evaluations-append p (enumerate_from n first) (enumerate_from (n + length first) more)
    ∙ ap (λ k. k + evaluations_in p (enumerate_from (n + length first) more)) here ∙ ap (λ k. one_where woke + k) later ∙ once cs (continuation_of ps p) woke

-- and no update is made
pub made_updates : (n : ℕ) (cs : List RegisterChange) (ps : List Continuation) → updates_in (enumerate_from n (evaluations_made cs ps)) ≡ []
made_updates n [] ps = refl
made_updates n (c ∷ cs) ps =
    let first : List Action = woken c.register c.before c.after ps in
    let left : List Continuation = map (after_wake c.register c.before c.after) ps in
    let more : List Action = evaluations_made cs left in
    ap updates_in (numbered-append n first more) ∙ updates-append (enumerate_from n first) (enumerate_from (n + length first) more)
    ∙ ap (λ us. us ++ updates_in (enumerate_from (n + length first) more)) (no_updates n (filter (λ e. is_woken c.register c.before c.after e.1) (enumerate_from 0 ps)))
    ∙ made_updates (n + length first) cs left

-- the processes that changes wake, as a list

abbrev numbers : List (ℕ × Continuation) → List ℕ
numbers es = map (λ e. e.0) es

-- those from a number on
abbrev woken_on : List RegisterChange → ℕ → List Continuation → List ℕ
woken_on cs k ps = numbers (filter (λ e. matches_any e.1.triggers cs) (enumerate_from k ps))

not_first : (k p : ℕ) (x : Continuation) (es : List (ℕ × Continuation)) (b c : Bool) → (k == p) ≡ false → contains (numbers es) p ≡ c → contains (numbers (cond b ((k, x) ∷ es) es)) p ≡ c
not_first k p x es true c other rest = rw other rest
not_first k p x es false c other rest = rest

is_first : (k p : ℕ) (x : Continuation) (es : List (ℕ × Continuation)) (b : Bool) → (k == p) ≡ true → contains (numbers es) p ≡ false → contains (numbers (cond b ((k, x) ∷ es) es)) p ≡ b
is_first k p x es true same rest = rw same refl
is_first k p x es false same rest = rest

not_before : (cs : List RegisterChange) (p k : ℕ) (ps : List Continuation) → p < k → contains (woken_on cs k ps) p ≡ false
not_before cs p k [] h = refl
not_before cs p k (x ∷ ps) h =
    let other : (k == p) ≡ false = grind (arith, eqb_tells k p, h) in
    not_first k p x (filter (λ e. matches_any e.1.triggers cs) (enumerate_from (k + 1) ps)) (matches_any x.triggers cs) false other (not_before cs p (k + 1) ps (omega (arith, h)))

woken_there : (cs : List RegisterChange) (p k j : ℕ) (ps : List Continuation) → k + j ≡ p → contains (woken_on cs k ps) p ≡ wakes_process cs ps j
woken_there cs p k j [] at = sym (asleep cs)
woken_there cs p k zero (x ∷ ps) at =
    let same : k ≡ p = omega (arith, at) in
    is_first k p x (filter (λ e. matches_any e.1.triggers cs) (enumerate_from (k + 1) ps)) (matches_any x.triggers cs) (eq-eqb k p same) (not_before cs p (k + 1) ps (omega (arith, same)))
woken_there cs p k (suc j) (x ∷ ps) at =
    let other : (k == p) ≡ false = grind (arith, eqb_tells k p, at) in
    not_first k p x (filter (λ e. matches_any e.1.triggers cs) (enumerate_from (k + 1) ps)) (matches_any x.triggers cs) (wakes_process cs ps j) other (woken_there cs p (k + 1) j ps (omega (arith, at)))

-- a process is among them exactly where they wake it
pub woken_is : (cs : List RegisterChange) (ps : List Continuation) (p : ℕ) → contains (woken_by_changes cs ps) p ≡ wakes_process cs ps p
woken_is cs ps p = woken_there cs p 0 p ps (omega arith)

both_first : (k : ℕ) (x y : Continuation) (es fs : List (ℕ × Continuation)) (b c : Bool) → b ≡ c → numbers es ≡ numbers fs → numbers (cond b ((k, x) ∷ es) es) ≡ numbers (cond c ((k, y) ∷ fs) fs)
both_first k x y es fs true true same h = ap (λ ns. k ∷ ns) h
both_first k x y es fs false false same h = h
both_first k x y es fs true false same h = cc
both_first k x y es fs false true same h = cc

same_on : (cs : List RegisterChange) (k : ℕ) (ps qs : List Continuation) → length ps ≡ length qs → ((p : ℕ) → wakes_process cs ps p ≡ wakes_process cs qs p) → woken_on cs k ps ≡ woken_on cs k qs
same_on cs k [] [] len h = refl
same_on cs k [] (y ∷ qs) len h = cc
same_on cs k (x ∷ ps) [] len h = cc
same_on cs k (x ∷ ps) (y ∷ qs) len h =
    both_first k x y (filter (λ e. matches_any e.1.triggers cs) (enumerate_from (k + 1) ps)) (filter (λ e. matches_any e.1.triggers cs) (enumerate_from (k + 1) qs))
    (matches_any x.triggers cs) (matches_any y.triggers cs) (h 0) (same_on cs (k + 1) ps qs (omega (arith, len)) (λ p. h (suc p)))

-- changes wake the same of processes that are as many, and of which each is woken in both or in neither
pub same_woken : (cs : List RegisterChange) (ps qs : List Continuation) → length ps ≡ length qs → ((p : ℕ) → wakes_process cs ps p ≡ wakes_process cs qs p) → woken_by_changes cs ps ≡ woken_by_changes cs qs
same_woken cs ps qs len h = same_on cs 0 ps qs len h
