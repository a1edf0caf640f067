-- Events and processes where what is held is left aside.
use Rattle.std.proofs.Common.{◌≡◌, ℕ, zero, suc, ◌+◌, ◌≤◌, Bool, true, false, not, ◌&&◌, ◌||◌, List, [], ◌∷◌, map, length, Some, refl, sym, ap, ◌∙◌, if◌then◌else◌, ◌==◌, nat_lt, arith, eqb-true, true≢false}
use Rattle.std.specs.Prelude.{slice_set, cond}
use Rattle.logic4.specs.Vector.{Vector}
use Rattle.model.specs.Design.{Design}
use Rattle.model.specs.Turns.{short_turn}
use Rattle.model.specs.States.{Action, Evaluate, Event, Continuation, State, without}
use Rattle.model.specs.Runs.{action_in, turn_of}
use Rattle.model.specs.Laws.{evaluates, evaluations_in}
use Rattle.orders.specs.Alike.{EventsRise, IsInOrder, with_update, updates_in}
use Rattle.orders.proofs.AlikeSteps.{continuation_of}
use Rattle.orders.proofs.EventLists.{rises_from, present_from}
use Rattle.loose.specs.Loose.{updates_class, has_earlier_of_class}
use Rattle.footprints.specs.Footprints.{RegisterChange, matches_any}
use Rattle.footprints.proofs.Waking.{awake, woken_from, wakes_process, one_where, asleep}
use Rattle.footprints.proofs.Steps.{some_same}
use Rattle.heldmoves.specs.WithoutHeld.{asleep_if, asleep_from, evaluates_held, others_among, without_held}

-- an event that is found among the others

found_if : (held : ℕ → Bool) (e : Event) (es : List Event) (n : ℕ) (a : Action) (here gone : Bool) → (e.0 == n) ≡ here → evaluates_held held e.1 ≡ gone → (if here then Some e.1 else action_in es n) ≡ Some a
    → evaluates_held held a ≡ false → (action_in es n ≡ Some a → action_in (others_among held es) n ≡ Some a)
    → action_in (cond (not gone) (e ∷ others_among held es) (others_among held es)) n ≡ Some a
found_if held e es n a true true is evaluates h other later =
    absurd (true≢false (sym evaluates ∙ ap (evaluates_held held) (some_same e.1 a h) ∙ other))
found_if held e es n a true false is evaluates h other later = ap (λ b. if b then Some e.1 else action_in (others_among held es) n) is ∙ h
found_if held e es n a false true is evaluates h other later = later h
found_if held e es n a false false is evaluates h other later =
    ap (λ b. if b then Some e.1 else action_in (others_among held es) n) is ∙ later h

pub found_there : (held : ℕ → Bool) (n : ℕ) (a : Action) (es : List Event) → action_in es n ≡ Some a → evaluates_held held a ≡ false → action_in (others_among held es) n ≡ Some a
found_there held n a [] is other = cc
found_there held n a (e ∷ es) is other =
    found_if held e es n a (e.0 == n) (evaluates_held held e.1) refl refl is other (λ there. found_there held n a es there other)

-- and back

abbrev IsOther : (ℕ → Bool) → List Event → ℕ → Action → Type 0
IsOther held es n a = (action_in es n ≡ Some a) × (evaluates_held held a ≡ false)

was_if : (held : ℕ → Bool) (e : Event) (es : List Event) (n to : ℕ) (a : Action) (here gone : Bool) → (e.0 == n) ≡ here → evaluates_held held e.1 ≡ gone → EventsRise (e.0 + 1) es to
    → action_in (cond (not gone) (e ∷ others_among held es) (others_among held es)) n ≡ Some a → (action_in (others_among held es) n ≡ Some a → IsOther held es n a) → IsOther held (e ∷ es) n a
was_if held e es n to a true true is evaluates rises h later =
    let (there, other) = later h in
    absurd (omega (arith, present_from n (e.0 + 1) to a es rises there, eqb-true e.0 n is))
was_if held e es n to a true false is evaluates rises h later =
    let one : Some e.1 ≡ Some a = ap (λ b. if b then Some e.1 else action_in (others_among held es) n) (sym is) ∙ h in
    (ap (λ b. if b then Some e.1 else action_in es n) is ∙ one, ap (evaluates_held held) (sym (some_same e.1 a one)) ∙ evaluates)
was_if held e es n to a false true is evaluates rises h later =
    let (there, other) = later h in
    (ap (λ b. if b then Some e.1 else action_in es n) is ∙ there, other)
was_if held e es n to a false false is evaluates rises h later =
    let (there, other) = later (ap (λ b. if b then Some e.1 else action_in (others_among held es) n) (sym is) ∙ h) in
    (ap (λ b. if b then Some e.1 else action_in es n) is ∙ there, other)

pub was_there : (held : ℕ → Bool) (n from to : ℕ) (a : Action) (es : List Event) → EventsRise from es to → action_in (others_among held es) n ≡ Some a → (action_in es n ≡ Some a) × (evaluates_held held a ≡ false)
was_there held n from to a [] rises is = cc
was_there held n from to a (e ∷ es) rises is =
    was_if held e es n to a (e.0 == n) (evaluates_held held e.1) refl refl rises.1 is (was_there held n (e.0 + 1) to a es rises.1)

-- updates stay

no_update : (class : ℕ → ℕ) (c : ℕ) (held : ℕ → Bool) (a : Action) → evaluates_held held a ≡ true → updates_class class c a ≡ false
no_update class c held (Evaluate p) h = refl
no_update class c held (Action.Update r v) h = absurd (true≢false (sym h))

earlier_if : (class : ℕ → ℕ) (c n : ℕ) (held : ℕ → Bool) (e : Event) (es : List Event) (gone : Bool) → evaluates_held held e.1 ≡ gone → has_earlier_of_class class c (others_among held es) n ≡ has_earlier_of_class class c es n
    → has_earlier_of_class class c (cond (not gone) (e ∷ others_among held es) (others_among held es)) n ≡ ((updates_class class c e.1 && nat_lt e.0 n) || has_earlier_of_class class c es n)
earlier_if class c n held e es true is h =
    h ∙ sym (ap (λ b. (b && nat_lt e.0 n) || has_earlier_of_class class c es n) (no_update class c held e.1 is))
earlier_if class c n held e es false is h = ap (λ b. (updates_class class c e.1 && nat_lt e.0 n) || b) h

pub earlier_same : (class : ℕ → ℕ) (c n : ℕ) (held : ℕ → Bool) (es : List Event) → has_earlier_of_class class c (others_among held es) n ≡ has_earlier_of_class class c es n
earlier_same class c n held [] = refl
earlier_same class c n held (e ∷ es) = earlier_if class c n held e es (evaluates_held held e.1) refl (earlier_same class c n held es)

nothing_more : (held : ℕ → Bool) (a : Action) (us : List (ℕ × Vector)) → evaluates_held held a ≡ true → us ≡ with_update a us
nothing_more held (Evaluate p) us h = refl
nothing_more held (Action.Update r v) us h = absurd (true≢false (sym h))

updates_if : (held : ℕ → Bool) (e : Event) (es : List Event) (gone : Bool) → evaluates_held held e.1 ≡ gone → updates_in (others_among held es) ≡ updates_in es
    → updates_in (cond (not gone) (e ∷ others_among held es) (others_among held es)) ≡ with_update e.1 (updates_in es)
updates_if held e es true is h = h ∙ nothing_more held e.1 (updates_in es) is
updates_if held e es false is h = ap (with_update e.1) h

pub updates_same : (held : ℕ → Bool) (es : List Event) → updates_in (others_among held es) ≡ updates_in es
updates_same held [] = refl
updates_same held (e ∷ es) = updates_if held e es (evaluates_held held e.1) refl (updates_same held es)

-- evaluations

-- a number, and 0 where this holds
abbrev pub unless : Bool → ℕ → ℕ
unless b n = if b then 0 else n

same_held : (held : ℕ → Bool) (q p : ℕ) (b h same : Bool) → (q == p) ≡ same → held q ≡ b → held p ≡ h → (b ≡ h → ⊥) → same ≡ false
same_held held q p b h true is own other differ = absurd (differ (sym own ∙ ap held (eqb-true q p is) ∙ other))
same_held held q p b h false is own other differ = refl

evaluates_other : (held : ℕ → Bool) (a : Action) (p : ℕ) (b h : Bool) → evaluates_held held a ≡ b → held p ≡ h → (b ≡ h → ⊥) → evaluates p a ≡ false
evaluates_other held (Evaluate q) p b h own other differ = same_held held q p b h (q == p) refl own other differ
evaluates_other held (Action.Update r v) p b h own other differ = refl

evaluations_if : (held : ℕ → Bool) (p : ℕ) (e : Event) (es : List Event) (gone h : Bool) → evaluates_held held e.1 ≡ gone → held p ≡ h → evaluations_in p (others_among held es) ≡ unless h (evaluations_in p es)
    → evaluations_in p (cond (not gone) (e ∷ others_among held es) (others_among held es)) ≡ unless h ((if evaluates p e.1 then 1 else 0) + evaluations_in p es)
evaluations_if held p e es true true is own h = h
evaluations_if held p e es true false is own h =
    let none : evaluates p e.1 ≡ false = evaluates_other held e.1 p true false is own true≢false in
    let zero_is : ◌≡◌ {A = ℕ} (if evaluates p e.1 then 1 else 0) 0 = ap one_where none in
    omega (arith, h, zero_is)
evaluations_if held p e es false true is own h =
    let none : evaluates p e.1 ≡ false = evaluates_other held e.1 p false true is own (λ same. true≢false (sym same)) in
    let zero_is : ◌≡◌ {A = ℕ} (if evaluates p e.1 then 1 else 0) 0 = ap one_where none in
    omega (arith, h, zero_is)
evaluations_if held p e es false false is own h = ap (λ k. (if evaluates p e.1 then 1 else 0) + k) h

none_of_none : (b : Bool) → 0 ≡ unless b 0
none_of_none true = refl
none_of_none false = refl

pub evaluations_left : (held : ℕ → Bool) (p : ℕ) (es : List Event) → evaluations_in p (others_among held es) ≡ unless (held p) (evaluations_in p es)
evaluations_left held p [] = none_of_none (held p)
evaluations_left held p (e ∷ es) = evaluations_if held p e es (evaluates_held held e.1) (held p) refl refl (evaluations_left held p es)

-- an event is taken

taken_if : (held : ℕ → Bool) (e : Event) (es : List Event) (n : ℕ) (here gone : Bool) → (e.0 == n) ≡ here → evaluates_held held e.1 ≡ gone → others_among held (without n es) ≡ without n (others_among held es)
    → others_among held (cond (not here) (e ∷ without n es) (without n es)) ≡ without n (cond (not gone) (e ∷ others_among held es) (others_among held es))
taken_if held e es n true true is evaluates h = h
taken_if held e es n true false is evaluates h =
    h ∙ sym (ap (λ b. cond (not b) (e ∷ without n (others_among held es)) (without n (others_among held es))) is)
taken_if held e es n false true is evaluates h =
    ap (λ b. cond (not b) (e ∷ others_among held (without n es)) (others_among held (without n es))) evaluates ∙ h
taken_if held e es n false false is evaluates h =
    ap (λ b. cond (not b) (e ∷ others_among held (without n es)) (others_among held (without n es))) evaluates ∙ ap (λ xs. e ∷ xs) h
    ∙ sym (ap (λ b. cond (not b) (e ∷ without n (others_among held es)) (without n (others_among held es))) is)

pub taken_same : (held : ℕ → Bool) (n : ℕ) (es : List Event) → others_among held (without n es) ≡ without n (others_among held es)
taken_same held n [] = refl
taken_same held n (e ∷ es) = taken_if held e es n (e.0 == n) (evaluates_held held e.1) refl refl (taken_same held n es)

-- numbers still rise

rises_if : (held : ℕ → Bool) (from to : ℕ) (e : Event) (es : List Event) (gone : Bool) → from ≤ e.0 → EventsRise (e.0 + 1) (others_among held es) to
    → EventsRise from (cond (not gone) (e ∷ others_among held es) (others_among held es)) to
rises_if held from to e es true below rest = rises_from (e.0 + 1) from to (others_among held es) (omega (arith, below)) rest
rises_if held from to e es false below rest = (below, rest)

rises_others : (held : ℕ → Bool) (from to : ℕ) (es : List Event) → EventsRise from es to → EventsRise from (others_among held es) to
rises_others held from to [] h = h
rises_others held from to (e ∷ es) h = rises_if held from to e es (evaluates_held held e.1) h.0 (rises_others held (e.0 + 1) to es h.1)

pub in_order_without : (held : ℕ → Bool) (s : State) → IsInOrder s → IsInOrder (without_held held s)
in_order_without held s order =
    record {
      active = rises_others held 0 s.next_event s.active order.active;
      inactive = order.inactive;
      nonblocking = order.nonblocking;
      future_inactive = order.future_inactive;
      future_nonblocking = order.future_nonblocking;
    }

-- processes

nobody_sleeps : (b : Bool) → asleep_if b (record { remainder = []; triggers = [] }) ≡ record { remainder = []; triggers = [] }
nobody_sleeps true = refl
nobody_sleeps false = refl

at_place : (held : ℕ → Bool) (k j p : ℕ) (ps : List Continuation) → k + j ≡ p → continuation_of (asleep_from held k ps) j ≡ asleep_if (held p) (continuation_of ps j)
at_place held k j p [] at = sym (nobody_sleeps (held p))
at_place held k zero p (x ∷ ps) at =
    let same : k ≡ p = omega (arith, at) in
    ap (λ q. asleep_if (held q) x) same
at_place held k (suc j) p (x ∷ ps) at = at_place held (k + 1) j p ps (omega (arith, at))

-- a process as it is where some are held
pub asleep_at : (held : ℕ → Bool) (p : ℕ) (ps : List Continuation) → continuation_of (asleep_from held 0 ps) p ≡ asleep_if (held p) (continuation_of ps p)
asleep_at held p ps = at_place held 0 p p ps (omega arith)

pub same_remainder : (b : Bool) (x : Continuation) → (asleep_if b x).remainder ≡ x.remainder
same_remainder true x = refl
same_remainder false x = refl

pub length_asleep : (held : ℕ → Bool) (k : ℕ) (ps : List Continuation) → length (asleep_from held k ps) ≡ length ps
length_asleep held k [] = refl
length_asleep held k (x ∷ ps) = ap suc (length_asleep held (k + 1) ps)

-- each process has the same turn
pub turn_same : (design : Design) (held : ℕ → Bool) (s : State) (p : ℕ) → turn_of design (without_held held s) p ≡ turn_of design s p
turn_same design held s p =
    ap (λ x. short_turn design p x s.store s.time) (ap (λ (x : Continuation). x.remainder) (asleep_at held p s.processes) ∙ same_remainder (held p) (continuation_of s.processes p))

-- what is woken

abbrev pub unless_held : Bool → Bool → Bool
unless_held held woken = not held && woken

wakes_if : (cs : List RegisterChange) (b : Bool) (x : Continuation) → matches_any (asleep_if b x).triggers cs ≡ unless_held b (matches_any x.triggers cs)
wakes_if cs true x = asleep cs
wakes_if cs false x = refl

pub wakes_left : (held : ℕ → Bool) (cs : List RegisterChange) (ps : List Continuation) (p : ℕ) → wakes_process cs (asleep_from held 0 ps) p ≡ unless_held (held p) (wakes_process cs ps p)
wakes_left held cs ps p =
    ap (λ (x : Continuation). matches_any x.triggers cs) (asleep_at held p ps) ∙ wakes_if cs (held p) (continuation_of ps p)

awake_asleep : (b : Bool) (x : Continuation) → ◌≡◌ {A = Continuation} (record x { triggers = [] }) (asleep_if true (awake b x))
awake_asleep true x = refl
awake_asleep false x = refl

woken_if : (cs : List RegisterChange) (b : Bool) (x : Continuation) → woken_from cs (asleep_if b x) ≡ asleep_if b (woken_from cs x)
woken_if cs true x =
    ap (λ b. awake b (record x { triggers = [] })) (asleep cs) ∙ awake_asleep (matches_any x.triggers cs) x
woken_if cs false x = refl

woken_on : (held : ℕ → Bool) (cs : List RegisterChange) (k : ℕ) (ps : List Continuation) → map (woken_from cs) (asleep_from held k ps) ≡ asleep_from held k (map (woken_from cs) ps)
woken_on held cs k [] = refl
woken_on held cs k (x ∷ ps) =
    ap (λ y. y ∷ map (woken_from cs) (asleep_from held (k + 1) ps)) (woken_if cs (held k) x) ∙ ap (λ ys. asleep_if (held k) (woken_from cs x) ∷ ys) (woken_on held cs (k + 1) ps)

pub all_woken : (held : ℕ → Bool) (cs : List RegisterChange) (ps : List Continuation) → map (woken_from cs) (asleep_from held 0 ps) ≡ asleep_from held 0 (map (woken_from cs) ps)
all_woken held cs ps = woken_on held cs 0 ps

-- a process that isn't held goes on

set_on : (held : ℕ → Bool) (k j p : ℕ) (x : Continuation) (ps : List Continuation) → k + j ≡ p → held p ≡ false → slice_set (asleep_from held k ps) j x ≡ asleep_from held k (slice_set ps j x)
set_on held k j p x [] at other = refl
set_on held k zero p x (y ∷ ps) at other =
    let same : k ≡ p = omega (arith, at) in
    ap (λ b. asleep_if b x ∷ asleep_from held (k + 1) ps) (sym (ap held same ∙ other))
set_on held k (suc j) p x (y ∷ ps) at other = ap (λ ys. asleep_if (held k) y ∷ ys) (set_on held (k + 1) j p x ps (omega (arith, at)) other)

pub set_same : (held : ℕ → Bool) (p : ℕ) (x : Continuation) (ps : List Continuation) → held p ≡ false → slice_set (asleep_from held 0 ps) p x ≡ asleep_from held 0 (slice_set ps p x)
set_same held p x ps other = set_on held 0 p p x ps (omega arith) other

-- where none is held

none_asleep : (held : ℕ → Bool) (k : ℕ) (ps : List Continuation) → ((p : ℕ) → held p ≡ false) → asleep_from held k ps ≡ ps
none_asleep held k [] none = refl
none_asleep held k (x ∷ ps) none = ap (λ b. asleep_if b x ∷ asleep_from held (k + 1) ps) (none k) ∙ ap (λ ys. x ∷ ys) (none_asleep held (k + 1) ps none)

not_held : (held : ℕ → Bool) (a : Action) → ((p : ℕ) → held p ≡ false) → evaluates_held held a ≡ false
not_held held (Evaluate p) none = none p
not_held held (Action.Update r v) none = refl

all_others : (held : ℕ → Bool) (es : List Event) → ((p : ℕ) → held p ≡ false) → others_among held es ≡ es
all_others held [] none = refl
all_others held (e ∷ es) none =
    ap (λ b. cond (not b) (e ∷ others_among held es) (others_among held es)) (not_held held e.1 none) ∙ ap (λ xs. e ∷ xs) (all_others held es none)

pub without_none : (held : ℕ → Bool) (s : State) → ((p : ℕ) → held p ≡ false) → without_held held s ≡ s
without_none held s none =
    ap (λ ps. record s { processes = ps; active = others_among held s.active }) (none_asleep held 0 s.processes none) ∙ ap (λ es. record s { active = es }) (all_others held s.active none)
