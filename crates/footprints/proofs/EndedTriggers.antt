-- The triggers that processes wait for, in the states before and after a deed.
use Rattle.std.proofs.Common.{◌≡◌, ℕ, Bool, true, false, ◌&&◌, ◌||◌, List, [], ◌∷◌, ◌++◌, map, Option, Some, None, refl, sym, ap, ◌∙◌, ◌==◌, eq-eqb, eqb-true, true≢false}
use Rattle.std.specs.List.{list_any}
use Rattle.logic4.specs.Edges.{edge}
use Rattle.model.specs.Design.{Trigger}
use Rattle.model.specs.Turns.{contains}
use Rattle.model.specs.States.{Continuation, State, edge_matches, wakes}
use Rattle.orders.proofs.AlikeSteps.{continuation_of}
use Rattle.footprints.specs.Footprints.{RegisterChange, matches_any, woken_by_changes, awaited_by_all}
use Rattle.footprints.proofs.ValueChanges.{or_left, or_right, neither}
use Rattle.footprints.proofs.Waking.{awake, woken_from, wakes_process, asleep, woken_is}
use Rattle.footprints.proofs.Deeds.{Deed, Done, placed, changes_by}
use Rattle.footprints.proofs.Exchange.{NotWoken, StaysAsleep, Differ, from_at, get_other}

-- the process of a deed, if it has one
abbrev pub own_of : Option (ℕ × Continuation) → List ℕ
own_of None = []
own_of (Some own) = own.0 ∷ []

-- processes wait for the same where each of them does

pub same_awaited : (ps qs : List Continuation) (ns : List ℕ) → ((p : ℕ) → contains ns p ≡ true → (continuation_of ps p).triggers ≡ (continuation_of qs p).triggers) → awaited_by_all ps ns ≡ awaited_by_all qs ns
same_awaited ps qs [] h = refl
same_awaited ps qs (n ∷ ns) h =
    let own : (continuation_of ps n).triggers ≡ (continuation_of qs n).triggers = h n (or_left (n == n) (contains ns n) (eq-eqb n n refl)) in
    ap (λ ts. ts ++ awaited_by_all ps ns) own
    ∙ ap (λ ts. (continuation_of qs n).triggers ++ ts) (same_awaited ps qs ns (λ p is. h p (or_right (n == p) (contains ns p) is)))

-- changes that match nothing for which processes wait wake none of them

none_more : (a b : Bool) → a ≡ false → b ≡ false → (a || b) ≡ false
none_more true b is h = cc
none_more false b is h = h

none_of_both : (test : Trigger → Bool) (ts us : List Trigger) → list_any test (ts ++ us) ≡ false → (list_any test ts ≡ false) × (list_any test us ≡ false)
none_of_both test [] us h = (refl, h)
none_of_both test (t ∷ ts) us h =
    let (here, later) = neither (test t) (list_any test (ts ++ us)) h in
    let (first, second) = none_of_both test ts us later in
    (none_more (test t) (list_any test ts) here first, second)

none_matches : (ts us : List Trigger) (cs : List RegisterChange) → matches_any (ts ++ us) cs ≡ false → (matches_any ts cs ≡ false) × (matches_any us cs ≡ false)
none_matches ts us [] h = (refl, refl)
none_matches ts us (c ∷ cs) h =
    let (here, later) = neither (wakes (ts ++ us) c.register c.before c.after) (matches_any (ts ++ us) cs) h in
    let (first, second) = none_of_both (λ t. (t.1 == c.register) && edge_matches t.0 (edge c.before c.after)) ts us here in
    let (firsts, seconds) = none_matches ts us cs later in
    (none_more (wakes ts c.register c.before c.after) (matches_any ts cs) first firsts, none_more (wakes us c.register c.before c.after) (matches_any us cs) second seconds)

asleep_if : (ps : List Continuation) (ns : List ℕ) (cs : List RegisterChange) (n p : ℕ) (b : Bool) → (n == p) ≡ b → (b || contains ns p) ≡ true → wakes_process cs ps n ≡ false
    → (contains ns p ≡ true → wakes_process cs ps p ≡ false) → wakes_process cs ps p ≡ false
asleep_if ps ns cs n p true same is here later = ap (wakes_process cs ps) (sym (eqb-true n p same)) ∙ here
asleep_if ps ns cs n p false same is here later = later is

pub all_stay_asleep : (ps : List Continuation) (ns : List ℕ) (cs : List RegisterChange) (p : ℕ) → matches_any (awaited_by_all ps ns) cs ≡ false → contains ns p ≡ true → wakes_process cs ps p ≡ false
all_stay_asleep ps [] cs p h is = cc
all_stay_asleep ps (n ∷ ns) cs p h is =
    let (here, later) = none_matches (continuation_of ps n).triggers (awaited_by_all ps ns) cs h in
    asleep_if ps ns cs n p (n == p) refl is here (all_stay_asleep ps ns cs p later)

-- and back

none_of_all : (test : Trigger → Bool) (ts us : List Trigger) → list_any test ts ≡ false → list_any test us ≡ false → list_any test (ts ++ us) ≡ false
none_of_all test [] us first second = second
none_of_all test (t ∷ ts) us first second =
    let (here, later) = neither (test t) (list_any test ts) first in
    none_more (test t) (list_any test (ts ++ us)) here (none_of_all test ts us later second)

none_matches_all : (ts us : List Trigger) (cs : List RegisterChange) → matches_any ts cs ≡ false → matches_any us cs ≡ false → matches_any (ts ++ us) cs ≡ false
none_matches_all ts us [] first second = refl
none_matches_all ts us (c ∷ cs) first second =
    let (here, later) = neither (wakes ts c.register c.before c.after) (matches_any ts cs) first in
    let (here', later') = neither (wakes us c.register c.before c.after) (matches_any us cs) second in
    none_more (wakes (ts ++ us) c.register c.before c.after) (matches_any (ts ++ us) cs)
    (none_of_all (λ t. (t.1 == c.register) && edge_matches t.0 (edge c.before c.after)) ts us here here') (none_matches_all ts us cs later later')

pub none_awaited : (ps : List Continuation) (ns : List ℕ) (cs : List RegisterChange) → ((p : ℕ) → contains ns p ≡ true → wakes_process cs ps p ≡ false) → matches_any (awaited_by_all ps ns) cs ≡ false
none_awaited ps [] cs h = asleep cs
none_awaited ps (n ∷ ns) cs h =
    none_matches_all (continuation_of ps n).triggers (awaited_by_all ps ns) cs (h n (or_left (n == n) (contains ns n) (eq-eqb n n refl)))
    (none_awaited ps ns cs (λ p is. h p (or_right (n == p) (contains ns p) is)))

-- a process that a deed neither wakes nor has as its own waits on

pub placed_other : (o : Option (ℕ × Continuation)) (ps : List Continuation) (q : ℕ) (x : Continuation) → Differ o (Some (q, x)) → continuation_of (placed o ps) q ≡ continuation_of ps q
placed_other None ps q x differ = refl
placed_other (Some own) ps q x differ = get_other ps own.0 q own.1 differ

other_kept : (s f : State) (d : Deed) (p : ℕ) (x : Continuation) → Done s d f → Differ d.own (Some (p, x)) → wakes_process (changes_by s d) s.processes p ≡ false
    → (continuation_of f.processes p).triggers ≡ (continuation_of s.processes p).triggers
other_kept s f d p x h differ stays =
    ap (λ ps. (continuation_of ps p).triggers) h.processes
    ∙ ap (λ y. y.triggers) (placed_other d.own (map (woken_from (changes_by s d)) s.processes) p x differ ∙ from_at (changes_by s d) s.processes p)
    ∙ ap (λ b. (awake b (continuation_of s.processes p)).triggers) stays

-- those that the second of two deeds wakes, where the first leaves them

other_own : (cs : List RegisterChange) (ps : List Continuation) (o : Option (ℕ × Continuation)) (p : ℕ) (x : Continuation) → NotWoken cs ps o → wakes_process cs ps p ≡ true → Differ o (Some (p, x))
other_own cs ps None p x none is = tt
other_own cs ps (Some own) p x none is =
    λ same. true≢false (sym is ∙ ap (wakes_process cs ps) (sym same) ∙ none.1)

not_both : (a b : Bool) → (a ≡ true → b ≡ false) → b ≡ true → a ≡ false
not_both true b h is = absurd (true≢false (sym is ∙ h refl))
not_both false b h is = refl

woken_kept : (s f : State) (d : Deed) (cs : List RegisterChange) (p : ℕ) → Done s d f → NotWoken cs s.processes d.own → ((q : ℕ) → wakes_process (changes_by s d) s.processes q ≡ true → wakes_process cs s.processes q ≡ false)
    → contains (woken_by_changes cs s.processes) p ≡ true → (continuation_of f.processes p).triggers ≡ (continuation_of s.processes p).triggers
woken_kept s f d cs p h waits others is =
    let woken : wakes_process cs s.processes p ≡ true = sym (woken_is cs s.processes p) ∙ is in
    other_kept s f d p (continuation_of s.processes p) h (other_own cs s.processes d.own p (continuation_of s.processes p) waits woken)
    (not_both (wakes_process (changes_by s d) s.processes p) (wakes_process cs s.processes p) (others p) woken)

kept_if : (s f : State) (own p : ℕ) (ws : List ℕ) (b : Bool) → (own == p) ≡ b → (b || contains ws p) ≡ true → (continuation_of f.processes own).triggers ≡ (continuation_of s.processes own).triggers
    → (contains ws p ≡ true → (continuation_of f.processes p).triggers ≡ (continuation_of s.processes p).triggers) → (continuation_of f.processes p).triggers ≡ (continuation_of s.processes p).triggers
kept_if s f own p ws true same is here later =
    let one : own ≡ p = eqb-true own p same in
    ap (λ q. (continuation_of f.processes q).triggers) (sym one) ∙ here ∙ ap (λ q. (continuation_of s.processes q).triggers) one
kept_if s f own p ws false same is here later = later is

pub triggers_kept : (s f : State) (d : Deed) (cs : List RegisterChange) (o : Option (ℕ × Continuation)) (p : ℕ) → Done s d f → NotWoken cs s.processes d.own
    → ((q : ℕ) → wakes_process (changes_by s d) s.processes q ≡ true → wakes_process cs s.processes q ≡ false) → StaysAsleep (changes_by s d) s.processes o → Differ d.own o
    → contains (own_of o ++ woken_by_changes cs s.processes) p ≡ true → (continuation_of f.processes p).triggers ≡ (continuation_of s.processes p).triggers
triggers_kept s f d cs None p h waits others stays differ is = woken_kept s f d cs p h waits others is
triggers_kept s f d cs (Some own) p h waits others stays differ is =
    kept_if s f own.0 p (woken_by_changes cs s.processes) (own.0 == p) refl is (other_kept s f d own.0 own.1 h differ stays) (woken_kept s f d cs p h waits others)
