-- Two deeds that keep off each other lead in either order to states that are alike but for the order of updates of different classes.
use Rattle.std.proofs.Common.{◌≡◌, ◌≢◌, ℕ, zero, suc, ◌+◌, ◌<◌, Bool, true, false, not, ◌||◌, List, [], ◌∷◌, ◌++◌, map, length, Option, Some, None, refl, sym, ap, ◌∙◌, if◌then◌else◌, ◌==◌, nat_le, arith, eq-eqb, eqb-true, true≢false}
use Rattle.std.specs.Prelude.{slice_set, cond}
use Rattle.std.specs.List.{enumerate_from}
use Rattle.std.proofs.lemmas.Bool.Decides.{leb_tells}
use Rattle.std.proofs.lemmas.List.Elements.{filter-append}
use Rattle.logic4.specs.Vector.{Vector}
use Rattle.model.specs.Expressions.{Store, value_of}
use Rattle.model.specs.Turns.{Wait, Ended, Inactive, Until, OnChange, NonblockingAssignment, contains}
use Rattle.model.specs.States.{Action, Event, Continuation, State, without, due_at}
use Rattle.model.specs.Laws.{evaluations_in}
use Rattle.orders.specs.Alike.{times, updates_in}
use Rattle.orders.specs.Apart.{AgreeOn, of_register, all_given, NotBoth, updates_for}
use Rattle.orders.proofs.EventLists.{updates-append, evaluations-append, absent, rises-numbered}
use Rattle.orders.proofs.FutureLists.{with_time}
use Rattle.orders.proofs.Stores.{append-none, length_all, all_given-append, all_other, stores_same}
use Rattle.orders.proofs.Scheduling.{later_updates, later_times, waits_now, waits_at, wait_times}
use Rattle.orders.proofs.Commuting.{apart_commute, swap_last, register-append, without_both}
use Rattle.orders.proofs.AlikeSteps.{continuation_of}
use Rattle.loose.specs.Loose.{of_class, AlikeIn}
use Rattle.footprints.specs.Footprints.{RegisterChange, matches_any}
use Rattle.footprints.proofs.ValueChanges.{neither, same_changes}
use Rattle.footprints.proofs.Waking.{nothing, awake, woken_from, wakes_process, one_where, evaluations_made, asleep, made_evaluations, made_updates}
use Rattle.footprints.proofs.Deeds.{Deed, Done, placed, changes_by}

-- changes wake neither a process nor what it is after its turn
abbrev pub NotWoken : List RegisterChange → List Continuation → Option (ℕ × Continuation) → Type 0
NotWoken cs ps None = Unit {0}
NotWoken cs ps (Some own) = (matches_any own.1.triggers cs ≡ false) × (wakes_process cs ps own.0 ≡ false)

-- changes don't wake the process of a deed, if it has one, as it is before it
abbrev pub StaysAsleep : List RegisterChange → List Continuation → Option (ℕ × Continuation) → Type 0
StaysAsleep cs ps None = Unit {0}
StaysAsleep cs ps (Some own) = wakes_process cs ps own.0 ≡ false

-- the processes of two deeds differ, if both have one
abbrev pub Differ : Option (ℕ × Continuation) → Option (ℕ × Continuation) → Type 0
Differ None other = Unit {0}
Differ (Some own) None = Unit {0}
Differ (Some own) (Some other) = own.0 ≢ other.0

-- the registers that writes are of
abbrev pub registers_of_writes : List (ℕ × Vector) → List ℕ
registers_of_writes ws = map (λ (w : ℕ × Vector). w.0) ws

-- The first of two deeds leaves the second one's changes and whom they wake: it writes no register that the second writes, and wakes no
-- process that the second wakes, nor the second one's own; and the second doesn't wake the first one's own process, before or after it.
abbrev pub Leaves : State → Deed → Deed → Type 0
Leaves s d e =
    record {
      writes : (r : ℕ) → contains (registers_of_writes e.writes) r ≡ true → contains (registers_of_writes d.writes) r ≡ false;
      wakes : (p : ℕ) → wakes_process (changes_by s d) s.processes p ≡ true → wakes_process (changes_by s e) s.processes p ≡ false;
      waits : NotWoken (changes_by s e) s.processes d.own;
      own : StaysAsleep (changes_by s d) s.processes e.own;
    }

-- the second deed's changes, after the first

-- where none of the registers that the second writes is written by the first
pub changes_kept : (s f : State) (d e : Deed) → Done s d f → ((r : ℕ) → contains (registers_of_writes e.writes) r ≡ true → contains (registers_of_writes d.writes) r ≡ false) → changes_by f e ≡ changes_by s e
changes_kept s f d e h apart =
    let len : length s.store ≡ length f.store = sym (ap length h.store ∙ length_all s.store d.writes) in
    let agree : AgreeOn (registers_of_writes e.writes) s.store f.store = λ r is. sym (ap (λ a. value_of a r) h.store ∙ all_other s.store d.writes r (apart r is)) in
    sym (same_changes s.store f.store e.writes len agree)

pub changes_stay : (s f : State) (d e : Deed) → Done s d f → Leaves s d e → changes_by f e ≡ changes_by s e
changes_stay s f d e h off = changes_kept s f d e h off.writes

nothing_if : (b : Bool) → awake b nothing ≡ nothing
nothing_if true = refl
nothing_if false = refl

pub from_at : (cs : List RegisterChange) (ps : List Continuation) (p : ℕ) → continuation_of (map (woken_from cs) ps) p ≡ woken_from cs (continuation_of ps p)
from_at cs [] p = sym (nothing_if (matches_any [] cs))
from_at cs (x ∷ ps) zero = refl
from_at cs (x ∷ ps) (suc p) = from_at cs ps p

woken_if : (cs : List RegisterChange) (x : Continuation) (b : Bool) → (b ≡ true → matches_any x.triggers cs ≡ false) → matches_any (awake b x).triggers cs ≡ matches_any x.triggers cs
woken_if cs x true h = asleep cs ∙ sym (h refl)
woken_if cs x false h = refl

all_stay : (cs ds : List RegisterChange) (ps : List Continuation) (p : ℕ) → (wakes_process ds ps p ≡ true → wakes_process cs ps p ≡ false) → wakes_process cs (map (woken_from ds) ps) p ≡ wakes_process cs ps p
all_stay cs ds ps p h =
    ap (λ x. matches_any x.triggers cs) (from_at ds ps p) ∙ woken_if cs (continuation_of ps p) (wakes_process ds ps p) h

-- one process goes on

pub set_both : (ps : List Continuation) (p q : ℕ) (x y : Continuation) → p ≢ q → slice_set (slice_set ps p x) q y ≡ slice_set (slice_set ps q y) p x
set_both [] p q x y h = refl
set_both (z ∷ ps) zero zero x y h = absurd (h refl)
set_both (z ∷ ps) zero (suc q) x y h = refl
set_both (z ∷ ps) (suc p) zero x y h = refl
set_both (z ∷ ps) (suc p) (suc q) x y h = ap (λ xs. z ∷ xs) (set_both ps p q x y (λ same. h (ap suc same)))

pub get_other : (ps : List Continuation) (p q : ℕ) (x : Continuation) → p ≢ q → continuation_of (slice_set ps p x) q ≡ continuation_of ps q
get_other [] p q x h = refl
get_other (z ∷ ps) zero zero x h = absurd (h refl)
get_other (z ∷ ps) zero (suc q) x h = refl
get_other (z ∷ ps) (suc p) zero x h = refl
get_other (z ∷ ps) (suc p) (suc q) x h = get_other ps p q x (λ same. h (ap suc same))

set_at : (cs : List RegisterChange) (ps : List Continuation) (p : ℕ) (x : Continuation) → matches_any x.triggers cs ≡ false → wakes_process cs ps p ≡ false → wakes_process cs (slice_set ps p x) p ≡ false
set_at cs [] p x h g = g
set_at cs (y ∷ ps) zero x h g = h
set_at cs (y ∷ ps) (suc p) x h g = set_at cs ps p x h g

pub differs : (p q : ℕ) → (p == q) ≡ false → p ≢ q
differs p q other same = true≢false (sym (eq-eqb p q same) ∙ other)

set_stays : (cs : List RegisterChange) (ps qs : List Continuation) (own : ℕ × Continuation) (p : ℕ) (b : Bool) → (own.0 == p) ≡ b → matches_any own.1.triggers cs ≡ false → wakes_process cs ps own.0 ≡ false
    → wakes_process cs qs own.0 ≡ wakes_process cs ps own.0 → wakes_process cs qs p ≡ wakes_process cs ps p → wakes_process cs (slice_set qs own.0 own.1) p ≡ wakes_process cs ps p
set_stays cs ps qs own p true is new old own_same same =
    let one : own.0 ≡ p = eqb-true own.0 p is in
    rw (← one) (set_at cs qs own.0 own.1 new (own_same ∙ old) ∙ sym old)
set_stays cs ps qs own p false is new old own_same same =
    ap (λ x. matches_any x.triggers cs) (get_other qs own.0 p own.1 (differs own.0 p is)) ∙ same

placed_stays : (cs : List RegisterChange) (ps qs : List Continuation) (o : Option (ℕ × Continuation)) (p : ℕ) → NotWoken cs ps o → ((p : ℕ) → wakes_process cs qs p ≡ wakes_process cs ps p)
    → wakes_process cs (placed o qs) p ≡ wakes_process cs ps p
placed_stays cs ps qs None p none same = same p
placed_stays cs ps qs (Some own) p none same = set_stays cs ps qs own p (own.0 == p) refl none.0 none.1 (same own.0) (same p)

pub wakes_stay : (s f : State) (d e : Deed) (p : ℕ) → Done s d f → Leaves s d e → wakes_process (changes_by s e) f.processes p ≡ wakes_process (changes_by s e) s.processes p
wakes_stay s f d e p h off =
    ap (λ ps. wakes_process (changes_by s e) ps p) h.processes
    ∙ placed_stays (changes_by s e) s.processes (map (woken_from (changes_by s d)) s.processes) d.own p off.waits (λ q. all_stay (changes_by s e) (changes_by s d) s.processes q (off.wakes q))

-- both deeds, one after the other

abbrev pub Both : State → Deed → Deed → State → Type 0
Both s d e f =
    record {
      time : f.time ≡ s.time;
      store : f.store ≡ all_given (all_given s.store d.writes) e.writes;
      processes : f.processes ≡ placed e.own (map (woken_from (changes_by s e)) (placed d.own (map (woken_from (changes_by s d)) s.processes)));
      active_updates : updates_in f.active ≡ updates_in (without e.number (without d.number s.active));
      active : (o : ℕ) → evaluations_in o f.active ≡ evaluations_in o (without e.number (without d.number s.active)) + one_where (wakes_process (changes_by s d) s.processes o) + one_where (wakes_process (changes_by s e) s.processes o);
      inactive_updates : updates_in f.inactive ≡ updates_in s.inactive;
      inactive : (o : ℕ) → evaluations_in o f.inactive ≡ evaluations_in o s.inactive + waits_now o d.process d.wait + waits_now o e.process e.wait;
      updates : updates_in f.nonblocking ≡ (updates_in s.nonblocking ++ updates_for s.time d.nbas) ++ updates_for s.time e.nbas;
      evaluations : (o : ℕ) → evaluations_in o f.nonblocking ≡ evaluations_in o s.nonblocking;
      monitor : f.monitor ≡ (s.monitor ++ d.strobes) ++ e.strobes;
      waits_times : times f.future_inactive ≡ wait_times e.wait (wait_times d.wait (times s.future_inactive));
      waits_updates : (time : ℕ) → updates_in (due_at time f.future_inactive) ≡ updates_in (due_at time s.future_inactive);
      waits : (time o : ℕ) → evaluations_in o (due_at time f.future_inactive) ≡ evaluations_in o (due_at time s.future_inactive) + waits_at time o d.process d.wait + waits_at time o e.process e.wait;
      nbas_times : times f.future_nonblocking ≡ later_times s.time e.nbas (later_times s.time d.nbas (times s.future_nonblocking));
      nbas_updates : (time : ℕ) → updates_in (due_at time f.future_nonblocking) ≡ (updates_in (due_at time s.future_nonblocking) ++ later_updates s.time time d.nbas) ++ later_updates s.time time e.nbas;
      nbas_evaluations : (time o : ℕ) → evaluations_in o (due_at time f.future_nonblocking) ≡ evaluations_in o (due_at time s.future_nonblocking);
      finished : f.finished ≡ e.finish;
    }

without-append : (m : ℕ) (xs ys : List Event) → without m (xs ++ ys) ≡ without m xs ++ without m ys
without-append m xs ys = filter-append (λ e. not (e.0 == m)) xs ys

-- new events stay where an older one is taken
new_stay : (m k : ℕ) (xs : List Event) (actions : List Action) → m < k → without m (xs ++ enumerate_from k actions) ≡ without m xs ++ enumerate_from k actions
new_stay m k xs actions less =
    without-append m xs (enumerate_from k actions) ∙ ap (λ es. without m xs ++ es) (absent m k (k + length actions) (enumerate_from k actions) (rises-numbered k actions) less)

-- the active events, without those that were made

made_apart : (xs : List Event) (k : ℕ) (cs : List RegisterChange) (ps : List Continuation) → updates_in (xs ++ enumerate_from k (evaluations_made cs ps)) ≡ updates_in xs
made_apart xs k cs ps =
    updates-append xs (enumerate_from k (evaluations_made cs ps)) ∙ ap (λ us. updates_in xs ++ us) (made_updates k cs ps) ∙ append-none (updates_in xs)

made_more : (o : ℕ) (xs : List Event) (k : ℕ) (cs : List RegisterChange) (ps : List Continuation) → evaluations_in o (xs ++ enumerate_from k (evaluations_made cs ps)) ≡ evaluations_in o xs + one_where (wakes_process cs ps o)
made_more o xs k cs ps =
    evaluations-append o xs (enumerate_from k (evaluations_made cs ps)) ∙ ap (λ n. evaluations_in o xs + n) (made_evaluations o k cs ps)

pub both_are : (s f g : State) (d e : Deed) → Done s d f → Done f e g → Leaves s d e → e.number < s.next_event → Both s d e g
both_are s f g d e h i off less =
    let left : List Event = without e.number (without d.number s.active) in
    let taken : without e.number f.active ≡ left ++ enumerate_from s.next_event (evaluations_made (changes_by s d) s.processes) =
    ap (without e.number) h.active ∙ new_stay e.number s.next_event (without d.number s.active) (evaluations_made (changes_by s d) s.processes) less in
    record {
      time = i.time ∙ h.time;
      store = i.store ∙ ap (λ x. all_given x e.writes) h.store;
      processes = i.processes ∙ ap (λ cs. placed e.own (map (woken_from cs) f.processes)) (changes_stay s f d e h off) ∙ ap (λ ps. placed e.own (map (woken_from (changes_by s e)) ps)) h.processes;
      active_updates = ap updates_in i.active ∙ made_apart (without e.number f.active) f.next_event (changes_by f e) f.processes ∙ ap updates_in taken
          ∙ made_apart left s.next_event (changes_by s d) s.processes;
      active = λ o. ap (evaluations_in o) i.active ∙ made_more o (without e.number f.active) f.next_event (changes_by f e) f.processes
          ∙ ap (λ es. evaluations_in o es + one_where (wakes_process (changes_by f e) f.processes o)) taken
          ∙ ap (λ n. n + one_where (wakes_process (changes_by f e) f.processes o)) (made_more o left s.next_event (changes_by s d) s.processes)
          ∙ ap (λ b. evaluations_in o left + one_where (wakes_process (changes_by s d) s.processes o) + one_where b) (ap (λ cs. wakes_process cs f.processes o) (changes_stay s f d e h off) ∙ wakes_stay s f d e o h off);
      inactive_updates = i.inactive_updates ∙ h.inactive_updates;
      inactive = λ o. i.inactive o ∙ ap (λ k. k + waits_now o e.process e.wait) (h.inactive o);
      updates = i.updates ∙ ap (λ us. us ++ updates_for f.time e.nbas) h.updates ∙ ap (λ c. (updates_in s.nonblocking ++ updates_for s.time d.nbas) ++ updates_for c e.nbas) h.time;
      evaluations = λ o. i.evaluations o ∙ h.evaluations o;
      monitor = i.monitor ∙ ap (λ ms. ms ++ e.strobes) h.monitor;
      waits_times = i.waits_times ∙ ap (wait_times e.wait) h.waits_times;
      waits_updates = λ c. i.waits_updates c ∙ h.waits_updates c;
      waits = λ c o. i.waits c o ∙ ap (λ k. k + waits_at c o e.process e.wait) (h.waits c o);
      nbas_times = i.nbas_times ∙ ap (later_times f.time e.nbas) h.nbas_times ∙ ap (λ c. later_times c e.nbas (later_times s.time d.nbas (times s.future_nonblocking))) h.time;
      nbas_updates = λ c. i.nbas_updates c ∙ ap (λ us. us ++ later_updates f.time c e.nbas) (h.nbas_updates c)
          ∙ ap (λ t. (updates_in (due_at c s.future_nonblocking) ++ later_updates s.time c d.nbas) ++ later_updates t c e.nbas) h.time;
      nbas_evaluations = λ c o. i.nbas_evaluations c o ∙ h.nbas_evaluations c o;
      finished = i.finished;
    }

-- processes, in either order

map_set : (cs : List RegisterChange) (ps : List Continuation) (p : ℕ) (x : Continuation) → map (woken_from cs) (slice_set ps p x) ≡ slice_set (map (woken_from cs) ps) p (woken_from cs x)
map_set cs [] p x = refl
map_set cs (y ∷ ps) zero x = refl
map_set cs (y ∷ ps) (suc p) x = ap (λ ys. woken_from cs y ∷ ys) (map_set cs ps p x)

map_placed : (cs : List RegisterChange) (ps qs : List Continuation) (o : Option (ℕ × Continuation)) → NotWoken cs qs o → map (woken_from cs) (placed o ps) ≡ placed o (map (woken_from cs) ps)
map_placed cs ps qs None none = refl
map_placed cs ps qs (Some own) none =
    map_set cs ps own.0 own.1 ∙ ap (λ b. slice_set (map (woken_from cs) ps) own.0 (awake b own.1)) none.0

placed_swap : (o q : Option (ℕ × Continuation)) (ps : List Continuation) → Differ o q → placed q (placed o ps) ≡ placed o (placed q ps)
placed_swap None q ps differ = refl
placed_swap (Some own) None ps differ = refl
placed_swap (Some own) (Some other) ps differ = set_both ps own.0 other.0 own.1 other.1 differ

twice : (cs ds : List RegisterChange) (x : Continuation) (b c : Bool) → matches_any x.triggers ds ≡ b → matches_any x.triggers cs ≡ c → woken_from cs (awake b x) ≡ woken_from ds (awake c x)
twice cs ds x true true g h = rw (asleep cs, asleep ds) refl
twice cs ds x true false g h = rw (asleep cs, g) refl
twice cs ds x false true g h = rw (asleep ds, h) refl
twice cs ds x false false g h = rw (g, h) refl

all_swap : (cs ds : List RegisterChange) (ps : List Continuation) → map (woken_from cs) (map (woken_from ds) ps) ≡ map (woken_from ds) (map (woken_from cs) ps)
all_swap cs ds [] = refl
all_swap cs ds (x ∷ ps) =
    ap (λ y. y ∷ map (woken_from cs) (map (woken_from ds) ps)) (twice cs ds x (matches_any x.triggers ds) (matches_any x.triggers cs) refl refl)
    ∙ ap (λ ys. woken_from ds (woken_from cs x) ∷ ys) (all_swap cs ds ps)

processes_swap : (cs ds : List RegisterChange) (ps : List Continuation) (o q : Option (ℕ × Continuation)) → Differ o q → NotWoken cs ps o → NotWoken ds ps q
    → placed q (map (woken_from cs) (placed o (map (woken_from ds) ps))) ≡ placed o (map (woken_from ds) (placed q (map (woken_from cs) ps)))
processes_swap cs ds ps o q differ none none' =
    ap (placed q) (map_placed cs (map (woken_from ds) ps) ps o none) ∙ placed_swap o q (map (woken_from cs) (map (woken_from ds) ps)) differ
    ∙ ap (λ xs. placed o (placed q xs)) (all_swap cs ds ps) ∙ ap (placed o) (sym (map_placed ds (map (woken_from cs) ps) ps q none'))

-- stores, in either order

none_of_first : (w : ℕ × Vector) (ws us : List (ℕ × Vector)) (a b : Bool) → (a || b) ≡ false → us ≡ [] → cond a (w ∷ us) us ≡ []
none_of_first w ws us true b h none = cc
none_of_first w ws us false b h none = none

none_of_register : (ws : List (ℕ × Vector)) (r : ℕ) → contains (registers_of_writes ws) r ≡ false → of_register r ws ≡ []
none_of_register [] r h = refl
none_of_register (w ∷ ws) r h =
    none_of_first w ws (of_register r ws) (w.0 == r) (contains (registers_of_writes ws) r) h (none_of_register ws r (neither (w.0 == r) (contains (registers_of_writes ws) r) h).1)

writes_swap : (ws vs : List (ℕ × Vector)) (r : ℕ) (b : Bool) → contains (registers_of_writes vs) r ≡ b → ((r : ℕ) → contains (registers_of_writes vs) r ≡ true → contains (registers_of_writes ws) r ≡ false)
    → of_register r ws ++ of_register r vs ≡ of_register r vs ++ of_register r ws
writes_swap ws vs r true is apart = rw (none_of_register ws r (apart r is)) (sym (append-none (of_register r vs)))
writes_swap ws vs r false is apart = rw (none_of_register vs r is) (append-none (of_register r ws))

stores_swap : (store : Store) (ws vs : List (ℕ × Vector)) → ((r : ℕ) → contains (registers_of_writes vs) r ≡ true → contains (registers_of_writes ws) r ≡ false)
    → all_given (all_given store ws) vs ≡ all_given (all_given store vs) ws
stores_swap store ws vs apart =
    sym (all_given-append store ws vs)
    ∙ stores_same store (ws ++ vs) (vs ++ ws) (λ r. register-append r ws vs ∙ writes_swap ws vs r (contains (registers_of_writes vs) r) refl apart ∙ sym (register-append r vs ws))
    ∙ all_given-append store vs ws

-- times, in either order

times_two : (t u v : ℕ) (us : List ℕ) (a b c d : Bool) → nat_le v t ≡ a → nat_le v u ≡ b → nat_le u t ≡ c → nat_le t u ≡ d → with_time t (with_time u us) ≡ with_time u (with_time t us)
    → with_time t (if b then v ∷ with_time u us else u ∷ v ∷ us) ≡ with_time u (if a then v ∷ with_time t us else t ∷ v ∷ us)
times_two t u v us true true c d vt vu ut tu h = rw (vt, vu) (ap (λ xs. v ∷ xs) h)
times_two t u v us true false c d vt vu ut tu h =
    let before : nat_le u t ≡ true = grind (arith, leb_tells u t, leb_tells v t, leb_tells v u, vt, vu) in
    rw (before, vt, vu) refl
times_two t u v us false true c d vt vu ut tu h =
    let before : nat_le t u ≡ true = grind (arith, leb_tells t u, leb_tells v t, leb_tells v u, vt, vu) in
    rw (before, vt, vu) refl
times_two t u v us false false true true vt vu ut tu h =
    let same : t ≡ u = grind (arith, leb_tells t u, leb_tells u t, ut, tu) in
    rw (ut, tu, vt, vu) (ap (λ x. u ∷ x ∷ v ∷ us) same ∙ ap (λ x. x ∷ u ∷ v ∷ us) (sym same))
times_two t u v us false false true false vt vu ut tu h = rw (ut, tu, vt) refl
times_two t u v us false false false true vt vu ut tu h = rw (ut, tu, vu) refl
times_two t u v us false false false false vt vu ut tu h = absurd (grind (arith, leb_tells t u, leb_tells u t, ut, tu))

times_one : (t u : ℕ) (c d : Bool) → nat_le u t ≡ c → nat_le t u ≡ d → (if c then u ∷ t ∷ [] else t ∷ u ∷ []) ≡ (if d then t ∷ u ∷ [] else u ∷ t ∷ [])
times_one t u true true ut tu =
    let same : t ≡ u = grind (arith, leb_tells t u, leb_tells u t, ut, tu) in
    rw same refl
times_one t u true false ut tu = refl
times_one t u false true ut tu = refl
times_one t u false false ut tu = absurd (grind (arith, leb_tells t u, leb_tells u t, ut, tu))

with_both : (t u : ℕ) (us : List ℕ) → with_time t (with_time u us) ≡ with_time u (with_time t us)
with_both t u [] = times_one t u (nat_le u t) (nat_le t u) refl refl
with_both t u (v ∷ us) = times_two t u v us (nat_le v t) (nat_le v u) (nat_le u t) (nat_le t u) refl refl refl refl (with_both t u us)

waits_swap : (w v : Wait) (ts : List ℕ) → wait_times v (wait_times w ts) ≡ wait_times w (wait_times v ts)
waits_swap Ended v ts = refl
waits_swap Inactive v ts = refl
waits_swap (OnChange triggers) v ts = refl
waits_swap (Until time) Ended ts = refl
waits_swap (Until time) Inactive ts = refl
waits_swap (Until time) (OnChange triggers) ts = refl
waits_swap (Until time) (Until other) ts = with_both other time ts

nbas_two : (t u : ℕ) (ts : List ℕ) (a b : Bool) → (if a then (if b then ts else with_time u ts) else with_time t (if b then ts else with_time u ts)) ≡ (if b then (if a then ts else with_time t ts) else with_time u (if a then ts else with_time t ts))
nbas_two t u ts true true = refl
nbas_two t u ts true false = refl
nbas_two t u ts false true = refl
nbas_two t u ts false false = with_both t u ts

nbas_one : (now : ℕ) (l : NonblockingAssignment) (ls : List NonblockingAssignment) (ts : List ℕ) → later_times now ls (if l.due == now then ts else with_time l.due ts) ≡ (if l.due == now then later_times now ls ts else with_time l.due (later_times now ls ts))
nbas_one now l [] ts = refl
nbas_one now l (m ∷ ls) ts =
    ap (later_times now ls) (nbas_two m.due l.due ts (m.due == now) (l.due == now)) ∙ nbas_one now l ls (if m.due == now then ts else with_time m.due ts)

nbas_swap : (now : ℕ) (ls ms : List NonblockingAssignment) (ts : List ℕ) → later_times now ms (later_times now ls ts) ≡ later_times now ls (later_times now ms ts)
nbas_swap now [] ms ts = refl
nbas_swap now (l ∷ ls) ms ts =
    nbas_swap now ls ms (if l.due == now then ts else with_time l.due ts) ∙ ap (later_times now ls) (nbas_one now l ms ts)

-- updates of a class, in either order

class-append : (class : ℕ → ℕ) (c : ℕ) (xs ys : List (ℕ × Vector)) → of_class class c (xs ++ ys) ≡ of_class class c xs ++ of_class class c ys
class-append class c xs ys = filter-append (λ w. class w.0 == c) xs ys

swap_class : (class : ℕ → ℕ) (c : ℕ) (xs ys zs : List (ℕ × Vector)) → of_class class c ys ++ of_class class c zs ≡ of_class class c zs ++ of_class class c ys
    → of_class class c ((xs ++ ys) ++ zs) ≡ of_class class c ((xs ++ zs) ++ ys)
swap_class class c xs ys zs h =
    class-append class c (xs ++ ys) zs ∙ ap (λ us. us ++ of_class class c zs) (class-append class c xs ys)
    ∙ swap_last (of_class class c xs) (of_class class c ys) (of_class class c zs) h
    ∙ ap (λ us. us ++ of_class class c ys) (sym (class-append class c xs zs)) ∙ sym (class-append class c (xs ++ zs) ys)

-- no class has an update for one time from both
abbrev pub NbasApart : (ℕ → ℕ) → Deed → Deed → Type 0
NbasApart class d e = (c due : ℕ) → NotBoth (of_class class c (updates_for due d.nbas)) (of_class class c (updates_for due e.nbas))

later_swap : (class : ℕ → ℕ) (c time : ℕ) (d e : Deed) (b : Bool) → NbasApart class d e
    → of_class class c (if b then [] else updates_for time d.nbas) ++ of_class class c (if b then [] else updates_for time e.nbas)
    ≡ of_class class c (if b then [] else updates_for time e.nbas) ++ of_class class c (if b then [] else updates_for time d.nbas)
later_swap class c time d e true h = refl
later_swap class c time d e false h = apart_commute (of_class class c (updates_for time d.nbas)) (of_class class c (updates_for time e.nbas)) (h c time)

pub both_alike : (class : ℕ → ℕ) (s f g : State) (d e : Deed) → Differ d.own e.own → Leaves s d e → Leaves s e d → NbasApart class d e → NotBoth d.strobes e.strobes → d.finish ≡ false → e.finish ≡ false
    → Both s d e f → Both s e d g → AlikeIn class f g
both_alike class s f g d e differ off off' nbas strobes goes_on other_goes_on h i =
    record {
      time = h.time ∙ sym i.time;
      store = h.store ∙ stores_swap s.store d.writes e.writes off.writes ∙ sym i.store;
      processes = h.processes ∙ processes_swap (changes_by s e) (changes_by s d) s.processes d.own e.own differ off.waits off'.waits ∙ sym i.processes;
      active =
          record {
            updates = λ c. ap (of_class class c) (h.active_updates ∙ ap updates_in (without_both d.number e.number s.active) ∙ sym i.active_updates);
            evaluations = λ o. omega (arith, h.active o, i.active o, ap (evaluations_in o) (without_both d.number e.number s.active));
          };
      inactive = record { updates = λ c. ap (of_class class c) (h.inactive_updates ∙ sym i.inactive_updates); evaluations = λ o. omega (arith, h.inactive o, i.inactive o) };
      nonblocking =
          record {
            updates = λ c. ap (of_class class c) h.updates
                ∙ swap_class class c (updates_in s.nonblocking) (updates_for s.time d.nbas) (updates_for s.time e.nbas) (apart_commute (of_class class c (updates_for s.time d.nbas)) (of_class class c (updates_for s.time e.nbas)) (nbas c s.time))
                ∙ ap (of_class class c) (sym i.updates);
            evaluations = λ o. h.evaluations o ∙ sym (i.evaluations o);
          };
      monitor = h.monitor ∙ swap_last s.monitor d.strobes e.strobes (apart_commute d.strobes e.strobes strobes) ∙ sym i.monitor;
      future_inactive =
          record {
            times = h.waits_times ∙ waits_swap d.wait e.wait (times s.future_inactive) ∙ sym i.waits_times;
            due = λ t. record { updates = λ c. ap (of_class class c) (h.waits_updates t ∙ sym (i.waits_updates t)); evaluations = λ o. omega (arith, h.waits t o, i.waits t o) };
          };
      future_nonblocking =
          record {
            times = h.nbas_times ∙ nbas_swap s.time d.nbas e.nbas (times s.future_nonblocking) ∙ sym i.nbas_times;
            due = λ t.
                record {
                  updates = λ c. ap (of_class class c) (h.nbas_updates t)
                      ∙ swap_class class c (updates_in (due_at t s.future_nonblocking)) (later_updates s.time t d.nbas) (later_updates s.time t e.nbas) (later_swap class c t d e (t == s.time) nbas)
                      ∙ ap (of_class class c) (sym (i.nbas_updates t));
                  evaluations = λ o. h.nbas_evaluations t o ∙ sym (i.nbas_evaluations t o);
                };
          };
      finished = h.finished ∙ other_goes_on ∙ sym goes_on ∙ sym i.finished;
    }
