-- What is active in a phase has a weight, by the ranks of the members: each event that is taken makes it less.
use Rattle.std.proofs.Common.{◌≡◌, ℕ, zero, suc, ◌+◌, ◌-◌, ◌<◌, ◌≤◌, Bool, true, false, eq-eqb, List, [], ◌∷◌, ◌⊎◌, inl, inr, map, length, Some, refl, sym, ap, subst, ◌∙◌, ◌==◌, ◌||◌, arith}
use Rattle.std.specs.List.{list_any}
use Rattle.std.proofs.lemmas.Bool.{eqb-true}
use Rattle.std.proofs.lemmas.Bool.Decides.{eqb_tells, leb_tells}
use Rattle.std.specs.Prelude.{nat_le}
use Rattle.logic4.specs.Vector.{Vector}
use Rattle.model.specs.declared.tree.Change.TheVariants.{Any}
use Rattle.model.specs.Design.{Design, Trigger}
use Rattle.model.specs.Turns.{contains}
use Rattle.model.specs.Turns as turns
use Rattle.model.specs.States.{Action, Evaluate, Event, State, change_all, schedule_all, schedule_wait, taking, without, turned, updated}
use Rattle.model.specs.Runs.{action_in}
use Rattle.model.specs.Laws.{evaluations_in}
use Rattle.orders.specs.Alike.{IsInOrder, updates_in}
use Rattle.orders.proofs.EventLists.{updates_left}
use Rattle.phases.specs.Phase.{Block, continuation_of, waits_for_register, IsPhase, IsTurnPending, ComputesOutputs}
use Rattle.phases.proofs.Changes.{Changed, changed}
use Rattle.phases.proofs.Members.{Standing}
use Rattle.phases.proofs.Events.{AllChanged, all_changed, Unmoved, all_unmoved, taken_other, taken_own}
use Rattle.loosephases.proofs.UpdatesTaken.{fewer_updates}

-- as much for each of a list
abbrev pub for_each : {A : Type 0} → List A → ℕ → ℕ
for_each [] w = 0
for_each (x ∷ xs) w = w + for_each xs w

-- A member that is so high weighs more than all lower ones together.
abbrev pub heavy : List ℕ → ℕ → ℕ
heavy members zero = 1
heavy members (suc h) = 1 + heavy members h + for_each members (heavy members h)

-- what is once or more weighs as much, and nothing else
abbrev pub where_any : ℕ → ℕ → ℕ
where_any zero w = 0
where_any (suc k) w = w

-- the weight of a member: the lower its rank, the more
abbrev pub weight_of : List ℕ → (ℕ → ℕ) → ℕ → ℕ → ℕ
weight_of members rank most m = heavy members (most - rank m)

-- the weight of the members that are to be evaluated
abbrev pub load : (ℕ → ℕ) → List ℕ → List Event → ℕ
load weight [] es = 0
load weight (m ∷ ms) es = where_any (evaluations_in m es) (weight m) + load weight ms es

-- the weight of events
abbrev pub weight_in : List ℕ → (ℕ → ℕ) → ℕ → List Event → ℕ
weight_in members rank most es =
    for_each (updates_in es) (heavy members (suc most)) + load (weight_of members rank most) members es

-- numbers

up_if : (members : List ℕ) (a b : ℕ) (is : Bool) → (a == suc b) ≡ is → a ≤ suc b → (a ≤ b → heavy members a ≤ heavy members b) → heavy members a ≤ heavy members (suc b)
up_if members a b true is h later =
    let same : a ≡ suc b = eqb-true a (suc b) is in
    rw same (omega arith)
up_if members a b false is h later =
    let less : a ≤ b = grind (arith, eqb_tells a (suc b), is, h) in
    omega (arith, later less)

up : (members : List ℕ) (a b : ℕ) → a ≤ b → heavy members a ≤ heavy members b
up members a zero h =
    let none : a ≡ 0 = omega (arith, h) in
    rw none (omega arith)
up members a (suc b) h = up_if members a b (a == suc b) refl h (up members a b)

by_length : {A : Type 0} → (us vs : List A) (w : ℕ) → length us ≡ length vs → for_each us w ≡ for_each vs w
by_length [] [] w h = refl
by_length [] (v ∷ vs) w h = cc
by_length (u ∷ us) [] w h = cc
by_length (u ∷ us) (v ∷ vs) w h =
    let rest : for_each us w ≡ for_each vs w = by_length us vs w (omega (arith, h)) in
    omega (arith, rest)

one_less : {A : Type 0} → (us vs : List A) (w : ℕ) → length us ≡ suc (length vs) → for_each us w ≡ w + for_each vs w
one_less [] vs w h = cc
one_less (u ∷ us) vs w h =
    let rest : for_each us w ≡ for_each vs w = by_length us vs w (omega (arith, h)) in
    omega (arith, rest)

any_at_most : (k w most : ℕ) → w ≤ most → where_any k w ≤ most
any_at_most zero w most h = omega arith
any_at_most (suc k) w most h = h

load_at_most : (weight : ℕ → ℕ) (ms : List ℕ) (es : List Event) (most : ℕ) → ((m : ℕ) → weight m ≤ most) → load weight ms es ≤ for_each ms most
load_at_most weight [] es most h = omega arith
load_at_most weight (m ∷ ms) es most h =
    omega (arith, any_at_most (evaluations_in m es) (weight m) most (h m), load_at_most weight ms es most h)

-- an update makes it less

pub lighter_updated : (members : List ℕ) (rank : ℕ → ℕ) (most : ℕ) (s : State) (n r : ℕ) (v : Vector) → IsInOrder s → action_in s.active n ≡ Some (Action.Update r v)
    → weight_in members rank most (updated s n r v).active < weight_in members rank most s.active
lighter_updated members rank most s n r v order at =
    let x : State = updated s n r v in
    let c : Changed (taking n s) r v x = changed (taking n s) r v in
    let w : ℕ = heavy members (suc most) in
    let less : for_each (updates_in s.active) w ≡ w + for_each (updates_in (without n s.active)) w =
    one_less (updates_in s.active) (updates_in (without n s.active)) w (fewer_updates n r 0 s.next_event v s.active order.active at) in
    let same : for_each (updates_in x.active) w ≡ for_each (updates_in (without n s.active)) w = ap (λ us. for_each us w) c.updates in
    let most_load : load (weight_of members rank most) members x.active ≤ for_each members (heavy members most) =
    load_at_most (weight_of members rank most) members x.active (heavy members most) (λ m. up members (most - rank m) most (omega arith)) in
    omega (arith, less, same, most_load)

-- a turn wakes members of higher rank alone

no_more : (k j w more : ℕ) → k ≡ j → where_any k w ≤ where_any j w + more
no_more k j w more same = rw same (omega arith)

-- what comes of each member by a turn of one: this one is taken, those of no higher rank are as they were, and the others weigh less
abbrev Woken : (ℕ → ℕ) → ℕ → ℕ → List Event → List Event → ℕ → Type 0
Woken weight p less es fs m =
    (((m == p) ≡ true) × (evaluations_in m es ≡ 1) × (evaluations_in m fs ≡ 0))
    ⊎ (((m == p) ≡ false) × ((evaluations_in m fs ≡ evaluations_in m es) ⊎ (weight m ≤ less)))

one_more : (weight : ℕ → ℕ) (p less : ℕ) (es fs : List Event) (m : ℕ) → Woken weight p less es fs m → where_any (evaluations_in m fs) (weight m) ≤ where_any (evaluations_in m es) (weight m) + less
one_more weight p less es fs m (inl (own, one, none)) = rw none (omega arith)
one_more weight p less es fs m (inr (other, inl same)) = no_more (evaluations_in m fs) (evaluations_in m es) (weight m) less same
one_more weight p less es fs m (inr (other, inr small)) =
    omega (arith, any_at_most (evaluations_in m fs) (weight m) less small)

all_more : (weight : ℕ → ℕ) (p less : ℕ) (es fs : List Event) (ms : List ℕ) → ((m : ℕ) → contains ms m ≡ true → Woken weight p less es fs m) → load weight ms fs ≤ load weight ms es + for_each ms less
all_more weight p less es fs [] h = omega arith
all_more weight p less es fs (m ∷ ms) h =
    omega (arith, one_more weight p less es fs m (h m (here m ms)), all_more weight p less es fs ms (λ q there. h q (later (m == q) (contains ms q) there)))
  where
    here : (m : ℕ) (ms : List ℕ) → (m == m || contains ms m) ≡ true
    here m ms =
        let own : (m == m) ≡ true = eq-eqb m m refl in
        rw own refl

    later : (a b : Bool) → b ≡ true → (a || b) ≡ true
    later true b h = refl
    later false b h = h

own_less : (weight : ℕ → ℕ) (p less : ℕ) (es fs : List Event) → Woken weight p less es fs p → where_any (evaluations_in p fs) (weight p) + weight p ≤ where_any (evaluations_in p es) (weight p) + less
own_less weight p less es fs (inl (own, one, none)) = rw (one, none) (omega arith)
own_less weight p less es fs (inr (other, h)) =
    let own : (p == p) ≡ true = eq-eqb p p refl in
    cc

all_less : (weight : ℕ → ℕ) (p less : ℕ) (es fs : List Event) (ms : List ℕ) → contains ms p ≡ true → ((m : ℕ) → contains ms m ≡ true → Woken weight p less es fs m)
    → load weight ms fs + weight p ≤ load weight ms es + for_each ms less
all_less weight p less es fs [] member h = cc
all_less weight p less es fs (m ∷ ms) member h =
    first (m == p) refl member (all_less weight p less es fs ms)
  where
    here : (m : ℕ) (ms : List ℕ) → (m == m || contains ms m) ≡ true
    here m ms =
        let own : (m == m) ≡ true = eq-eqb m m refl in
        rw own refl

    later : (a b : Bool) → b ≡ true → (a || b) ≡ true
    later true b h = refl
    later false b h = h

    first : (is : Bool) → (m == p) ≡ is → (is || contains ms p) ≡ true
        → (contains ms p ≡ true → ((m : ℕ) → contains ms m ≡ true → Woken weight p less es fs m) → load weight ms fs + weight p ≤ load weight ms es + for_each ms less)
        → load weight (m ∷ ms) fs + weight p ≤ load weight (m ∷ ms) es + for_each (m ∷ ms) less
    first true is there rest =
        let same : m ≡ p = eqb-true m p is in
        let own : where_any (evaluations_in m fs) (weight m) + weight p ≤ where_any (evaluations_in m es) (weight m) + less =
        rw same (own_less weight p less es fs (h p (subst (λ k. contains (m ∷ ms) k ≡ true) same (here m ms)))) in
        omega (arith, own, all_more weight p less es fs ms (λ q there'. h q (later (m == q) (contains ms q) there')))
    first false is there rest =
        omega (arith, one_more weight p less es fs m (h m (here m ms)), rest there (λ q there'. h q (later (m == q) (contains ms q) there')))

-- a member that waits for none of the registers

waits_for : (inputs : List ℕ) (r : ℕ) → list_any (λ (t : Trigger). t.1 == r) (map {B = Trigger} (λ q. (Any, q)) inputs) ≡ contains inputs r
waits_for [] r = refl
waits_for (q ∷ inputs) r = ap (λ b. (q == r) || b) (waits_for inputs r)

pub no_wait : (s : State) (m r : ℕ) (b : Block) → Standing s m b → contains b.inputs r ≡ false → waits_for_register (continuation_of s m) r ≡ false
no_wait s m r b (inl (one, continuation)) none = ap (λ x. waits_for_register x r) continuation
no_wait s m r b (inr (idle, continuation)) none =
    ap (λ x. waits_for_register x r) continuation ∙ waits_for b.inputs r ∙ none

not_input : (design : Design) (members : List ℕ) (block : ℕ → Block) (rank : ℕ → ℕ) (s : State) (p m r : ℕ) (is : Bool) → contains (block m).inputs r ≡ is → IsPhase design s members block rank
    → contains members p ≡ true → contains members m ≡ true → contains (block p).outputs r ≡ true → rank m ≤ rank p → contains (block m).inputs r ≡ false
not_input design members block rank s p m r true is phase member member' out low = absurd (omega (arith, low, phase.order p m r member member' out is))
not_input design members block rank s p m r false is phase member member' out low = is

turned_active : (s : State) (n p : ℕ) (t : turns.Turn) (b : Block) → ComputesOutputs b t → (turned s n p t).active ≡ (change_all (taking n s) t.writes).active
turned_active s n p t b c =
    ap (λ w. (schedule_wait p w (schedule_all (change_all (taking n s) t.writes) t.nbas)).active) c.wait
    ∙ ap (λ ls. (schedule_all (change_all (taking n s) t.writes) ls).active) c.nbas

woken_by : (design : Design) (members : List ℕ) (block : ℕ → Block) (rank : ℕ → ℕ) (most below : ℕ) (s : State) (n p m : ℕ) (t : turns.Turn) (own low : Bool) → (m == p) ≡ own → nat_le (rank m) (rank p) ≡ low
    → IsInOrder s → IsPhase design s members block rank → action_in s.active n ≡ Some (Evaluate p) → contains members p ≡ true → contains members m ≡ true → IsTurnPending s p (block p)
    → ComputesOutputs (block p) t → rank p < most → suc below ≡ most - rank p
    → Woken (weight_of members rank most) p (heavy members below) s.active (change_all (taking n s) t.writes).active m
woken_by design members block rank most below s n p m t true low is is' order phase at member member' (one, continuation) c less height =
    let same : m ≡ p = eqb-true m p is in
    let still : Unmoved (taking n s) p (change_all (taking n s) t.writes) = all_unmoved (taking n s) t.writes p (λ r wrote. ap (λ y. waits_for_register y r) continuation) in
    let none : evaluations_in p (change_all (taking n s) t.writes).active ≡ 0 = omega (arith, one, taken_own s n p order at, still.1) in
    inl (is, ap (λ k. evaluations_in k s.active) same ∙ one, ap (λ k. evaluations_in k (change_all (taking n s) t.writes).active) same ∙ none)
woken_by design members block rank most below s n p m t false true is is' order phase at member member' pending c less height =
    let lower : rank m ≤ rank p = grind (arith, leb_tells (rank m) (rank p), is') in
    let other : (p == m) ≡ false = grind (arith, eqb_tells p m, eqb_tells m p, is) in
    let still : Unmoved (taking n s) m (change_all (taking n s) t.writes) =
    all_unmoved (taking n s) t.writes m
    (λ r wrote. no_wait s m r (block m) (phase.stands m member') (not_input design members block rank s p m r (contains (block m).inputs r) refl phase member member' (c.writes r wrote) lower)) in
    inr (is, inl (still.1 ∙ taken_other s n p m s.next_event order at other))
woken_by design members block rank most below s n p m t false false is is' order phase at member member' pending c less height =
    let higher : rank p < rank m = grind (arith, leb_tells (rank m) (rank p), is') in
    inr (is, inr (up members (most - rank m) below (omega (arith, higher, less, height))))

pub lighter_turned : (design : Design) (members : List ℕ) (block : ℕ → Block) (rank : ℕ → ℕ) (most below : ℕ) (s : State) (n p : ℕ) (t : turns.Turn) → IsInOrder s → IsPhase design s members block rank
    → action_in s.active n ≡ Some (Evaluate p) → contains members p ≡ true → IsTurnPending s p (block p) → ComputesOutputs (block p) t → rank p < most → suc below ≡ most - rank p
    → weight_in members rank most (turned s n p t).active < weight_in members rank most s.active
lighter_turned design members block rank most below s n p t order phase at member pending c less height =
    let f : State = change_all (taking n s) t.writes in
    let weight : ℕ → ℕ = weight_of members rank most in
    let all : AllChanged (taking n s) t.writes f = all_changed (taking n s) t.writes in
    let updates : updates_in f.active ≡ updates_in s.active = all.updates ∙ sym (updates_left n p 0 s.next_event s.active order.active at) in
    let same : for_each (updates_in f.active) (heavy members (suc most)) ≡ for_each (updates_in s.active) (heavy members (suc most)) = ap (λ us. for_each us (heavy members (suc most))) updates in
    let fewer : load weight members f.active + weight p ≤ load weight members s.active + for_each members (heavy members below) =
    all_less weight p (heavy members below) s.active f.active members member
    (λ m member'. woken_by design members block rank most below s n p m t (m == p) (nat_le (rank m) (rank p)) refl refl order phase at member member' pending c less height) in
    let own : weight p ≡ heavy members (suc below) = ap (heavy members) (sym height) in
    let lighter : weight_in members rank most f.active < weight_in members rank most s.active = omega (arith, same, fewer, own) in
    subst (λ es. weight_in members rank most es < weight_in members rank most s.active) (sym (turned_active s n p t (block p) c)) lighter
