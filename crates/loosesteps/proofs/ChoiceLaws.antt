-- The transitions of the active events, and the change that is due, are those that may be taken.
use Rattle.std.proofs.Common.{◌≡◌, ◌≢◌, ◌↔◌, ◌⊎◌, inl, inr, ℕ, zero, suc, ◌+◌, ◌<◌, Bool, true, false, List, [], ◌∷◌, ◌++◌, map, length, get_or, Option, Some, None, refl, sym, ap, ◌∙◌, subst, arith, ◌==◌, eq-eqb}
use Rattle.std.proofs.Common.{if◌then◌else◌}
use Rattle.std.specs.Prelude.{cond}
use Rattle.std.specs.List.{AllPairs, Contains}
use Rattle.std.proofs.lemmas.Bool.{eqb-true}
use Rattle.std.proofs.lemmas.List.{length-map, append-nil}
use Rattle.std.proofs.lemmas.List.Elements.{Contains-get_or, Contains-append_left, Contains-append_right, Contains-append_cases}
use Rattle.std.proofs.lemmas.List.Quantifiers.{all_pairs_push}
use Rattle.logic4.specs.Vector.{Vector}
use Rattle.model.specs.declared.entry.Entry.{Entry}
use Rattle.model.specs.declared.entry.Entry.TheVariants.{Turn, Update, ActivateInactive, ActivateNba, ActivateMonitor, Advance}
use Rattle.model.specs.declared.entry.Refusal.TheVariants.{Finished, EarlierUpdate}
use Rattle.model.specs.States.{Action, Evaluate, Event, State}
use Rattle.model.specs.Runs.{action_in, refused_where, turn_refusal, refusal}
use Rattle.model.proofs.RunLaws.{where_none}
use Rattle.orders.specs.Alike.{EventsRise, IsInOrder, updates_in}
use Rattle.loose.specs.declared.transition.LooseTransition.{LooseTransition}
use Rattle.loose.specs.declared.transition.LooseTransition.TheVariants.{Process, FirstOf, Change}
use Rattle.loose.specs.Loose.{of_class, updates_of_class, has_earlier_of_class, loose_update_refusal, loose_transition_of_action}
use Rattle.loose.proofs.ClassLists.{HasFirstOf, find_first}
use Rattle.regions.specs.declared.queue.Update as queued
use Rattle.regions.specs.declared.queue.Evaluation.{Evaluation}
use Rattle.regions.specs.Queue.{update_event, evaluation_event}
use Rattle.regions.specs.Machine.{IsChange, IsDue}
use Rattle.loosesteps.specs.Choices.{AreGathered, due_choices, update_transition, evaluation_transition}
use Rattle.loosesteps.specs.LooselyTaken.{MayBeTaken}
use Rattle.loosesteps.proofs.FirstOfKind.{behind_one}
use Rattle.loosesteps.proofs.Gathering.{no_member, one_member, gathered_more}

member_here : {A : Type 0} → (x : A) (xs : List A) → Contains (x ∷ xs) x
member_here x xs = (0, omega arith, refl)

member_there : {A : Type 0} → (y x : A) (xs : List A) → Contains xs x → Contains (y ∷ xs) x
member_there y x xs (k, below, is) = (suc k, omega (arith, below), is)

abbrev active_of : List queued.Update → List Evaluation → List Event
active_of us es = map update_event us ++ map evaluation_event es

-- an active event's transition is among them

abbrev IsAmong : (ℕ → ℕ) → List queued.Update → List Evaluation → Action → Type 0
IsAmong class us es (Evaluate p) = Contains (map evaluation_transition es) (Process p)
IsAmong class us es (Action.Update r v) = Contains (map (update_transition class) us) (FirstOf (class r))

more_updates : (class : ℕ → ℕ) (u : queued.Update) (us : List queued.Update) (es : List Evaluation) (a : Action) → IsAmong class us es a → IsAmong class (u ∷ us) es a
more_updates class u us es (Evaluate p) has = has
more_updates class u us es (Action.Update r v) has = member_there (update_transition class u) (FirstOf (class r)) (map (update_transition class) us) has

more_evaluations : (class : ℕ → ℕ) (e : Evaluation) (us : List queued.Update) (es : List Evaluation) (a : Action) → IsAmong class us es a → IsAmong class us (e ∷ es) a
more_evaluations class e us es (Evaluate p) has = member_there (evaluation_transition e) (Process p) (map evaluation_transition es) has
more_evaluations class e us es (Action.Update r v) has = has

among_here : (class : ℕ → ℕ) (us : List queued.Update) (es : List Evaluation) (a b : Action) (o : Option Action) (here : Bool) → IsAmong class us es b → (if here then Some b else o) ≡ Some a → (o ≡ Some a → IsAmong class us es a) → IsAmong class us es a
among_here class us es a b o true has at_n later =
    let same : b ≡ a = cc in
    subst (λ (c : Action). IsAmong class us es c) same has
among_here class us es a b o false has at_n later = later at_n

among : (class : ℕ → ℕ) (n : ℕ) (a : Action) (us : List queued.Update) (es : List Evaluation) → action_in (active_of us es) n ≡ Some a → IsAmong class us es a
among class n a (u ∷ us) es at_n =
    among_here class (u ∷ us) es a (Action.Update u.register u.value) (action_in (active_of us es) n) (u.number == n) (member_here (update_transition class u) (map (update_transition class) us)) at_n
    (λ later. more_updates class u us es a (among class n a us es later))
among class n a [] (e ∷ es) at_n =
    among_here class [] (e ∷ es) a (Evaluate e.process) (action_in (map evaluation_event es) n) (e.number == n) (member_here (evaluation_transition e) (map evaluation_transition es)) at_n
    (λ later. more_evaluations class e [] es a (among class n a [] es later))
among class n a [] [] at_n = cc

-- what is among them is that of an active event

abbrev HasEvaluation : ℕ → List Event → Type 0
HasEvaluation p es = (n : ℕ) × (action_in es n ≡ Some (Evaluate p))

evaluation_behind : (p from to : ℕ) (e : Event) (es : List Event) → EventsRise (e.0 + 1) es to → HasEvaluation p es → HasEvaluation p (e ∷ es)
evaluation_behind p from to e es rises (n, at_n) = (n, behind_one n from to (Evaluate p) e es rises at_n)

evaluation_member : (p from to k : ℕ) (us : List queued.Update) (es : List Evaluation) → EventsRise from (active_of us es) to → k < length es → get_or (map evaluation_transition es) k (Process p) ≡ Process p → HasEvaluation p (active_of us es)
evaluation_member p from to k (u ∷ us) es rises below is =
    evaluation_behind p from to (update_event u) (active_of us es) rises.1 (evaluation_member p (u.number + 1) to k us es rises.1 below is)
evaluation_member p from to k [] [] rises below is = absurd (omega (arith, below))
evaluation_member p from to zero [] (e ∷ es) rises below is =
    let same : e.process ≡ p = cc in
    (e.number, rw (eq-eqb e.number e.number refl, same) refl)
evaluation_member p from to (suc k) [] (e ∷ es) rises below is =
    evaluation_behind p from to (evaluation_event e) (map evaluation_event es) rises.1 (evaluation_member p (e.number + 1) to k [] es rises.1 (omega (arith, below)) is)

-- updates of a class that are active have a first one
abbrev HasFirst : (ℕ → ℕ) → ℕ → List Event → Type 0
HasFirst class c es = (r : ℕ) × (v : Vector) × (class r ≡ c) × HasFirstOf class c es r v

own_here : (class : ℕ → ℕ) (c : ℕ) (w : ℕ × Vector) (ws others : List (ℕ × Vector)) (r : ℕ) (v : Vector) (b : Bool) → (class w.0 == c) ≡ b → cond b (w ∷ of_class class c ws) (of_class class c ws) ≡ (r, v) ∷ others
    → (of_class class c ws ≡ (r, v) ∷ others → class r ≡ c) → class r ≡ c
own_here class c w ws others r v true of_it is later =
    let pair : w ≡ (r, v) = cc in
    let register : w.0 ≡ r = ap (λ x. x.0) pair in
    ap class (sym register) ∙ eqb-true (class w.0) c of_it
own_here class c w ws others r v false of_it is later = later is

own_class : (class : ℕ → ℕ) (c : ℕ) (ws others : List (ℕ × Vector)) (r : ℕ) (v : Vector) → of_class class c ws ≡ (r, v) ∷ others → class r ≡ c
own_class class c [] others r v is = cc
own_class class c (w ∷ ws) others r v is =
    own_here class c w ws others r v (class w.0 == c) refl is (own_class class c ws others r v)

first_among : (class : ℕ → ℕ) (c to : ℕ) (es : List Event) (ws : List (ℕ × Vector)) → EventsRise 0 es to → updates_of_class class c es ≡ ws → ws ≢ [] → HasFirst class c es
first_among class c to es [] rises is some = absurd (some refl)
first_among class c to es ((r, v) ∷ ws) rises is some =
    (r, v, own_class class c (updates_in es) ws r v is, find_first class c r 0 to v es ws rises is)

some_of_class : (class : ℕ → ℕ) (c : ℕ) (k : ℕ) (us : List queued.Update) (es : List Evaluation) → k < length us → get_or (map (update_transition class) us) k (FirstOf c) ≡ FirstOf c → updates_of_class class c (active_of us es) ≢ []
some_of_class class c k [] es below is = absurd (omega (arith, below))
some_of_class class c zero (u ∷ us) es below is =
    let same : class u.register ≡ c = cc in
    rw (eq-eqb (class u.register) c same) (λ none. let bad : ◌≡◌ {A = List (ℕ × Vector)} ((u.register, u.value) ∷ updates_of_class class c (active_of us es)) [] = none in cc)
some_of_class class c (suc k) (u ∷ us) es below is =
    some_behind (class u.register == c) (some_of_class class c k us es (omega (arith, below)) is)
  where
    some_behind : (b : Bool) → updates_of_class class c (active_of us es) ≢ [] → cond b ((u.register, u.value) ∷ updates_of_class class c (active_of us es)) (updates_of_class class c (active_of us es)) ≢ []
    some_behind true some none = cc
    some_behind false some none = some none

-- they may be taken

turn_may : (class : ℕ → ℕ) (s : State) (p : ℕ) → s.finished ≡ false → HasEvaluation p s.active → MayBeTaken class s (Process p)
turn_may class s p going (n, at_n) =
    (Turn n, ap (loose_transition_of_action class) at_n, rw going (ap turn_refusal at_n))

update_may : (class : ℕ → ℕ) (s : State) (c : ℕ) → s.finished ≡ false → HasFirst class c s.active → MayBeTaken class s (FirstOf c)
update_may class s c going (r, v, own, (n, at_n, first)) =
    let none : refused_where (has_earlier_of_class class (class r) s.active n) EarlierUpdate None ≡ None = rw (own, first) refl in
    (Update n, ap (loose_transition_of_action class) at_n ∙ ap (λ k. Some (FirstOf k)) own, rw going (ap (loose_update_refusal class s n) at_n ∙ none))

change_may : (class : ℕ → ℕ) (s : State) (change : Entry) → IsChange change → refusal s change ≡ None → MayBeTaken class s (Change change)
change_may class s (Turn n) change none = absurd change
change_may class s (Update n) change none = absurd change
change_may class s ActivateInactive change none = (ActivateInactive, refl, none)
change_may class s ActivateNba change none = (ActivateNba, refl, none)
change_may class s ActivateMonitor change none = (ActivateMonitor, refl, none)
change_may class s (Advance time) change none = (Advance time, refl, none)

-- what may be taken is among them

abbrev IsChosen : (ℕ → ℕ) → List queued.Update → List Evaluation → State → LooseTransition → Type 0
IsChosen class us es s t =
    (Contains (map (update_transition class) us) t ⊎ Contains (map evaluation_transition es) t) ⊎ ((change : Entry) × (t ≡ Change change) × IsChange change × (refusal s change ≡ None))

turn_chosen : (class : ℕ → ℕ) (us : List queued.Update) (es : List Evaluation) (s : State) (t : LooseTransition) (o : Option Action) → loose_transition_of_action class o ≡ Some t → turn_refusal o ≡ None
    → ((a : Action) → o ≡ Some a → IsAmong class us es a) → IsChosen class us es s t
turn_chosen class us es s t None is none has = cc
turn_chosen class us es s t (Some (Evaluate p)) is none has =
    let same : Process p ≡ t = cc in
    inl (inr (subst (λ (u : LooseTransition). Contains (map evaluation_transition es) u) same (has (Evaluate p) refl)))
turn_chosen class us es s t (Some (Action.Update r v)) is none has = cc

update_chosen : (class : ℕ → ℕ) (us : List queued.Update) (es : List Evaluation) (s : State) (n : ℕ) (t : LooseTransition) (o : Option Action) → loose_transition_of_action class o ≡ Some t → loose_update_refusal class s n o ≡ None
    → ((a : Action) → o ≡ Some a → IsAmong class us es a) → IsChosen class us es s t
update_chosen class us es s n t None is none has = cc
update_chosen class us es s n t (Some (Evaluate p)) is none has = cc
update_chosen class us es s n t (Some (Action.Update r v)) is none has =
    let same : FirstOf (class r) ≡ t = cc in
    inl (inl (subst (λ (u : LooseTransition). Contains (map (update_transition class) us) u) same (has (Action.Update r v) refl)))

change_chosen : (class : ℕ → ℕ) (us : List queued.Update) (es : List Evaluation) (s : State) (change : Entry) (t : LooseTransition) → ◌≡◌ {A = Option LooseTransition} (Some (Change change)) (Some t) → IsChange change → refusal s change ≡ None → IsChosen class us es s t
change_chosen class us es s change t is changes none =
    let same : t ≡ Change change = cc in
    inr (change, same, changes, none)

chosen : (class : ℕ → ℕ) (us : List queued.Update) (es : List Evaluation) (s : State) (t : LooseTransition) → active_of us es ≡ s.active → MayBeTaken class s t → IsChosen class us es s t
chosen class us es s t all (Turn n, is, none) =
    turn_chosen class us es s t (action_in s.active n) is (where_none s.finished Finished (turn_refusal (action_in s.active n)) none).1
    (λ a at_n. among class n a us es (ap (λ events. action_in events n) all ∙ at_n))
chosen class us es s t all (Update n, is, none) =
    update_chosen class us es s n t (action_in s.active n) is (where_none s.finished Finished (loose_update_refusal class s n (action_in s.active n)) none).1
    (λ a at_n. among class n a us es (ap (λ events. action_in events n) all ∙ at_n))
chosen class us es s t all (ActivateInactive, is, none) = change_chosen class us es s ActivateInactive t is tt none
chosen class us es s t all (ActivateNba, is, none) = change_chosen class us es s ActivateNba t is tt none
chosen class us es s t all (ActivateMonitor, is, none) = change_chosen class us es s ActivateMonitor t is tt none
chosen class us es s t all (Advance time, is, none) = change_chosen class us es s (Advance time) t is tt none

-- and what is among them may be taken

update_element : (class : ℕ → ℕ) (us : List queued.Update) (t : LooseTransition) → Contains (map (update_transition class) us) t → (c : ℕ) × (t ≡ FirstOf c)
update_element class [] t has = absurd (no_member t has)
update_element class (u ∷ us) t (zero, below, is) = (class u.register, sym is)
update_element class (u ∷ us) t (suc k, below, is) = update_element class us t (k, omega (arith, below), is)

turn_element : (es : List Evaluation) (t : LooseTransition) → Contains (map evaluation_transition es) t → (p : ℕ) × (t ≡ Process p)
turn_element [] t has = absurd (no_member t has)
turn_element (e ∷ es) t (zero, below, is) = (e.process, sym is)
turn_element (e ∷ es) t (suc k, below, is) = turn_element es t (k, omega (arith, below), is)

of_updates : (class : ℕ → ℕ) (us : List queued.Update) (es : List Evaluation) (s : State) (t : LooseTransition) → active_of us es ≡ s.active → s.finished ≡ false → IsInOrder s → Contains (map (update_transition class) us) t → MayBeTaken class s t
of_updates class us es s t all going order has =
    let (c, is) = update_element class us t has in
    let (k, below, there) = subst (λ (u : LooseTransition). Contains (map (update_transition class) us) u) is has in
    let within : k < length us = omega (arith, below, length-map us (update_transition class)) in
    let some : updates_of_class class c s.active ≢ [] = subst (λ (events : List Event). updates_of_class class c events ≢ []) all (some_of_class class c k us es within there) in
    subst (λ (u : LooseTransition). MayBeTaken class s u) (sym is)
    (update_may class s c going (first_among class c s.next_event s.active (updates_of_class class c s.active) order.active refl some))

of_evaluations : (class : ℕ → ℕ) (us : List queued.Update) (es : List Evaluation) (s : State) (t : LooseTransition) → active_of us es ≡ s.active → s.finished ≡ false → IsInOrder s → Contains (map evaluation_transition es) t → MayBeTaken class s t
of_evaluations class us es s t all going order has =
    let (p, is) = turn_element es t has in
    let (k, below, there) = subst (λ (u : LooseTransition). Contains (map evaluation_transition es) u) is has in
    let within : k < length es = omega (arith, below, length-map es evaluation_transition) in
    let rises : EventsRise 0 (active_of us es) s.next_event = subst (λ (events : List Event). EventsRise 0 events s.next_event) (sym all) order.active in
    let member : HasEvaluation p (active_of us es) = evaluation_member p 0 s.next_event k us es rises within there in
    subst (λ (u : LooseTransition). MayBeTaken class s u) (sym is)
    (turn_may class s p going (subst (λ (events : List Event). HasEvaluation p events) all member))

-- the choices: the transitions of the active events, and then the change that is due

due_choice : (due : Option Entry) (t : LooseTransition) → Contains (due_choices due) t → (change : Entry) × (due ≡ Some change) × (t ≡ Change change)
due_choice None t has = absurd (no_member t has)
due_choice (Some change) t has = (change, refl, sym (one_member (Change change) t has))

choice_due : (due : Option Entry) (change : Entry) (t : LooseTransition) → due ≡ Some change → t ≡ Change change → Contains (due_choices due) t
choice_due due change t is same = rw (is, same) (member_here (Change change) [])

-- the choices of the active events
abbrev pub AreChoices : (ℕ → ℕ) → List queued.Update → List Evaluation → List LooseTransition → Type 0
AreChoices class us es items =
    record {
      members : (t : LooseTransition) → Contains items t ↔ (Contains (map (update_transition class) us) t ⊎ Contains (map evaluation_transition es) t);
      once : AllPairs ◌≢◌ items;
    }

pub choices_gathered : (class : ℕ → ℕ) (us : List queued.Update) (es : List Evaluation) (mid items : List LooseTransition) → AreGathered [] (map (update_transition class) us) mid → AreGathered mid (map evaluation_transition es) items → AreChoices class us es items
choices_gathered class us es mid items first second =
    let both : AreGathered [] (map (update_transition class) us ++ map evaluation_transition es) items = gathered_more [] (map (update_transition class) us) mid (map evaluation_transition es) items first second in
    record {
      members = λ t. (
        λ has. elim ((both.members t).0 has) [ inl bad ↦ absurd (no_member t bad) | inr there ↦ Contains-append_cases (map (update_transition class) us) (map evaluation_transition es) t there ],
        λ has. (both.members t).1 (inr (elim has [ inl there ↦ Contains-append_left (map (update_transition class) us) (map evaluation_transition es) t there | inr there ↦ Contains-append_right (map (update_transition class) us) (map evaluation_transition es) t there ])),
      );
      once = both.once (λ i j d less below. absurd (omega (arith, less, below)));
    }

pub choices_permitted : (class : ℕ → ℕ) (us : List queued.Update) (es : List Evaluation) (s : State) (items : List LooseTransition) (due : Option Entry) → AreChoices class us es items → active_of us es ≡ s.active → s.finished ≡ false → IsInOrder s → IsDue s due
    → (t : LooseTransition) → Contains (items ++ due_choices due) t ↔ MayBeTaken class s t
choices_permitted class us es s items due are all going order is_due t = (
  λ has. elim (Contains-append_cases items (due_choices due) t has) [
    | inl there ↦ elim ((are.members t).0 there) [ inl of_it ↦ of_updates class us es s t all going order of_it | inr of_it ↦ of_evaluations class us es s t all going order of_it ]
    | inr there ↦ let (change, is, same) = due_choice due t there in
        let (changes, none) = (is_due change).0 is in
        subst (λ (u : LooseTransition). MayBeTaken class s u) (sym same) (change_may class s change changes none)
  ],
  λ may. elim (chosen class us es s t all may) [
    | inl there ↦ Contains-append_left items (due_choices due) t ((are.members t).1 there)
    | inr there ↦ let (change, same, changes, none) = there in
        Contains-append_right items (due_choices due) t (choice_due due change t ((is_due change).1 (changes, none)) same)
  ],
)

no_change : (class : ℕ → ℕ) (us : List queued.Update) (es : List Evaluation) (items : List LooseTransition) (change : Entry) (t : LooseTransition) → AreChoices class us es items → Contains items t → t ≢ Change change
no_change class us es items change t are has same =
    elim ((are.members t).0 has) [ inl there ↦ let (c, is) = update_element class us t there in cc | inr there ↦ let (p, is) = turn_element es t there in cc ]

-- each stands there once
pub choices_once : (class : ℕ → ℕ) (us : List queued.Update) (es : List Evaluation) (items : List LooseTransition) (due : Option Entry) → AreChoices class us es items → AllPairs ◌≢◌ (items ++ due_choices due)
choices_once class us es items None are = subst (λ (ts : List LooseTransition). AllPairs ◌≢◌ ts) (sym (append-nil items)) are.once
choices_once class us es items (Some change) are =
    all_pairs_push ◌≢◌ items (Change change) are.once (λ k d below. no_change class us es items change (get_or items k d) are (Contains-get_or items k d below))
