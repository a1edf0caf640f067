-- The entries of what is active, and states in which one alone may be taken.
use Rattle.std.proofs.Common.{◌≡◌, ◌<◌, ℕ, suc, nat_lt, Bool, true, false, List, [], ◌∷◌, ◌++◌, map, length, get_or, Option, Some, None, refl, sym, ap, subst, ◌∙◌, ◌==◌, if◌then◌else◌, arith, eq-eqb, eqb-true}
use Rattle.std.proofs.lemmas.Bool.Decides.{leb_tells}
use Rattle.model.specs.declared.entry.Entry.{Entry}
use Rattle.model.specs.declared.entry.Entry.TheVariants.{Turn, ActivateInactive, ActivateNba, ActivateMonitor, Advance}
use Rattle.model.specs.declared.entry.Entry.TheVariants as entries
use Rattle.model.specs.declared.entry.Refusal.{Refusal}
use Rattle.model.specs.declared.entry.Refusal.TheVariants.{Finished}
use Rattle.model.specs.declared.end.Limits.{Limits}
use Rattle.model.specs.States.{State, Event, Action, Evaluate}
use Rattle.model.specs.Runs.{action_in, turn_refusal, update_refusal, refused_where, refusal, IsTimely}
use Rattle.model.proofs.RunLaws.{where_none}
use Rattle.phases.specs.Phase.{TakesEvent}
use Rattle.loose.specs.declared.transition.LooseTransition.TheVariants.{Process, FirstOf, Change}
use Rattle.loose.specs.Loose.{loose_update_refusal, loose_entry_refusal, loose_refusal, loose_transition_of, loose_transition_of_action}
use Rattle.regions.specs.declared.queue.Update as queued
use Rattle.regions.specs.declared.queue.Evaluation.{Evaluation}
use Rattle.regions.specs.Queue.{evaluation_event, update_event}
use Rattle.regions.specs.Machine.{IsChange, IsDue}
use Rattle.loosewalks.specs.declared.active.NamedEntry.{NamedEntry}
use Rattle.loosewalks.specs.Sole.{IsOnlyLooseEntry}
use Rattle.loosewalks.specs.LooseWalking.{IsOnlyStep, IsEventStep}

-- what is permitted loosely where nothing is finished
free : (class : ℕ → ℕ) (s : State) (entry : Entry) → loose_refusal class s entry ≡ None → loose_entry_refusal class s entry ≡ None
free class s entry permitted = (where_none s.finished Finished (loose_entry_refusal class s entry) permitted).1

-- nothing is active: only the change that is due may be taken
pub only_due : (class : ℕ → ℕ) (limits : Limits) (s : State) (due : Option Entry) (change : Entry) → IsDue s due → s.active ≡ [] → due ≡ Some change → IsTimely limits change → IsOnlyLooseEntry class limits s change
only_due class limits s due change is active there timely =
    record {
      only = λ other permitted. a_change other permitted (free class (record s { active = [] }) other (subst (λ (t : State). loose_refusal class t other ≡ None) same permitted));
      permitted = ((is change).0 there).1;
      timely = timely;
    }
  where
    same : s ≡ record s { active = [] }
    same = ap (λ (es : List Event). record s { active = es }) active

    changes : (other : Entry) → IsChange other → refusal s other ≡ None → other ≡ change
    changes other is_change permitted =
        let both : Some other ≡ Some change = sym ((is other).1 (is_change, permitted)) ∙ there in
        cc

    a_change : (other : Entry) → loose_refusal class s other ≡ None → loose_entry_refusal class (record s { active = [] }) other ≡ None → other ≡ change
    a_change (Turn m) permitted none = cc
    a_change (entries.Update m) permitted none = cc
    a_change ActivateInactive permitted none = changes ActivateInactive tt permitted
    a_change ActivateNba permitted none = changes ActivateNba tt permitted
    a_change ActivateMonitor permitted none = changes ActivateMonitor tt permitted
    a_change (Advance time) permitted none = changes (Advance time) tt permitted

-- the transition of a change
pub change_transition : (class : ℕ → ℕ) (s : State) (change : Entry) → IsChange change → loose_transition_of class s change ≡ Some (Change change)
change_transition class s (Turn n) is = absurd is
change_transition class s (entries.Update n) is = absurd is
change_transition class s ActivateInactive is = refl
change_transition class s ActivateNba is = refl
change_transition class s ActivateMonitor is = refl
change_transition class s (Advance time) is = refl

pub only_change_step : (class : ℕ → ℕ) (limits : Limits) (s : State) (due : Option Entry) (change : Entry) → IsDue s due → s.active ≡ [] → due ≡ Some change → IsTimely limits change → IsOnlyStep class limits s (record { entry = change; transition = Change change })
only_change_step class limits s due change is active there timely =
    record { only = only_due class limits s due change is active there timely; transition_is = change_transition class s change ((is change).0 there).0 }

-- the first of what is active

pub first_action : (n : ℕ) (a : Action) (es : List Event) → action_in ((n, a) ∷ es) n ≡ Some a
first_action n a es = ap (λ (b : Bool). if b then Some a else action_in es n) (eq-eqb n n refl)

-- one event is active: only its entry may be taken

one_number : (n m : ℕ) (a : Action) (o : Option Refusal) (refuses : Option Action → Option Refusal) → refuses None ≡ o → (o ≡ None → n ≡ m) → refuses (if n == m then Some a else None) ≡ None → n ≡ m
one_number n m a o refuses gone rest none = first (n == m) refl none
  where
    first : (b : Bool) → (n == m) ≡ b → refuses (if b then Some a else None) ≡ None → n ≡ m
    first true is h = eqb-true n m is
    first false is h = rest (sym gone ∙ h)

permitted_if : (b : Bool) (o : Option Refusal) → b ≡ false → o ≡ None → refused_where b Finished o ≡ None
permitted_if b o is none = ap (λ x. refused_where x Finished o) is ∙ none

pub only_turn : (class : ℕ → ℕ) (limits : Limits) (s : State) (n p : ℕ) → s.finished ≡ false → s.active ≡ (n, Evaluate p) ∷ [] → IsOnlyLooseEntry class limits s (Turn n)
only_turn class limits s n p going active =
    record {
      only = λ other permitted. its other (free class one other (subst (λ (t : State). loose_refusal class t other ≡ None) same permitted));
      permitted = permitted_if s.finished (turn_refusal (action_in s.active n)) going (ap (λ es. turn_refusal (action_in es n)) active ∙ ap turn_refusal (first_action n (Evaluate p) []));
      timely = tt;
    }
  where
    one : State
    one = record s { active = (n, Evaluate p) ∷ [] }

    same : s ≡ one
    same = ap (λ (es : List Event). record s { active = es }) active

    no_update : (m : ℕ) (b : Bool) → loose_update_refusal class one m (if b then Some (Evaluate p) else None) ≡ None → ⊥
    no_update m true h = cc
    no_update m false h = cc

    its : (other : Entry) → loose_entry_refusal class one other ≡ None → other ≡ Turn n
    its (Turn m) none = ap Turn (sym (one_number n m (Evaluate p) (turn_refusal None) turn_refusal refl (λ h. cc) none))
    its (entries.Update m) none = absurd (no_update m (n == m) none)
    its ActivateInactive none = cc
    its ActivateNba none = cc
    its ActivateMonitor none = cc
    its (Advance time) none = cc

pub only_update : (class : ℕ → ℕ) (limits : Limits) (s : State) (u : queued.Update) → s.finished ≡ false → s.active ≡ update_event u ∷ [] → IsOnlyLooseEntry class limits s (entries.Update u.number)
only_update class limits s u going active =
    record {
      only = λ other permitted. its other (free class one other (subst (λ (t : State). loose_refusal class t other ≡ None) same permitted));
      permitted = permitted_if s.finished (update_refusal s u.number (action_in s.active u.number)) going
          (ap (λ (t : State). update_refusal t u.number (action_in t.active u.number)) same ∙ (ap (update_refusal one u.number) (first_action u.number (Action.Update u.register u.value) []) ∙ first_alone));
      timely = tt;
    }
  where
    one : State
    one = record s { active = update_event u ∷ [] }

    same : s ≡ one
    same = ap (λ (es : List Event). record s { active = es }) active

    first_alone : update_refusal one u.number (Some (Action.Update u.register u.value)) ≡ None
    first_alone =
        let less : nat_lt u.number u.number ≡ false = grind (arith, leb_tells (suc u.number) u.number) in
        rw less refl

    no_turn : (b : Bool) → turn_refusal (if b then Some (Action.Update u.register u.value) else None) ≡ None → ⊥
    no_turn true h = cc
    no_turn false h = cc

    its : (other : Entry) → loose_entry_refusal class one other ≡ None → other ≡ entries.Update u.number
    its (Turn m) none = absurd (no_turn (u.number == m) none)
    its (entries.Update m) none = ap entries.Update (sym (one_number u.number m (Action.Update u.register u.value) (loose_update_refusal class one m None) (loose_update_refusal class one m) refl (λ h. cc) none))
    its ActivateInactive none = cc
    its ActivateNba none = cc
    its ActivateMonitor none = cc
    its (Advance time) none = cc

-- the entries of what is active, by the lists of it

pub none_of : {X : Type 0} (xs : List X) → length xs ≡ 0 → xs ≡ []
none_of {X} [] none = refl
none_of {X} (x ∷ xs) none = absurd (omega (arith, none))

one_of : {X : Type 0} (xs : List X) (x : X) → length xs ≡ 1 → x ≡ get_or xs 0 x → xs ≡ x ∷ []
one_of {X} [] x one is = absurd (omega (arith, one))
one_of {X} (y ∷ []) x one is = ap (λ z. z ∷ []) (sym is)
one_of {X} (y ∷ z ∷ xs) x one is = absurd (omega (arith, one))

pub nothing_active : (active : List Event) (us : List queued.Update) (es : List Evaluation) → map update_event us ++ map evaluation_event es ≡ active → length us ≡ 0 → length es ≡ 0 → active ≡ []
nothing_active active us es is none none' =
    sym is ∙ (ap (λ (l : List queued.Update). map update_event l ++ map evaluation_event es) (none_of us none) ∙ ap (λ (l : List Evaluation). map evaluation_event l) (none_of es none'))

one_evaluation : (active : List Event) (us : List queued.Update) (es : List Evaluation) (e : Evaluation) → map update_event us ++ map evaluation_event es ≡ active → length us ≡ 0 → length es ≡ 1 → e ≡ get_or es 0 e → active ≡ evaluation_event e ∷ []
one_evaluation active us es e is none one at =
    sym is ∙ (ap (λ (l : List queued.Update). map update_event l ++ map evaluation_event es) (none_of us none) ∙ ap (λ (l : List Evaluation). map evaluation_event l) (one_of es e one at))

one_update : (active : List Event) (us : List queued.Update) (es : List Evaluation) (u : queued.Update) → map update_event us ++ map evaluation_event es ≡ active → length us ≡ 1 → length es ≡ 0 → u ≡ get_or us 0 u → active ≡ update_event u ∷ []
one_update active us es u is one none at =
    sym is ∙ (ap (λ (l : List queued.Update). map update_event l ++ map evaluation_event es) (one_of us u one at) ∙ ap (λ (l : List Evaluation). update_event u ∷ map evaluation_event l) (none_of es none))

pub turn_alone : (class : ℕ → ℕ) (limits : Limits) (s : State) (us : List queued.Update) (es : List Evaluation) (e : Evaluation) (named : NamedEntry) → map update_event us ++ map evaluation_event es ≡ s.active → length us ≡ 0 → length es ≡ 1 → e ≡ get_or es 0 e
    → s.finished ≡ false → named.entry ≡ Turn e.number → named.transition ≡ Process e.process → IsOnlyStep class limits s named
turn_alone class limits s us es e named is none one at going entry transition =
    let active : s.active ≡ (e.number, Evaluate e.process) ∷ [] = one_evaluation s.active us es e is none one at in
    record {
      only = subst (IsOnlyLooseEntry class limits s) (sym entry) (only_turn class limits s e.number e.process going active);
      transition_is = ap (loose_transition_of class s) entry
          ∙ (ap (λ l. loose_transition_of_action class (action_in l e.number)) active ∙ (ap (loose_transition_of_action class) (first_action e.number (Evaluate e.process) []) ∙ ap Some (sym transition)));
    }

pub update_alone : (class : ℕ → ℕ) (limits : Limits) (s : State) (us : List queued.Update) (es : List Evaluation) (u : queued.Update) (named : NamedEntry) → map update_event us ++ map evaluation_event es ≡ s.active → length us ≡ 1 → length es ≡ 0 → u ≡ get_or us 0 u
    → s.finished ≡ false → named.entry ≡ entries.Update u.number → named.transition ≡ FirstOf (class u.register) → IsOnlyStep class limits s named
update_alone class limits s us es u named is one none at going entry transition =
    let active : s.active ≡ update_event u ∷ [] = one_update s.active us es u is one none at in
    record {
      only = subst (IsOnlyLooseEntry class limits s) (sym entry) (only_update class limits s u going active);
      transition_is = ap (loose_transition_of class s) entry
          ∙ (ap (λ l. loose_transition_of_action class (action_in l u.number)) active ∙ (ap (loose_transition_of_action class) (first_action u.number (Action.Update u.register u.value) []) ∙ ap Some (sym transition)));
    }

pub turn_first : (class : ℕ → ℕ) (s : State) (es : List Evaluation) (e : Evaluation) (named : NamedEntry) → map evaluation_event (e ∷ es) ≡ s.active → named.entry ≡ Turn e.number → named.transition ≡ Process e.process → IsEventStep class s named
turn_first class s es e named is entry transition =
    record {
      takes = subst TakesEvent (sym entry) tt;
      transition_is = ap (loose_transition_of class s) entry
          ∙ (ap (λ l. loose_transition_of_action class (action_in l e.number)) (sym is) ∙ (ap (loose_transition_of_action class) (first_action e.number (Evaluate e.process) (map evaluation_event es)) ∙ ap Some (sym transition)));
    }

pub update_first : (class : ℕ → ℕ) (s : State) (us : List queued.Update) (es : List Evaluation) (u : queued.Update) (named : NamedEntry) → map update_event (u ∷ us) ++ map evaluation_event es ≡ s.active → named.entry ≡ entries.Update u.number → named.transition ≡ FirstOf (class u.register)
    → IsEventStep class s named
update_first class s us es u named is entry transition =
    record {
      takes = subst TakesEvent (sym entry) tt;
      transition_is = ap (loose_transition_of class s) entry
          ∙ (ap (λ l. loose_transition_of_action class (action_in l u.number)) (sym is)
          ∙ (ap (loose_transition_of_action class) (first_action u.number (Action.Update u.register u.value) (map update_event us ++ map evaluation_event es)) ∙ ap Some (sym transition)));
    }

-- the first of each list

pub update_front : (class : ℕ → ℕ) (s : State) (us : List queued.Update) (es : List Evaluation) (u : queued.Update) (named : NamedEntry) → map update_event us ++ map evaluation_event es ≡ s.active → 0 < length us → u ≡ get_or us 0 u → named.entry ≡ entries.Update u.number
    → named.transition ≡ FirstOf (class u.register) → IsEventStep class s named
update_front class s [] es u named is some at entry transition = absurd (omega (arith, some))
update_front class s (v ∷ us) es u named is some at entry transition =
    update_first class s us es u named (subst (λ (x : queued.Update). map update_event (x ∷ us) ++ map evaluation_event es ≡ s.active) (sym at) is) entry transition

pub turn_front : (class : ℕ → ℕ) (s : State) (us : List queued.Update) (es : List Evaluation) (e : Evaluation) (named : NamedEntry) → map update_event us ++ map evaluation_event es ≡ s.active → length us ≡ 0 → 0 < length es → e ≡ get_or es 0 e → named.entry ≡ Turn e.number
    → named.transition ≡ Process e.process → IsEventStep class s named
turn_front class s us [] e named is none some at entry transition = absurd (omega (arith, some))
turn_front class s us (f ∷ es) e named is none some at entry transition =
    let alone : map evaluation_event (f ∷ es) ≡ s.active = ap (λ (l : List queued.Update). map update_event l ++ map evaluation_event (f ∷ es)) (sym (none_of us none)) ∙ is in
    turn_first class s es e named (subst (λ (x : Evaluation). map evaluation_event (x ∷ es) ≡ s.active) (sym at) alone) entry transition
